-- When a bit is told as doubtful, over the step rule, and that a line inside the margin never shows one, over lists of calls: the
-- specification, "Doubtful bits".
-- Assumes nothing.
use Rattle.std.specs.Prelude.{◌≡◌, true, List, [], ◌∷◌, ◌↔◌, ℕ, ◌*◌, ◌<◌, ◌≤◌, max, min, ℤ}
use Rattle.integers.specs.All.{All}
use Rattle.tones.specs.Bands.{is_band, tones_of}
use Rattle.control.specs.declared.Stage.TheVariants.{Searching, Waiting}
use Rattle.control.specs.Rules.{bit_doubtful}
use Rattle.weighing.specs.Weighing.{level}
use Rattle.receiver.specs.declared.Receiver.{Receiver}
use Rattle.receiver.specs.Energy.{energyℕ}
use Rattle.receiver.specs.Step.{entered, after_sample, events_at}
use Rattle.receiver.specs.Calls.{fresh, in_range}
use Rattle.receiver.specs.Lists.{events_read}
use Rattle.margin.specs.Windows.{disturbance}
use Rattle.promise.specs.Recordings.{Transmission, events}
use Rattle.breaks.specs.Line.{Line}

-- ---- samples

-- the larger and the smaller energy of the window that the sample x completes
module _ (s : Receiver) (x : ℤ) where
  abbrev pub space_at : ℕ
  space_at = energyℕ (entered s.window x) (tones_of s.band).space

  abbrev pub mark_at : ℕ
  mark_at = energyℕ (entered s.window x) (tones_of s.band).mark

  abbrev pub larger_at : ℕ
  larger_at = max space_at mark_at

  abbrev pub smaller_at : ℕ
  smaller_at = min space_at mark_at

-- the sample x is that of a data or stop slot, the level is good, and four times the larger energy is less than five times the smaller
pub record Doubted (s : Receiver) (x : ℤ) : Type 0 where
  pub slot : ℕ
  pub byte : ℕ
  pub taken : s.stage ≡ Waiting 1 slot byte
  pub no_start : 1 ≤ slot
  pub good : level ≤ larger_at s x
  pub close : 4 * larger_at s x < 5 * smaller_at s x

-- a state in its ranges tells 259 with x exactly then, and then it searches
abbrev pub ToldExactly : Receiver → ℤ → Type 0
ToldExactly s x = in_range s ≡ true → ((events_at s x ≡ bit_doubtful ∷ []) ↔ Doubted s x)

abbrev pub ThenSearches : Receiver → ℤ → Type 0
ThenSearches s x = Doubted s x → (after_sample s x).stage ≡ Searching

-- a state in its ranges, and a sample at which its bit is doubtful
pub record SomeDoubt (band : ℕ) : Type 0 where
  pub state : Receiver
  pub sample : ℤ
  pub in_band : state.band ≡ band
  pub in_range : in_range state ≡ true
  pub doubted : Doubted state sample

-- ---- lists of calls

-- 259 is not among the events
abbrev pub NoneDoubtful : List ℕ → Type 0
NoneDoubtful = All (λ event. event ≡ bit_doubtful → ⊥)

-- ---- all that is claimed

pub record Doubts : Type 0 where
  -- over the step rule: what brings 259, and what it leads to
  pub told : (s : Receiver) (x : ℤ) → ToldExactly s x
  pub searches : (s : Receiver) (x : ℤ) → ThenSearches s x
  pub some : (band : ℕ) → is_band band ≡ true → SomeDoubt band
  -- a line inside the margin never shows 259: a recording as in the promise, and a line of characters and breaks
  pub in_recordings : (t : Transmission disturbance) → NoneDoubtful (events t)
  pub in_lines : (l : Line disturbance) → NoneDoubtful (events_read (fresh l.band) l.blocks)
