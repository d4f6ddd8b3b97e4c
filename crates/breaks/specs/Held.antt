-- A break that is held gives one event however long it lasts: over the step rule, and over lists of block calls, refused ones among
-- them. The specification, "A held break key".
-- Assumes nothing.
use Rattle.std.specs.Prelude.{◌≡◌, Bool, true, false, List, [], ◌∷◌, ◌++◌, ◌↔◌, ℕ, ℤ}
use Rattle.calls.specs.Lists as lists
use Rattle.control.specs.declared.Bit.TheVariants.{Space}
use Rattle.control.specs.declared.Stage.TheVariants.{Waiting, Held}
use Rattle.control.specs.Rules.{break_begun, run_after, ends_break}
use Rattle.receiver.specs.declared.Receiver.{Receiver}
use Rattle.receiver.specs.Step.{decision_at, after_sample, state_after, events_at, events_after}
use Rattle.receiver.specs.Calls.{in_range}
use Rattle.receiver.specs.Lists.{Call, call_of, samples_read, events_read}

-- ---- samples

-- the sample x begins a break: it is that of the stop slot, the byte is 0, the level is good, and the bit is space
pub record BeginsBreak (s : Receiver) (x : ℤ) : Type 0 where
  pub stop : s.stage ≡ Waiting 1 9 0
  pub good : (decision_at s x).good ≡ true
  pub space : (decision_at s x).bit ≡ Space

-- a state in its ranges tells 258 with x exactly if x begins a break
abbrev pub ToldExactly : Receiver → ℤ → Type 0
ToldExactly s x = in_range s ≡ true → ((events_at s x ≡ break_begun ∷ []) ↔ BeginsBreak s x)

-- the sample x ends a break: the run after it is 32, and mark is at least space
abbrev pub ended_by : Receiver → ℤ → Bool
ended_by s x = ends_break (run_after s.run (decision_at s x).good) (decision_at s x)

-- none of the samples ends it
unfoldable pub NoneEnds : Receiver → List ℤ → Type 0
NoneEnds s [] = Unit
NoneEnds s (x ∷ xs) = (ended_by s x ≡ false) × NoneEnds (after_sample s x) xs

-- while a break is held and none of the samples ends it, there is no event, and it is held still
abbrev pub HeldOver : Receiver → List ℤ → Type 0
HeldOver s xs = s.stage ≡ Held → NoneEnds s xs → (events_after s xs ≡ []) × ((state_after s xs).stage ≡ Held)

-- ---- lists of calls

-- the same of what the accepted calls read
abbrev pub HeldOverCalls : Receiver → List Call → Type 0
HeldOverCalls s calls =
    s.stage ≡ Held → NoneEnds s (samples_read s calls) → (events_read s calls ≡ []) × ((lists.state_after call_of s calls).stage ≡ Held)

-- a list of samples whose last part is a break: one sample begins it, and none behind that ends it
pub record EndsInBreak (s : Receiver) (xs : List ℤ) : Type 0 where
  pub before : List ℤ
  pub first : ℤ
  pub behind : List ℤ
  pub parts : xs ≡ before ++ first ∷ behind
  pub begins : BeginsBreak (state_after s before) first
  pub lasts : NoneEnds (after_sample (state_after s before) first) behind

-- such a list gives one event more than the part before the break
abbrev pub OneEvent : Receiver → List Call → Type 0
OneEvent s calls =
    (b : EndsInBreak s (samples_read s calls))
    → (events_read s calls ≡ events_after s b.before ++ break_begun ∷ []) × ((lists.state_after call_of s calls).stage ≡ Held)

-- ---- that there are breaks

-- a state in its ranges, and a sample that begins one
pub record SomeBreak (band : ℕ) : Type 0 where
  pub state : Receiver
  pub sample : ℤ
  pub in_band : state.band ≡ band
  pub in_range : in_range state ≡ true
  pub begins : BeginsBreak state sample
