-- That the difference of each event is the smallest over the slots of its own character, over lists of decisions: the specification,
-- "Quality beside each character". The decisions of a list are counted from 0.
-- Assumes nothing.
use Rattle.std.specs.Prelude.{◌≡◌, true, false, cond, List, ℕ, zero, suc, ◌+◌, ◌-◌, ◌*◌, ◌<◌, ◌≤◌, ℤ, length, get_or, take, None}
use Rattle.std.specs.Int.Signed.{lt_z}
use Rattle.integers.specs.All.{All}
use Rattle.control.specs.declared.Decision.{Decision}
use Rattle.control.specs.declared.Stage.TheVariants.{Waiting}
use Rattle.control.specs.Ranges.{is_control}
use Rattle.control.specs.Rules.{carrier_lost, bit_doubtful}
use Rattle.quality.specs.declared.Tracked.{Tracked}
use Rattle.quality.specs.Quality.{is_gathering, track, measures_from}

-- the smallest of f 0 to f n
abbrev pub least_of : (ℕ → ℤ) → ℕ → ℤ
least_of f zero = f zero
least_of f (suc n) = cond (lt_z (f (suc n)) (least_of f n)) (f (suc n)) (least_of f n)

-- `difference i` is the difference of decision i, inside the list
abbrev pub Differences : (ℕ → ℤ) → List Decision → Type 0
Differences difference ds = (d : Decision) (i : ℕ) → i < length ds → difference i ≡ (get_or ds i d).difference

-- run and stage are in their ranges, and no data slot of a character has been taken
pub record NoneTaken (s : Tracked) : Type 0 where
  pub in_range : is_control s.control ≡ true
  pub none : s.smallest ≡ None
  pub ahead : is_gathering s.control.stage ≡ false

-- decision i of the list, which is read from s on, takes this slot
pub record TakesSlot (s : Tracked) (ds : List Decision) (slot i : ℕ) : Type 0 where
  pub byte : ℕ
  pub waits : (track s (take i ds)).control.stage ≡ Waiting 1 slot byte

-- a character, one without a stop bit and a break are told at the stop slot; the other two events at any of the slots 1 to 9
abbrev pub AtStop : ℕ → ℕ → Type 0
AtStop event slot = (event ≡ carrier_lost → ⊥) → (event ≡ bit_doubtful → ⊥) → slot ≡ 9

-- The event e is told at a data or stop slot of its character. Slot 1 is taken by decision `first`, each further one by the decision 32
-- later, and the difference of the event is the smallest of theirs.
pub record OwnSlots (s : Tracked) (difference : ℕ → ℤ) (ds : List Decision) (e : (ℕ × ℤ) × ℕ) : Type 0 where
  pub first : ℕ
  pub slot : ℕ
  pub low : 1 ≤ slot
  pub high : slot ≤ 9
  pub takes : (j : ℕ) → j < slot → TakesSlot s ds (j + 1) (first + 32 * j)
  pub told : e.1 ≡ first + 32 * (slot - 1)
  pub inside : e.1 < length ds
  pub smallest : e.0.1 ≡ least_of (λ j. difference (first + 32 * j)) (slot - 1)
  pub whole : AtStop e.0.0 slot

-- what is claimed of every event
abbrev pub EventsOwn : Tracked → (ℕ → ℤ) → List Decision → Type 0
EventsOwn s difference ds = NoneTaken s → Differences difference ds → All (OwnSlots s difference ds) (measures_from 0 s ds)
