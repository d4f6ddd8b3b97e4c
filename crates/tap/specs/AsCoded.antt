-- How the code puts two lists of events together: by the indices of their samples. Nothing here has to be believed to read the contracts of
-- the public calls. The definitions are ours.
-- Assumes nothing.
use Rattle.std.specs.Prelude.{◌≡◌, Bool, true, false, cond, List, [], ◌∷◌, map, ℕ, ◌<◌, leb, ℤ, length, Option, Some, None}
use Rattle.integers.specs.All.{All}
use Rattle.tap.specs.Step.{in_band, measured_in}

-- two lists with indices, in the order of these; of equal ones the first list's goes first
unfoldable pub merged : {A : Type 0} → List (A × ℕ) → List (A × ℕ) → List (A × ℕ)
merged [] ys = ys
merged (x ∷ xs) [] = x ∷ xs
merged (x ∷ xs) (y ∷ ys) = cond (leb x.1 y.1) (x ∷ merged xs (y ∷ ys)) (y ∷ merged (x ∷ xs) ys)

-- each event with its band
abbrev pub banded : ℕ → List ((ℕ × ℤ) × ℕ) → List ((ℕ × ℤ) × ℕ)
banded band = map (λ (e : (ℕ × ℤ) × ℕ). (measured_in band e.0, e.1))

-- the three lists that the code has of a receiver: events below 1,000, their differences, and the indices of their samples
pub record AreEvents (events : List ℕ) (differences : List ℤ) (indices : List ℕ) : Type 0 where
  pub measured : length events ≡ length differences
  pub told : length events ≡ length indices
  pub small : All (λ n. n < 1000) events

-- these put together, each with its band
abbrev pub listed : ℕ → List ℕ → List ℤ → List ℕ → List ((ℕ × ℤ) × ℕ)
listed band [] ds is = []
listed band (n ∷ ns) [] is = []
listed band (n ∷ ns) (d ∷ ds) [] = []
listed band (n ∷ ns) (d ∷ ds) (i ∷ is) = ((in_band band n, d), i) ∷ listed band ns ds is

-- the events with their differences, of two such lists
abbrev pub merged_events : List ((ℕ × ℤ) × ℕ) → List ((ℕ × ℤ) × ℕ) → List (ℕ × ℤ)
merged_events xs ys = map (λ (e : (ℕ × ℤ) × ℕ). e.0) (merged xs ys)

-- the two sides of these
abbrev pub numbers_of : List (ℕ × ℤ) → List ℕ
numbers_of = map (λ (e : ℕ × ℤ). e.0)

abbrev pub differences_of : List (ℕ × ℤ) → List ℤ
differences_of = map (λ (e : ℕ × ℤ). e.1)

-- whether the next is of the first list, by the indices
abbrev pub comes_first : {A : Type 0} → List (A × ℕ) → List (A × ℕ) → Bool
comes_first [] ys = false
comes_first (x ∷ xs) [] = true
comes_first (x ∷ xs) (y ∷ ys) = leb x.1 y.1

-- the first is taken from a list with indices, if there is one, and these are left
abbrev pub IsTaken : {A : Type 0} → List (A × ℕ) → Option A → List (A × ℕ) → Type 0
IsTaken [] taken left = (taken ≡ None) × (left ≡ [])
IsTaken (x ∷ xs) taken left = (taken ≡ Some x.0) × (left ≡ xs)
