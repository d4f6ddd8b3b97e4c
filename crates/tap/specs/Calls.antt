-- The tap's calls: the specification, "Both directions on one tap", "Refused calls" and "Quality beside each character".
-- Assumes nothing.
use Rattle.std.specs.Prelude.{Bool, cond, not, ◌&&◌, List, [], ◌∷◌, ℕ, ◌*◌, eqb, ℤ, length}
use Rattle.calls.specs.Refusals.{Test, test, first_of}
use Rattle.calls.specs.Outcome.{Opening, Outcome, unless_refused, accepted_in}
use Rattle.tones.specs.Bands.{is_band, is_pair}
use Rattle.receiver.specs.Calls as receiver
use Rattle.receiver.specs.Calls.{EventLists, two_lists, shorter}
use Rattle.tap.specs.declared.Tap.{Tap}
use Rattle.tap.specs.Step.{state_after, measured_after}

-- ---- opening

-- a fresh tap has the fresh receivers of its bands
abbrev pub fresh : (first second : ℕ) → Tap
fresh first second = record { first = receiver.fresh first; second = receiver.fresh second }

-- either is no band, and then the pair
abbrev pub open_tests : (first second : ℕ) → List Test
open_tests first second = test 1 (not (is_band first && is_band second)) ∷ test 8 (not (is_pair first second)) ∷ []

-- the fresh tap of the bands, or 1 or 8 and the fresh tap of 1 and 2
unfoldable pub open_of : (first second : ℕ) → Opening Tap
open_of first second =
    let number = first_of (open_tests first second) in record { number = number; state = cond (eqb number 0) (fresh first second) (fresh 1 2) }

-- ---- the ranges of a state

-- each receiver is in its ranges, and their bands are a pair; their windows need not agree
unfoldable pub in_range : Tap → Bool
in_range t = receiver.in_range t.first && (receiver.in_range t.second && is_pair t.first.band t.second.band)

-- ---- a block

-- twice the places of one receiver
abbrev pub places_for : ℕ → ℕ
places_for n = 2 * receiver.places_for n

-- a receiver's tests, in a receiver's order
abbrev pub block_tests : (t : Tap) (xs : List ℤ) (places : ℕ) → List Test
block_tests t xs places = receiver.tests_of (in_range t) xs (places_for (length xs)) places

-- the numbers of the events fill the first list, and their differences the second
unfoldable pub block_of : Tap → List ℤ → EventLists → Outcome Tap EventLists
block_of t xs lent =
    unless_refused (block_tests t xs (shorter lent)) t lent (accepted_in two_lists (state_after t xs) (measured_after t xs) lent)
