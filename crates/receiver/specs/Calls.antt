-- The receiver's calls: the specification, "Reader, step by step", "Refused calls" and "Quality beside each character". Each has its table of
-- refusals, in the specification's order.
-- Assumes nothing.
use Rattle.std.specs.Prelude.{Bool, cond, not, ◌&&◌, List, [], ◌∷◌, ℕ, ◌+◌, ◌/◌, min, ltb, ℤ, pos, length, replicate, None}
use Rattle.calls.specs.Refusals.{Test, test, first_of}
use Rattle.calls.specs.Outcome.{Outcome, Opening, Lending, unless_refused, accepted_in, one_list, both_in}
use Rattle.tones.specs.Bands.{is_band}
use Rattle.tones.specs.Samples.{most_samples, are_samples}
use Rattle.control.specs.declared.Stage.TheVariants.{Searching}
use Rattle.control.specs.Ranges.{is_control}
use Rattle.quality.specs.Quality.{is_kept}
use Rattle.receiver.specs.declared.Receiver.{Receiver}
use Rattle.receiver.specs.Step.{control_of, state_after, measured_after, indexed_after}

-- ---- opening

-- a fresh receiver has a window of zeros and run 0, searches, and has no difference
abbrev pub fresh : ℕ → Receiver
fresh band = record { band = band; window = replicate 32 (pos 0); run = 0; stage = Searching; smallest = None }

-- the fresh state of the band, or 1 and the fresh state of band 1
abbrev pub open_tests : ℕ → List Test
open_tests band = test 1 (not (is_band band)) ∷ []

unfoldable pub open_of : ℕ → Opening Receiver
open_of band = record { number = first_of (open_tests band); state = fresh (cond (is_band band) band 1) }

-- ---- the ranges of a state

-- every field by itself is in its range, each of the 32 samples too (decision 18), and the difference is there exactly where the stage has one
unfoldable pub in_range : Receiver → Bool
in_range s = is_band s.band && (are_samples s.window && (is_control (control_of s) && is_kept s.stage s.smallest))

-- ---- a block

-- the places that a block of n samples needs
abbrev pub places_for : ℕ → ℕ
places_for n = n / 48 + 1

-- those of the longest block: 342
abbrev pub most_events : ℕ
most_events = places_for most_samples

-- the tests of a block, in this order: the ranges of the state, the number of samples, their range, and the places that are needed
abbrev pub tests_of : (ranged : Bool) (xs : List ℤ) (needed places : ℕ) → List Test
tests_of ranged xs needed places =
    test 2 (not ranged)
    ∷ test 3 (ltb most_samples (length xs))
    ∷ test 5 (not (are_samples xs))
    ∷ test 4 (ltb places needed)
    ∷ []

-- 2, 3, 5 or 4, or the events of the samples
abbrev pub block_tests : (s : Receiver) (xs : List ℤ) (places : ℕ) → List Test
block_tests s xs places = tests_of (in_range s) xs (places_for (length xs)) places

-- the two lent lists, which are filled together: the numbers of the events and, place by place, their differences
abbrev pub EventLists : Type 0
EventLists = List ℕ × List ℤ

abbrev pub two_lists : Lending EventLists (ℕ × ℤ)
two_lists = both_in one_list one_list

-- the shorter one's places are those that count
abbrev pub shorter : EventLists → ℕ
shorter lent = min (length lent.0) (length lent.1)

unfoldable pub block_of : Receiver → List ℤ → EventLists → Outcome Receiver EventLists
block_of s xs lent =
    unless_refused (block_tests s xs (shorter lent)) s lent (accepted_in two_lists (state_after s xs) (measured_after s xs) lent)

-- ---- a block with indices, which a third list is lent for: beside each event the index of its sample in the block

abbrev pub shortest : EventLists × List ℕ → ℕ
shortest lent = min (shorter lent.0) (length lent.1)

unfoldable pub indexed_of : Receiver → List ℤ → EventLists × List ℕ → Outcome Receiver (EventLists × List ℕ)
indexed_of s xs lent =
    unless_refused (block_tests s xs (shortest lent)) s lent (accepted_in (both_in two_lists one_list) (state_after s xs) (indexed_after s xs) lent)
