-- How many events samples can bring: each makes one decision, and what decisions bring is counted by what has elapsed at a stage.
-- Assumes nothing.
use mathlib.Core.Path.{◌≡◌, refl, ap, ap₂, ◌∙◌}
use mathlib.Core.Bool.{true}
use mathlib.Core.List.{List, [], ◌∷◌, ◌++◌, map, map-append}
use Prim.Native.Nat.{ℕ, ◌+◌, ◌*◌, ◌≤◌}
use native.Mathlib.Omega.{arith}
use lib.IntN.{ℤ}
use lib.ListN.{length, length-append, length-map}
use Rattle.calls.specs.Runs.{gives}
use Rattle.control.specs.Rules.{reported}
use Rattle.control.proofs.Ranges.{control_stage}
use Rattle.control.proofs.Counting.{elapsed, control_slow, elapsed_most}
use Rattle.quality.specs.Quality.{least_with, tracked_after, measured}
use Rattle.quality.proofs.Laws.{numbers-only}
use Rattle.receiver.specs.declared.Receiver.{Receiver}
use Rattle.receiver.specs.Step.{control_of, decision_at, after_sample, events_at, measured_at, events_after, measured_after}
use Rattle.receiver.specs.Calls.{in_range, places_for}
use Rattle.receiver.proofs.Ranges.{in_range_lem}

events_slow : (s : Receiver) (xs : List ℤ) → 49 * length (events_after s xs) ≤ elapsed s.stage + length xs
unfolding gives after_sample tracked_after events_at
events_slow s [] = omega arith
events_slow s (x ∷ xs) =
    omega (
      arith,
      control_slow (control_of s) (decision_at s x),
      events_slow (after_sample s x) xs,
      length-append (reported (control_of s) (decision_at s x)) (events_after (after_sample s x) xs),
    )

-- from a state in its ranges, n samples bring at most n / 48 + 1 events
pub events-few : (s : Receiver) (xs : List ℤ) → in_range s ≡ true → length (events_after s xs) ≤ places_for (length xs)
events-few s xs h = omega (arith, events_slow s xs, elapsed_most s.stage (control_stage (control_of s) (in_range_lem s h).control))

-- their numbers are the events
pub measured-numbers : (s : Receiver) (xs : List ℤ) → map (λ (e : ℕ × ℤ). e.0) (measured_after s xs) ≡ events_after s xs
unfolding gives measured_at events_at measured
measured-numbers s [] = refl
measured-numbers s (x ∷ xs) =
    map-append (λ (e : ℕ × ℤ). e.0) (measured_at s x) (measured_after (after_sample s x) xs)
    ∙ ap₂ (λ (l m : List ℕ). l ++ m) (numbers-only (least_with s.smallest (decision_at s x).difference) (events_at s x)) (measured-numbers (after_sample s x) xs)

pub measured-few : (s : Receiver) (xs : List ℤ) → in_range s ≡ true → length (measured_after s xs) ≤ places_for (length xs)
measured-few s xs h =
    omega (arith, events-few s xs h, ap length (measured-numbers s xs), length-map (measured_after s xs) (λ (e : ℕ × ℤ). e.0))
