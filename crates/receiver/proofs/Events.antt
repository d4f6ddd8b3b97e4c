-- From a state in its ranges, samples bring only what `is_event` of `control` names. From the same of decisions.
-- Assumes nothing.
use mathlib.Core.Path.{◌≡◌}
use mathlib.Core.Bool.{true}
use mathlib.Core.List.{List, [], ◌∷◌}
use lib.IntN.{ℤ}
use Rattle.integers.specs.All.{All, none}
use Rattle.integers.proofs.All.{all_append}
use Rattle.calls.specs.Runs.{gives}
use Rattle.control.specs.Ranges.{is_control}
use Rattle.control.specs.Rules.{is_event}
use Rattle.control.proofs.Ranges.{control_kept}
use Rattle.control.proofs.Events.{Known, reported-known}
use Rattle.quality.specs.Quality.{tracked_after}
use Rattle.receiver.specs.declared.Receiver.{Receiver}
use Rattle.receiver.specs.Step.{control_of, decision_at, after_sample, events_at, events_after}
use Rattle.receiver.specs.Calls.{in_range}
use Rattle.receiver.proofs.Ranges.{in_range_lem}

from-control : (s : Receiver) (xs : List ℤ) → is_control (control_of s) ≡ true → Known (events_after s xs)
unfolding gives after_sample tracked_after events_at
from-control s [] h = none
from-control s (x ∷ xs) h =
    all_append (reported-known (control_of s) (decision_at s x) h) (from-control (after_sample s x) xs (control_kept (control_of s) (decision_at s x) h))

pub events-known : (s : Receiver) (xs : List ℤ) → in_range s ≡ true → All (λ n. is_event n ≡ true) (events_after s xs)
events-known s xs h = from-control s xs (in_range_lem s h).control
