-- An accepted block: the decisions at the windows of the source are those that the samples make by the step rule. From the step rule by
-- windows and the bound on events.
-- Assumes nothing.
use mathlib.Core.Path.{◌≡◌, sym, ap, subst, ◌∙◌}
use mathlib.Core.Bool.{true}
use mathlib.Core.List.{List, ◌++◌}
use Prim.Native.Nat.{◌≤◌}
use native.Mathlib.Omega.{arith}
use lib.IntN.{ℤ}
use lib.ListN.{length, drop, length-append, length-drop}
use Rattle.std.specs.Prelude.{Ok}
use Rattle.calls.specs.Outcome.{outcome, as_answer, accepted_in}
use Rattle.tones.specs.Bands.{tones_of}
use Rattle.control.specs.declared.Decision.{Decision}
use Rattle.quality.specs.declared.Tracked.{Tracked}
use Rattle.quality.specs.Quality.{track, measures_from}
use Rattle.receiver.specs.declared.Receiver.{Receiver}
use Rattle.receiver.specs.Energy.{decision_of}
use Rattle.receiver.specs.declared.filling.Lists.{Lists}
use Rattle.receiver.specs.Step.{tracked_of, state_after, measured_after, indexed_after}
use Rattle.receiver.specs.Calls.{in_range, places_for, two_lists}
use Rattle.receiver.specs.Lent.{Put}
use Rattle.receiver.proofs.Counting.{measured-few}
use Rattle.receiver.proofs.Windows.{length-decisions, decisions_over, by_windows, band-after, window-after}
use Rattle.receiver.proofs.Calls.{told-count, put_read}

module _ (s : Receiver) (xs : List ℤ) (long : length s.window ≡ 32) (ds : List Decision) (e : ds ≡ decisions_over s xs) where
  -- one for each sample
  pub block-long : length ds ≡ length xs
  block-long =
      omega (
        arith,
        ap length e,
        length-decisions (decision_of (tones_of s.band)) (drop 1 s.window ++ xs),
        length-append (drop 1 s.window) xs,
        length-drop 1 s.window,
      )

  -- they bring its events
  pub block-told : measures_from 0 (tracked_of s) ds ≡ indexed_after s xs
  block-told = ap (measures_from 0 (tracked_of s)) e ∙ sym ((by_windows s xs long).indexed 0)

  pub block-few : in_range s ≡ true → length (measures_from 0 (tracked_of s) ds) ≤ places_for (length xs)
  block-few h = omega (arith, ap length block-told, told-count s xs, measured-few s xs h)

  -- and lead to the state behind it
  pub block-state : (last : Tracked) → last ≡ track (tracked_of s) ds → (window : List ℤ) → window ≡ drop (length xs) (s.window ++ xs)
      → record { band = s.band; window = window; run = last.control.run; stage = last.control.stage; smallest = last.smallest } ≡ state_after s xs
  block-state last t window w i =
      let to : last ≡ tracked_of (state_after s xs) = t ∙ ap (track (tracked_of s)) e ∙ sym (by_windows s xs long).tracked in
      record {
        band = sym (band-after s xs) i;
        window = (w ∙ sym (window-after s xs long)) i;
        run = (to i).control.run;
        stage = (to i).control.stage;
        smallest = (to i).smallest;
      }

  -- what is read of it: the state as the code builds it, and the lists with its events at their front
  pub block_read : in_range s ≡ true → (last : Tracked) → last ≡ track (tracked_of s) ds → (window : List ℤ) → window ≡ drop (length xs) (s.window ++ xs)
      → (old new : Lists) → old.count ≡ 0 → Put old new (measures_from 0 (tracked_of s) ds)
      → places_for (length xs) ≤ length old.events.now → places_for (length xs) ≤ length old.differences.now
      → outcome (as_answer (Ok new.count))
      (record { band = s.band; window = window; run = last.control.run; stage = last.control.stage; smallest = last.smallest })
      (new.events.now, new.differences.now)
      ≡ accepted_in two_lists (state_after s xs) (measured_after s xs) (old.events.now, old.differences.now)
  block_read range last t window w old new empty p m n =
      let few = measured-few s xs range in
      ap (λ (u : Receiver). outcome (as_answer (Ok new.count)) u (new.events.now, new.differences.now)) (block-state last t window w)
      ∙ put_read s xs old new empty (subst (Put old new) block-told p) (omega (arith, few, m)) (omega (arith, few, n))
