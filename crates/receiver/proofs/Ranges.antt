-- What the range tests of a state say, and that the step rule keeps the ranges.
-- Assumes nothing.
use Rattle.std.proofs.Common.{rules}
use mathlib.Core.Path.{◌≡◌, refl, ◌∙◌}
use mathlib.Core.Bool.{true}
use mathlib.Core.List.{List, [], ◌∷◌}
use mathlib.Mathlib.Data.Bool.Basic.{and_elim_left, and_elim_right, and_intro}
use Prim.Native.Nat.{ℕ}
use lib.IntN.{ℤ}
use lib.ListN.{drop}
use Rattle.calls.specs.Runs.{after}
use Rattle.tones.specs.Bands.{is_band, tones_of}
use Rattle.tones.specs.Samples.{is_sample, are_between, are_samples}
use Rattle.tones.proofs.Samples.{samples_append, samples-drop}
use Rattle.control.specs.Ranges.{is_stage, is_control}
use Rattle.control.proofs.Ranges.{control_kept}
use Rattle.quality.specs.Quality.{is_kept, tracked_after}
use Rattle.quality.proofs.Laws.{kept_kept}
use Rattle.receiver.specs.declared.Receiver.{Receiver}
use Rattle.receiver.specs.Step.{control_of, tracked_of, entered, decision_at, after_sample, state_after}
use Rattle.receiver.specs.Calls.{fresh, open_of, in_range}
use Rattle.receiver.proofs.Energies.{difference_natural}

pub record InRange (s : Receiver) : Type 0 where
  pub band : is_band s.band ≡ true
  pub window : are_samples s.window ≡ true
  pub control : is_control (control_of s) ≡ true
  pub kept : is_kept s.stage s.smallest ≡ true

pub in_range_lem : (s : Receiver) → in_range s ≡ true → InRange s
unfolding in_range
in_range_lem s h = search rules

pub from_ranges : (s : Receiver) → InRange s → in_range s ≡ true
unfolding in_range
from_ranges s r = search rules

step_kept : (s : Receiver) (x : ℤ) → in_range s ≡ true → is_sample x ≡ true → in_range (after_sample s x) ≡ true
unfolding after_sample tracked_after are_between
step_kept s x h l =
    let r : InRange s = in_range_lem s h in
    from_ranges (after_sample s x)
    (record {
      band = r.band;
      window = samples_append (drop 1 s.window) (x ∷ []) ∙ and_intro (samples-drop 1 s.window r.window) (and_intro l refl);
      control = control_kept (control_of s) (decision_at s x) r.control;
      kept = kept_kept (tracked_of s) (decision_at s x) r.kept (difference_natural (tones_of s.band) (entered s.window x));
    })

pub state_kept : (s : Receiver) (xs : List ℤ) → in_range s ≡ true → are_samples xs ≡ true → in_range (state_after s xs) ≡ true
unfolding after are_between
state_kept s [] h l = h
state_kept s (x ∷ xs) h l =
    state_kept (after_sample s x) xs (step_kept s x h (and_elim_left (is_sample x) (are_samples xs) l)) (and_elim_right (is_sample x) (are_samples xs) l)

-- ---- an opening of a band gives its fresh state, which is in its ranges

pub open_band : (band : ℕ) → is_band band ≡ true → (open_of band).state ≡ fresh band
unfolding open_of
open_band band h = rw h

pub fresh_kept : (band : ℕ) → is_band band ≡ true → in_range (fresh band) ≡ true
unfolding in_range are_between is_control is_stage is_kept
fresh_kept band h = and_intro h refl
