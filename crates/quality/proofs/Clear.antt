-- A machine that doubts more strictly: if it reads without a fault, no data or stop slot met a smaller difference than it asks for, and the
-- machine as it is did the same.
-- Assumes nothing.
use mathlib.Core.Path.{◌≡◌, refl, ap, ap₂, ◌∙◌, subst}
use mathlib.Core.Bool.{Bool, true, false, cond, not, true≢false}
use mathlib.Core.List.{List, [], ◌∷◌, ◌++◌, map}
use Prim.Native.Nat.{ℕ, ◌-◌}
use lib.Dec.{eqb}
use lib.IntN.{ℤ, pos}
use lib.Signed.{lt_z, le_z}
use Rattle.std.specs.Prelude.{Option, Some, None}
use Rattle.integers.specs.All.{All, none, more}
use Rattle.integers.proofs.All.{all_append, all_front, all_behind}
use Rattle.integers.proofs.Tests.{cond_case, cond-split}
use Rattle.std.proofs.Common.{rules}
use Rattle.calls.specs.Runs.{gives}
use Rattle.control.specs.declared.Bit.{Bit}
use Rattle.control.specs.declared.Bit.TheVariants.{Doubtful}
use Rattle.control.specs.declared.Decision.{Decision}
use Rattle.control.specs.declared.event.Event.TheVariants.{CarrierLost}
use Rattle.control.specs.declared.Stage.{Stage}
use Rattle.control.specs.declared.Stage.TheVariants.{Searching, Waiting, Held}
use Rattle.control.specs.declared.Control.{Control}
use Rattle.control.specs.declared.Moved.{Moved}
use Rattle.control.specs.Rules.{carrier_lost, bit_doubtful, numbers, report, bit_taken, run_after, taken, next_of, moved_by, control_after, reported, reports}
use Rattle.control.specs.AsCoded.{is_doubt}
use Rattle.quality.specs.declared.Tracked.{Tracked}
use Rattle.quality.specs.Quality.{least_with, takes_bit, kept_in, tracked_after, measured, measures}

-- ---- one decision

-- the same, but the bit is doubtful also where the difference is below `clear`
abbrev pub strict : (clear : ℕ) → Decision → Decision
strict clear d =
    record {
      good = d.good;
      space = d.space;
      bit = cond (le_z (pos clear) d.difference) d.bit Doubtful;
      difference = d.difference;
    }

-- no event is a lost carrier or a doubtful bit
abbrev pub AreRead : List ℕ → Type 0
AreRead = All (λ n. (n ≡ carrier_lost → ⊥) × (n ≡ bit_doubtful → ⊥))

module _ (clear : ℕ) (d : Decision) where
  -- a bit that is not doubtful then is the bit
  pub strict_bit : (bit : Bit) → is_doubt bit ≡ false → (strict clear d).bit ≡ bit → d.bit ≡ bit
  strict_bit bit n =
      cond-split (λ (b : Bit). b ≡ bit → d.bit ≡ bit) (le_z (pos clear) d.difference) d.bit Doubtful
      (λ e h. h)
      (λ e h. absurd (true≢false (ap is_doubt h ∙ n)))

  -- with so large a difference nothing is changed
  strict_same : le_z (pos clear) d.difference ≡ true → strict clear d ≡ d
  strict_same e = rw e refl

  -- One sample, if the strict machine reads it without a fault: it does the same, and a data or stop slot has so large a difference;
  -- where there is no such slot nothing is told.
  record Step (stage : Stage) (run : ℕ) : Type 0 where
    same : next_of stage run (strict clear d) ≡ next_of stage run d
    enough : takes_bit stage ≡ true → le_z (pos clear) d.difference ≡ true
    untold : takes_bit stage ≡ false → (next_of stage run d).event ≡ None

  -- it is read at a slot only with so large a difference
  slot_read : (slot byte : ℕ) → eqb slot 0 ≡ false → AreRead (numbers (taken slot byte (strict clear d)).event) → le_z (pos clear) d.difference ≡ true
  unfolding taken
  slot_read slot byte z h = go (le_z (pos clear) d.difference) d.good (rw z at h)
    where
      go : (large good : Bool) → AreRead (numbers (cond (not good) (report CarrierLost) (bit_taken slot byte (cond large d.bit Doubtful))).event) → large ≡ true
      go true good h = refl
      go false true (more h r) = absurd (h.1 refl)
      go false false (more h r) = absurd (h.0 refl)

  step : (stage : Stage) (run : ℕ) → AreRead (numbers (next_of stage run (strict clear d)).event) → Step stage run
  unfolding next_of taken
  step Searching run h = record { same = refl; enough = λ t. search rules; untold = λ t. refl }
  step Held run h = record { same = refl; enough = λ t. search rules; untold = λ t. refl }
  step (Waiting wait slot byte) run h = go (takes_bit (Waiting wait slot byte)) refl
    where
      go : (takes : Bool) → takes_bit (Waiting wait slot byte) ≡ takes → Step (Waiting wait slot byte) run
      go false e = record { same = search rules; enough = λ t. search rules; untold = λ t. search rules }
      go true e =
          let over : eqb (wait - 1) 0 ≡ true = search rules in
          let large = slot_read slot byte (search rules) (rw over at h) in
          record {
            same = ap (next_of (Waiting wait slot byte) run) (strict_same large);
            enough = λ t. large;
            untold = λ t. search rules;
          }

-- ---- beside the smallest difference

-- the one so far is at least `clear`, if there is one
pub data AtLeast (clear : ℕ) : Option ℤ → Type 0 where
  none_yet : AtLeast clear None
  so_far : {least : ℤ} → le_z (pos clear) least ≡ true → AtLeast clear (Some least)

-- and so is that of each event
abbrev pub AllAtLeast : ℕ → List (ℕ × ℤ) → Type 0
AllAtLeast clear = All (λ (e : ℕ × ℤ). le_z (pos clear) e.1 ≡ true)

module _ (clear : ℕ) where
  least_enough : {q : Option ℤ} → AtLeast clear q → (d : ℤ) → le_z (pos clear) d ≡ true → le_z (pos clear) (least_with q d) ≡ true
  least_enough none_yet d h = h
  least_enough (so_far {least = least} l) d h = cond_case (λ (v : ℤ). le_z (pos clear) v ≡ true) (lt_z d least) d least h l

  kept_enough : (stage : Stage) (least : ℤ) → le_z (pos clear) least ≡ true → AtLeast clear (kept_in stage least)
  kept_enough Searching least h = none_yet
  kept_enough (Waiting wait slot byte) least h = so_far h
  kept_enough Held least h = none_yet

  events_enough : (ns : List ℕ) (v : ℤ) → le_z (pos clear) v ≡ true → AllAtLeast clear (map (λ n. (n, v)) ns)
  events_enough [] v h = none
  events_enough (n ∷ ns) v h = more h (events_enough ns v h)

-- a decision that the strict machine reads without a fault: run and stage move the same, and the smallest difference stays so large
module _ (clear : ℕ) (s : Tracked) (l : AtLeast clear s.smallest) (d : Decision) (h : AreRead (reported s.control (strict clear d))) where
  abbrev run : ℕ
  run = run_after s.control.run d.good

  one : Step clear d s.control.stage run
  unfolding reported moved_by
  one = step clear d s.control.stage run h

  moved_same : moved_by s.control (strict clear d) ≡ moved_by s.control d
  unfolding moved_by
  moved_same = rw one.same

  control_same : control_after s.control (strict clear d) ≡ control_after s.control d
  unfolding control_after
  control_same = ap (λ (m : Moved). m.control) moved_same

  reported_same : reported s.control (strict clear d) ≡ reported s.control d
  unfolding reported
  reported_same = ap (λ (m : Moved). numbers m.event) moved_same

  least : takes_bit s.control.stage ≡ true → le_z (pos clear) (least_with s.smallest d.difference) ≡ true
  least t = least_enough clear l d.difference (one.enough t)

  still : AtLeast clear (tracked_after s d).smallest
  unfolding tracked_after
  still =
      cond-split (AtLeast clear) (takes_bit s.control.stage) _ _
      (λ t. kept_enough clear (control_after s.control d).stage _ (least t))
      (λ t. l)

  told : AllAtLeast clear (measured s d)
  unfolding measured reported moved_by
  told = go (takes_bit s.control.stage) refl
    where
      go : (b : Bool) → takes_bit s.control.stage ≡ b → AllAtLeast clear (measured s d)
      go true t = events_enough clear (reported s.control d) _ (least t)
      go false t = rw (one.untold t) none

-- A list of decisions that the strict machine reads without a fault: the machine gives the same, and each event with so large a
-- difference.
pub record ReadClearly (clear : ℕ) (s : Tracked) (ds : List Decision) : Type 0 where
  pub same : reports s.control (map (strict clear) ds) ≡ reports s.control ds
  pub differences : AllAtLeast clear (measures s ds)

pub all_clear : (clear : ℕ) (s : Tracked) → AtLeast clear s.smallest → (ds : List Decision)
    → AreRead (reports s.control (map (strict clear) ds)) → ReadClearly clear s ds
unfolding gives tracked_after
all_clear clear s l [] h = record { same = refl; differences = none }
all_clear clear s l (d ∷ ds) h =
    let first : AreRead (reported s.control (strict clear d)) = all_front _ _ h in
    let control = control_same clear s l d first in
    let rest = all_clear clear (tracked_after s d) (still clear s l d first) ds
    (subst (λ (c : Control). AreRead (reports c (map (strict clear) ds))) control (all_behind (reported s.control (strict clear d)) _ h)) in
    record {
      same =
          ap₂ (λ (ns : List ℕ) (c : Control). ns ++ reports c (map (strict clear) ds)) (reported_same clear s l d first) control
          ∙ ap (λ (ns : List ℕ). reported s.control d ++ ns) rest.same;
      differences = all_append (told clear s l d first) rest.differences;
    }
