-- Run and stage, and the numbers of the events, are those without the differences; and no difference that is kept or told is negative.
-- Assumes nothing.
use mathlib.Core.Path.{◌≡◌, refl, ap, ap₂, ◌∙◌}
use mathlib.Core.Bool.{Bool, true, false, cond, not, ◌&&◌}
use mathlib.Core.List.{List, [], ◌∷◌, ◌++◌, map, map-append}
use mathlib.Mathlib.Data.Bool.Basic.{and_elim_right, and_intro}
use Prim.Native.Nat.{ℕ, ◌+◌, ◌-◌}
use native.Mathlib.Omega.{arith}
use borrow.Author.Tests.{le-leb, eq-eqb, ne_eqb}
use lib.Dec.{eqb}
use lib.IntN.{ℤ, pos}
use lib.Signed.{lt_z, le_z}
use Rattle.std.specs.Prelude.{Option, Some, None}
use Rattle.std.proofs.Common.{rules}
use Rattle.integers.proofs.Tests.{cond_case, cond-split}
use Rattle.calls.specs.Runs.{after, gives}
use Rattle.control.specs.declared.Decision.{Decision}
use Rattle.control.specs.declared.Next.{Next}
use Rattle.control.specs.declared.Stage.{Stage}
use Rattle.control.specs.declared.Stage.TheVariants.{Searching, Waiting, Held}
use Rattle.control.specs.Rules.{run_after, taken, next_of, moved_by, control_after, reported, follow, reports}
use Rattle.control.proofs.Rules.{taken_case}
use Rattle.quality.specs.declared.Tracked.{Tracked}
use Rattle.quality.specs.Quality.{least_with, is_gathering, is_kept, takes_bit, kept_in, tracked_after, measured, track, measures}

-- ---- run and stage, and the events

pub control_part : (s : Tracked) (ds : List Decision) → (track s ds).control ≡ follow s.control ds
unfolding after tracked_after
control_part s [] = refl
control_part s (d ∷ ds) = control_part (tracked_after s d) ds

-- of the pairs with the same second side
pub numbers-only : (z : ℤ) (ns : List ℕ) → map (λ (e : ℕ × ℤ). e.0) (map (λ (n : ℕ). (n, z)) ns) ≡ ns
numbers-only z [] = refl
numbers-only z (n ∷ ns) = ap (λ (l : List ℕ). n ∷ l) (numbers-only z ns)

pub numbers_part : (s : Tracked) (ds : List Decision) → map (λ (e : ℕ × ℤ). e.0) (measures s ds) ≡ reports s.control ds
unfolding gives tracked_after measured
numbers_part s [] = refl
numbers_part s (d ∷ ds) =
    map-append (λ (e : ℕ × ℤ). e.0) (measured s d) (measures (tracked_after s d) ds)
    ∙ ap₂ (λ (l m : List ℕ). l ++ m) (numbers-only (least_with s.smallest d.difference) (reported s.control d)) (numbers_part (tracked_after s d) ds)

-- ---- differences that are not negative

-- where there is one, it is not negative
abbrev pub Natural : Option ℤ → Type 0
Natural None = Unit
Natural (Some least) = le_z (pos 0) least ≡ true

pub least_natural : (q : Option ℤ) (d : ℤ) → Natural q → le_z (pos 0) d ≡ true → le_z (pos 0) (least_with q d) ≡ true
least_natural None d h k = k
least_natural (Some least) d h k = cond_case (λ (z : ℤ). le_z (pos 0) z ≡ true) (lt_z d least) d least k h

pub kept_natural : (stage : Stage) (q : Option ℤ) → is_kept stage q ≡ true → Natural q
unfolding is_kept
kept_natural stage None h = tt
kept_natural stage (Some least) h = and_elim_right (is_gathering stage) (le_z (pos 0) least) h

-- ---- a decision keeps the range

module _ (d : Decision) (q : Option ℤ) (natural : le_z (pos 0) d.difference ≡ true) where
  -- of the next stage, and whether a data or stop slot is taken
  abbrev Kept : Bool → Next → Type 0
  Kept takes n = is_kept n.stage (cond takes (kept_in n.stage (least_with q d.difference)) q) ≡ true

  taken_kept : (wait slot byte : ℕ) → is_kept (Waiting wait slot byte) q ≡ true → Kept (not (eqb slot 0)) (taken slot byte d)
  unfolding is_kept
  taken_kept wait slot byte h =
      taken_case (Kept (not (eqb slot 0))) slot byte d
      (record {
        start = λ z. rw (eq-eqb slot 0 z) (no_data (Waiting 32 1 0) z refl);
        no_start = λ z. rw (eq-eqb slot 0 z) (no_data Searching z refl);
        level_lost = λ nz. rw (ne_eqb slot 0 nz) refl;
        bit = λ nz l bit b.
            rw (ne_eqb slot 0 nz)
            (and_intro (and_intro (le-leb 2 (slot + 1) (omega (arith, nz))) (le-leb (slot + 1) 9 (omega arith)))
            (least_natural q d.difference (kept_natural (Waiting wait slot byte) q h) natural));
        doubt = λ nz g e. rw (ne_eqb slot 0 nz) refl;
        break = λ l g e z. rw (ne_eqb slot 0 (λ z. omega arith)) refl;
        no_stop_told = λ l. rw (ne_eqb slot 0 (λ z. omega arith)) refl;
        character = λ l. rw (ne_eqb slot 0 (λ z. omega arith)) refl;
      })
    where
      -- behind a start slot there is none, as before it
      no_data : (next : Stage) → slot ≡ 0 → is_gathering next ≡ false → is_kept next q ≡ true
      no_data next z e = search rules

  next_kept : (stage : Stage) (run : ℕ) → is_kept stage q ≡ true → Kept (takes_bit stage) (next_of stage run d)
  unfolding next_of is_kept
  next_kept Searching run h = search rules
  next_kept (Waiting wait slot byte) run h =
      cond-split (Kept (eqb (wait - 1) 0 && not (eqb slot 0))) (eqb (wait - 1) 0) _ _ (λ e. rw e (taken_kept wait slot byte h)) (λ e. search rules)
  next_kept Held run h = search rules

pub kept_kept : (s : Tracked) (d : Decision) → is_kept s.control.stage s.smallest ≡ true → le_z (pos 0) d.difference ≡ true
    → is_kept (tracked_after s d).control.stage (tracked_after s d).smallest ≡ true
unfolding tracked_after control_after moved_by
kept_kept s d h k = next_kept d s.smallest k s.control.stage (run_after s.control.run d.good) h
