-- Places in a list of decisions, and the run at a place from the last decisions before it. From the laws of the run over a list.
-- Assumes nothing.
use Rattle.std.proofs.lemmas.Grind.{common_steps}
use Rattle.std.proofs.Common.{rules}
use mathlib.Core.Path.{◌≡◌, sym, ap, ◌∙◌}
use mathlib.Core.Bool.{true, false}
use mathlib.Core.List.{List, [], ◌∷◌, ◌++◌}
use Prim.Native.Nat.{ℕ, zero, suc, ◌+◌, ◌-◌, ◌<◌, ◌≤◌, min, max}
use native.Mathlib.Omega.{arith}
use lib.ListN.{length}
use lib.Seq.{slice, slice_empty, length-slice}
use Rattle.integers.proofs.Lists.{slice-join, slice-more}
use Rattle.calls.specs.Runs.{after}
use Rattle.control.specs.declared.Decision.{Decision}
use Rattle.control.specs.Rules.{run_after}
use Rattle.control.specs.AsCoded.{run_over}
use Rattle.control.proofs.Stretches.{run_append, run-low, run_slow}
use Rattle.receiver.specs.declared.place.Place.{Place}
use Rattle.receiver.specs.Weighed.{unjudged, judged}
use Rattle.receiver.specs.AsCoded.{IsPlace, run_before, run_at, exactly, moved_to}

module _ (ds : List Decision) where
  -- one decision more
  pub decision_more : (i j : ℕ) → i ≤ j → j < length ds → slice i (j + 1) ds ≡ slice i j ds ++ judged ds j ∷ []
  decision_more i j h l = slice-more ds i j unjudged h l

  -- ---- places

  pub place_exact : (i run : ℕ) → i ≤ length ds → run ≤ 32 → IsPlace ds (exactly i run)
  place_exact i run h l = search rules

  -- the run at a place where it is known
  pub run_exact : (i run : ℕ) → run_at ds (exactly i run) ≡ run
  unfolding after
  run_exact i run = ap (run_over run) (slice_empty i ds)

  module _ (p : Place) where
    -- from i on to the place every level is good
    pub record Back (i : ℕ) : Type 0 where
      pub behind : p.known ≤ i
      pub before : i ≤ p.next
      pub run : run_at ds p ≡ min (run_before ds p i + (p.next - i)) 32

    module _ (v : IsPlace ds p) where
      pub known-first : p.known ≤ p.next
      known-first = omega (arith, v.based, v.passed)

      -- ---- places further on

      -- nothing is known of the decisions between
      pub place_moved : (i : ℕ) → p.next ≤ i → i ≤ length ds → IsPlace ds (moved_to p i i)
      place_moved i h l = search rules

      -- one more level is good
      pub place-more : (i since : ℕ) → IsPlace ds (moved_to p i since) → i < length ds → (judged ds i).good ≡ true → IsPlace ds (moved_to p (i + 1) since)
      place-more i since w l g = search rules

      -- ---- the run

      -- it runs on from the place
      pub run_on : (i : ℕ) → p.next ≤ i → run_over (run_at ds p) (slice p.next i ds) ≡ run_before ds p i
      run_on i h =
          sym
          (ap (run_over p.ran) (slice-join ds p.known p.next i known-first h v.inside)
          ∙ run_append p.ran (slice p.known p.next ds) (slice p.next i ds))

      pub run_more : (i : ℕ) → p.known ≤ i → i < length ds → run_before ds p (i + 1) ≡ run_after (run_before ds p i) (judged ds i).good
      unfolding after
      run_more i h l = grind (arith, common_steps)

      -- behind a level that is not good
      pub run_bad : (i : ℕ) → p.known ≤ i → i < length ds → (judged ds i).good ≡ false → run_before ds p (i + 1) ≡ 0
      run_bad i h l g = rw g at (run_more i h l)

      pub run-most : (i : ℕ) → p.known ≤ i → i ≤ length ds → run_before ds p i ≤ p.ran + (i - p.known)
      run-most i h l = omega (arith, run_slow p.ran (slice p.known i ds), length-slice p.known i ds l)

      pub run-place : run_at ds p ≤ 32
      run-place = run-low p.ran (slice p.known p.next ds) v.low

      -- ---- the run at the place, from the last decisions before it

      run-last : (i : ℕ) → p.known < i → i ≤ length ds → run_before ds p i ≡ run_after (run_before ds p (i - 1)) (judged ds (i - 1)).good
      run-last i h l = let e : i ≡ i - 1 + 1 = omega arith in ap (run_before ds p) e ∙ run_more (i - 1) (omega arith) (omega arith)

      pub back_good : (i : ℕ) → Back i → p.known < i → (judged ds (i - 1)).good ≡ true → Back (i - 1)
      back_good i b h g =
          let r : run_before ds p i ≡ min (run_before ds p (i - 1) + 1) 32 = rw g at (run-last i h (omega (arith, b.before, v.inside))) in
          record { behind = omega arith; before = omega (arith, b.before); run = omega (arith, b.run, b.before) }

      back_none : Back p.next
      back_none = record { behind = known-first; before = omega arith; run = omega (arith, run-place) }

      back_down : (n : ℕ) → n ≤ p.next - p.since → Back (p.next - n)
      back_down zero h = let e : p.next - 0 ≡ p.next = omega arith in rw e back_none
      back_down (suc n) h =
          let e : p.next - suc n ≡ p.next - n - 1 = omega arith in
          rw e (back_good (p.next - n) (back_down n (omega arith)) (omega (arith, v.based)) (v.level (p.next - n - 1) (omega arith) (omega arith)))

      pub back_start : Back p.since
      back_start =
          let e : p.next - (p.next - p.since) ≡ p.since = omega (arith, v.passed) in
          rw e at (back_down (p.next - p.since) (omega arith))

      pub back_bad : (i : ℕ) → Back i → p.known < i → p.next - i ≤ 32 → (judged ds (i - 1)).good ≡ false → p.next - i ≡ run_at ds p
      back_bad i b h l g =
          let r : run_before ds p i ≡ 0 = rw g at (run-last i h (omega (arith, b.before, v.inside))) in
          omega (arith, b.run)

      pub back_all : (i : ℕ) → Back i → i ≤ max p.known (p.next - 32) → min (p.ran + (p.next - p.known)) 32 ≡ run_at ds p
      unfolding after
      back_all i b h = grind (arith, common_steps)
