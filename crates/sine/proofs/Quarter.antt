-- The rule in the first quarter, p from 0 to 480, by tests that antt computes at each p: the rule admits `nearest p` and nothing
-- else, and no value passes 6,000.
-- Assumes nothing.
use mathlib.Core.Path.{◌≡◌, refl, ap, ◌∙◌}
use mathlib.Core.Bool.{Bool, true}
use mathlib.Core.List.{List, [], ◌∷◌}
use Prim.Native.Nat.{ℕ, zero, suc, ◌+◌, ◌*◌, ◌-◌, ◌≤◌, ◌<◌}
use native.Mathlib.Nat.{lt_of_mul-lt-mul_right, lt_of_lt_of_le, lt_of_le_of_lt, le_antisymm, not-suc-le-zero}
use native.Mathlib.Omega.{arith}
use borrow.Author.Tests.{lt-ltb, le-ltb, leb-true}
use lib.Dec.{T, leb, ltb→lt, lit<}
use lib.IntN.{ℤ, pos, negsuc, neg_ℤ, nat_abs, ◌+ℤ◌, ◌-ℤ◌, ◌*ℤ◌}
use lib.ListN.{get_or}
use lib.Signed.{◌<ℤ◌, lt_z, lt_z_yes, non_neg, pos-nat_abs}
use Rattle.integers.proofs.Tests.{passes, passes_at, passes_below, below_at, true-T}
use Rattle.sine.specs.Sine.{IsSine, scale, series, unit, lower, upper, nearest}

-- ---- one list of tests at each p, computed for all p at once

-- at the bounds L = l / d and U = u / d' and the number e: the rule admits e; it admits no other, since 12000 L ≤ 2 e + 1 and
-- 2 e - 1 ≤ 12000 U; nothing is negative, and e is at most 6,000
abbrev tests : (l u e : ℤ) (d d' : ℕ) → List Bool
tests l u e d d' =
    lt_z ((pos 2 *ℤ e -ℤ pos 1) *ℤ pos d) (pos 12000 *ℤ l)
    ∷ lt_z (pos 12000 *ℤ u) ((pos 2 *ℤ e +ℤ pos 1) *ℤ pos d')
    ∷ leb (12000 * nat_abs l) ((2 * nat_abs e + 1) * d)
    ∷ leb ((2 * nat_abs e - 1) * d') (12000 * nat_abs u)
    ∷ non_neg l
    ∷ non_neg u
    ∷ non_neg e
    ∷ leb (nat_abs e) 6000
    ∷ []

abbrev passed : ℕ → Bool
passed p = passes (λ i b. b) 0 (tests (lower p) (upper p) (nearest p) (scale unit 9) (scale unit 10))

all_passed : passes_below passed 481 ≡ true
unfolding nearest series scale
all_passed = refl

-- what the tests say
record Passed (l u e : ℤ) (d d' : ℕ) : Type 0 where
  above : ((pos 2 *ℤ e -ℤ pos 1) *ℤ pos d) <ℤ (pos 12000 *ℤ l)
  below : (pos 12000 *ℤ u) <ℤ ((pos 2 *ℤ e +ℤ pos 1) *ℤ pos d')
  over : 12000 * nat_abs l ≤ (2 * nat_abs e + 1) * d
  under : (2 * nat_abs e - 1) * d' ≤ 12000 * nat_abs u
  low : pos (nat_abs l) ≡ l
  high : pos (nat_abs u) ≡ u
  number : pos (nat_abs e) ≡ e
  small : nat_abs e ≤ 6000

passed_facts : (l u e : ℤ) (d d' : ℕ) → passes (λ i b. b) 0 (tests l u e d d') ≡ true → Passed l u e d d'
passed_facts l u e d d' t =
    let at : (k : ℕ) → k < 8 → get_or (tests l u e d d') k true ≡ true = passes_at (λ i b. b) true (tests l u e d d') t in
    record {
      above = lt_z_yes (true-T (lt_z ((pos 2 *ℤ e -ℤ pos 1) *ℤ pos d) (pos 12000 *ℤ l)) (at 0 (lit< tt)));
      below = lt_z_yes (true-T (lt_z (pos 12000 *ℤ u) ((pos 2 *ℤ e +ℤ pos 1) *ℤ pos d')) (at 1 (lit< tt)));
      over = leb-true (12000 * nat_abs l) ((2 * nat_abs e + 1) * d) (at 2 (lit< tt));
      under = leb-true ((2 * nat_abs e - 1) * d') (12000 * nat_abs u) (at 3 (lit< tt));
      low = pos-nat_abs l (true-T (non_neg l) (at 4 (lit< tt)));
      high = pos-nat_abs u (true-T (non_neg u) (at 5 (lit< tt)));
      number = pos-nat_abs e (true-T (non_neg e) (at 6 (lit< tt)));
      small = leb-true (nat_abs e) 6000 (at 7 (lit< tt));
    }

passed-at : (p : ℕ) → p ≤ 480 → Passed (lower p) (upper p) (nearest p) (scale unit 9) (scale unit 10)
passed-at p h =
    passed_facts (lower p) (upper p) (nearest p) (scale unit 9) (scale unit 10) (below_at passed 481 all_passed p (omega arith))

-- ---- what they give

pub rule : (p : ℕ) → p ≤ 480 → IsSine p (nearest p)
rule p h = let t = passed-at p h in record { above = t.above; below = t.below }

pub bound : (p : ℕ) → p ≤ 480 → nat_abs (nearest p) ≤ 6000
bound p h = (passed-at p h).small

-- 2 m - 1 of a whole number above 0
odd_below : (m : ℕ) → 0 < m → pos 2 *ℤ pos m -ℤ pos 1 ≡ pos (2 * m - 1)
odd_below m h = let g : 1 ≤ 2 * m = omega arith in rw (le-ltb (2 * m) 1 g)

-- 2 e + 1 of a negative one
odd_neg : (m : ℕ) → pos 2 *ℤ negsuc m +ℤ pos 1 ≡ negsuc (2 * m)
odd_neg m =
    let e : 2 * suc m ≡ suc (2 * m + 1) = omega arith in
    let h : 1 < suc (2 * m + 1) = omega arith in
    let f : suc (2 * m + 1) - 2 ≡ 2 * m = omega arith in
    rw (e, lt-ltb 1 (suc (2 * m + 1)) h, f)

not-below_neg : (a x : ℕ) → T (lt_z (pos a) (neg_ℤ (pos x))) → ⊥
not-below_neg a zero t = not-suc-le-zero (ltb→lt a 0 t)
not-below_neg a (suc x) t = t

-- the two inequalities of the rule, and their opposites at n, leave only n
module _ (l u d d' n : ℕ) (over : 12000 * l ≤ (2 * n + 1) * d) (under : (2 * n - 1) * d' ≤ 12000 * u) where
  at_most : (m : ℕ) → T (lt_z ((pos 2 *ℤ pos m -ℤ pos 1) *ℤ pos d) (pos 12000 *ℤ pos l)) → m ≤ n
  at_most zero t = omega arith
  at_most (suc k) t =
      let a : (2 * suc k - 1) * d < 12000 * l = ltb→lt ((2 * suc k - 1) * d) (12000 * l) (rw (odd_below (suc k) (omega arith)) at t) in
      let b : 2 * suc k - 1 < 2 * n + 1 = lt_of_mul-lt-mul_right d (lt_of_lt_of_le a over) in
      omega arith

  at_least : (m : ℕ) → T (lt_z (pos 12000 *ℤ pos u) ((pos 2 *ℤ pos m +ℤ pos 1) *ℤ pos d')) → n ≤ m
  at_least m t =
      let a : 12000 * u < (2 * m + 1) * d' = ltb→lt (12000 * u) ((2 * m + 1) * d') t in
      let b : 2 * n - 1 < 2 * m + 1 = lt_of_mul-lt-mul_right d' (lt_of_le_of_lt under a) in
      omega arith

  only : (L U e : ℤ) → pos l ≡ L → pos u ≡ U
      → ((pos 2 *ℤ e -ℤ pos 1) *ℤ pos d) <ℤ (pos 12000 *ℤ L)
      → (pos 12000 *ℤ U) <ℤ ((pos 2 *ℤ e +ℤ pos 1) *ℤ pos d')
      → e ≡ pos n
  only L U (pos m) el eu a b = ap pos (le_antisymm (at_most m (rw (← el) at a.lt)) (at_least m (rw (← eu) at b.lt)))
  only L U (negsuc m) el eu a b = absurd (not-below_neg (12000 * u) (suc (2 * m) * d') (rw (odd_neg m) at (rw (← eu) at b.lt)))

pub unique : (p : ℕ) (e : ℤ) → p ≤ 480 → IsSine p e → e ≡ nearest p
unique p e h r =
    let t = passed-at p h in
    only (nat_abs (lower p)) (nat_abs (upper p)) (scale unit 9) (scale unit 10) (nat_abs (nearest p)) t.over t.under
    (lower p) (upper p) e t.low t.high r.above r.below
    ∙ t.number
