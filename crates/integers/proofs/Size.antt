-- The size of a whole number, nat_abs: of a negative, a sum, a product, a square and a number near another, and that a small number
-- fits a signed width.
-- Assumes nothing.
use mathlib.Core.Path.{◌≡◌, refl, ap, ◌∙◌}
use Prim.Native.Nat.{ℕ, zero, suc, ◌+◌, ◌*◌, ◌^◌, ◌≤◌}
use native.Mathlib.Nat.{le_refl, le-suc, le_trans, lt_of_le_of_lt, mul-le-mul}
use native.Mathlib.Omega.{arith}
use borrow.Author.Tests.{ltb-true, ltb-false}
use lib.Dec.{T, ltb, ltb→lt}
use lib.IntN.{ℤ, pos, negsuc, neg_ℤ, nat_abs, sub_ℕ, ◌+ℤ◌, ◌-ℤ◌, ◌*ℤ◌, +ℤ_comm, +ℤ-neg_ℤ_cancel, -ℤ-+ℤ_cancel}
use lib.Signed.{mag}
use mir.Syntax.{Width}
use mir.Val.{SFits, hbits}
use Rattle.integers.proofs.Tests.{cond-split}

pub nat_abs_negℤ : (z : ℤ) → nat_abs (neg_ℤ z) ≡ nat_abs z
nat_abs_negℤ (pos zero) = refl
nat_abs_negℤ (pos (suc n)) = refl
nat_abs_negℤ (negsuc n) = refl

nat_abs_subℕ : (a b : ℕ) → nat_abs (sub_ℕ a b) ≤ a + b
nat_abs_subℕ a b =
    cond-split (λ (z : ℤ). nat_abs z ≤ a + b) (ltb a b) _ _ (λ e. omega (arith, ltb-true a b e)) (λ e. omega (arith, ltb-false a b e))

pub nat_abs-+ℤ : (a b : ℤ) → nat_abs (a +ℤ b) ≤ nat_abs a + nat_abs b
nat_abs-+ℤ (pos a) (pos b) = le_refl (a + b)
nat_abs-+ℤ (pos a) (negsuc b) = nat_abs_subℕ a (suc b)
nat_abs-+ℤ (negsuc a) (pos b) = omega (arith, nat_abs_subℕ b (suc a))
nat_abs-+ℤ (negsuc a) (negsuc b) = omega arith

-- the same from below
nat_abs-+ℤ-low : (a b : ℤ) → nat_abs a ≤ nat_abs (a +ℤ b) + nat_abs b
nat_abs-+ℤ-low a b = omega (arith, nat_abs-+ℤ (a +ℤ b) (neg_ℤ b), ap nat_abs (+ℤ-neg_ℤ_cancel a b), nat_abs_negℤ b)

-- the sizes of two numbers differ by no more than the numbers
pub nat_abs_near : (a b : ℤ) {n : ℕ} → nat_abs (b -ℤ a) ≤ n → (nat_abs a ≤ nat_abs b + n) × (nat_abs b ≤ nat_abs a + n)
nat_abs_near a b h =
    let e : nat_abs (a +ℤ (b -ℤ a)) ≡ nat_abs b = ap nat_abs (+ℤ_comm a (b -ℤ a) ∙ -ℤ-+ℤ_cancel b a) in
    (omega (arith, nat_abs-+ℤ-low a (b -ℤ a)), omega (arith, nat_abs-+ℤ a (b -ℤ a)))

pub nat_abs-*ℤ : (a b : ℤ) → nat_abs (a *ℤ b) ≡ nat_abs a * nat_abs b
nat_abs-*ℤ (pos a) (pos b) = refl
nat_abs-*ℤ (pos a) (negsuc b) = nat_abs_negℤ (pos (a * suc b))
nat_abs-*ℤ (negsuc a) (pos b) = nat_abs_negℤ (pos (suc a * b))
nat_abs-*ℤ (negsuc a) (negsuc b) = refl

pub square : (z : ℤ) → z *ℤ z ≡ pos (nat_abs z * nat_abs z)
square (pos n) = refl
square (negsuc n) = refl

-- `mag` is what a signed width bounds: n of n, and n of -n - 1
mag-nat_abs : (z : ℤ) → mag z ≤ nat_abs z
mag-nat_abs (pos n) = le_refl n
mag-nat_abs (negsuc n) = le-suc n

-- a product by the bounds of its factors, and a sum by those of its terms
pub mul_size : (a b : ℤ) {m n : ℕ} → nat_abs a ≤ m → nat_abs b ≤ n → nat_abs (a *ℤ b) ≤ m * n
mul_size a b h k = rw (nat_abs-*ℤ a b) (mul-le-mul h k)

pub add_size : (a b : ℤ) {m n : ℕ} → nat_abs a ≤ m → nat_abs b ≤ n → nat_abs (a +ℤ b) ≤ m + n
add_size a b h k = omega (arith, nat_abs-+ℤ a b)

-- a number of size at most n fits a width that n fits
pub fits_size : {w : Width} {z : ℤ} {n : ℕ} → nat_abs z ≤ n → T (ltb n (2 ^ hbits w)) → SFits w z
fits_size {w} {z} {n} h t = record { sfits = lt_of_le_of_lt (le_trans (mag-nat_abs z) h) (ltb→lt n (2 ^ hbits w) t) }
