-- The ring laws of ℤ that the library lacks.
-- Assumes nothing.
use mathlib.Core.Path.{◌≡◌, refl, sym, ap, ◌∙◌}
use Prim.Native.Nat.{ℕ, zero, suc, ◌+◌, ◌-◌, ◌≤◌}
use native.Mathlib.Nat.{mul-one}
use native.Mathlib.Omega.{arith}
use lib.IntN.{ℤ, pos, negsuc, suc_ℤ, pred_ℤ, neg_ℤ, ◌+ℤ◌, ◌-ℤ◌, ◌*ℤ◌}
use lib.IntN.{+ℤ_assoc, +ℤ_comm, +ℤ_idl, suc_ℤ-+ℤ, pred_ℤ-+ℤ, suc_ℤ-*ℤ, pred_ℤ-*ℤ, zero-*ℤ, neg_ℤ-neg_ℤ, pos-+ℤ-pos, +ℤ-neg_ℤ_cancel}

-- (a + b) + (c + d) = (a + c) + (b + d)
pub +ℤ_swap : (a b c d : ℤ) → (a +ℤ b) +ℤ (c +ℤ d) ≡ (a +ℤ c) +ℤ (b +ℤ d)
+ℤ_swap a b c d =
    +ℤ_assoc a b (c +ℤ d)
    ∙ ap (λ (x : ℤ). a +ℤ x) (sym (+ℤ_assoc b c d) ∙ ap (λ (x : ℤ). x +ℤ d) (+ℤ_comm b c) ∙ +ℤ_assoc c b d)
    ∙ sym (+ℤ_assoc a c (b +ℤ d))

-- one more in the first summand, or one less: f moves a number by one, and its product with c by u
module _ (f : ℤ → ℤ) (c u : ℤ) (sum : (a b : ℤ) → f a +ℤ b ≡ f (a +ℤ b)) (product : (a : ℤ) → f a *ℤ c ≡ a *ℤ c +ℤ u) where
  moved : (m k : ℤ) → (m +ℤ k) *ℤ c ≡ m *ℤ c +ℤ k *ℤ c → (f m +ℤ k) *ℤ c ≡ f m *ℤ c +ℤ k *ℤ c
  moved m k e =
      ap (λ (x : ℤ). x *ℤ c) (sum m k) ∙ product (m +ℤ k) ∙ ap (λ (x : ℤ). x +ℤ u) e
      ∙ +ℤ_assoc (m *ℤ c) (k *ℤ c) u ∙ ap (λ (x : ℤ). m *ℤ c +ℤ x) (+ℤ_comm (k *ℤ c) u)
      ∙ sym (+ℤ_assoc (m *ℤ c) u (k *ℤ c)) ∙ ap (λ (x : ℤ). x +ℤ k *ℤ c) (sym (product m))

at_zero : (k c : ℤ) → (pos zero +ℤ k) *ℤ c ≡ pos zero *ℤ c +ℤ k *ℤ c
at_zero k c = rw (+ℤ_idl k, zero-*ℤ c, +ℤ_idl (k *ℤ c))

pub +ℤ-*ℤ : (m k c : ℤ) → (m +ℤ k) *ℤ c ≡ m *ℤ c +ℤ k *ℤ c
+ℤ-*ℤ (pos zero) k c = at_zero k c
+ℤ-*ℤ (pos (suc n)) k c = moved suc_ℤ c c suc_ℤ-+ℤ (λ a. suc_ℤ-*ℤ a c) (pos n) k (+ℤ-*ℤ (pos n) k c)
+ℤ-*ℤ (negsuc zero) k c = moved pred_ℤ c (neg_ℤ c) pred_ℤ-+ℤ (λ a. pred_ℤ-*ℤ a c) (pos zero) k (at_zero k c)
+ℤ-*ℤ (negsuc (suc n)) k c = moved pred_ℤ c (neg_ℤ c) pred_ℤ-+ℤ (λ a. pred_ℤ-*ℤ a c) (negsuc n) k (+ℤ-*ℤ (negsuc n) k c)

pub negℤ_*ℤ : (x c : ℤ) → neg_ℤ x *ℤ c ≡ neg_ℤ (x *ℤ c)
negℤ_*ℤ (pos zero) c = rw zero-*ℤ
negℤ_*ℤ (pos (suc n)) (pos b) = refl
negℤ_*ℤ (pos (suc n)) (negsuc b) = rw neg_ℤ-neg_ℤ
negℤ_*ℤ (negsuc n) (pos b) = rw neg_ℤ-neg_ℤ
negℤ_*ℤ (negsuc n) (negsuc b) = refl

-- times 1 and -1
pub *ℤ_one : (z : ℤ) → z *ℤ pos 1 ≡ z
*ℤ_one (pos n) = rw mul-one
*ℤ_one (negsuc n) = rw mul-one

pub *ℤ_minus_one : (z : ℤ) → z *ℤ negsuc 0 ≡ neg_ℤ z
*ℤ_minus_one (pos n) = rw mul-one
*ℤ_minus_one (negsuc n) = rw mul-one

-- natural numbers, the smaller taken from the larger
pub pos_-ℤ_pos : (a b : ℕ) → b ≤ a → pos a -ℤ pos b ≡ pos (a - b)
pos_-ℤ_pos a b h =
    let e : a - b + b ≡ a = omega arith in
    ap (λ (n : ℕ). pos n -ℤ pos b) (sym e) ∙ ap (λ (z : ℤ). z -ℤ pos b) (sym (pos-+ℤ-pos (a - b) b)) ∙ +ℤ-neg_ℤ_cancel (pos (a - b)) (pos b)
