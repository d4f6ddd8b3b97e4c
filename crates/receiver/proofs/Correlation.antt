-- A loop that sums 32 products of samples and weights: what holds before each product, and at the end. The bounds keep every sum
-- within an i32.
-- Assumes nothing.
use mathlib.Core.Path.{◌≡◌, refl, sym, ap, ◌∙◌}
use mathlib.Core.Bool.{true}
use mathlib.Core.List.{List, [], ◌∷◌}
use mathlib.Core.Logic.{◌⊎◌, inl, inr}
use Prim.Native.Nat.{◌+◌, ◌*◌, ◌≤◌}
use native.Mathlib.Omega.{arith}
use lib.IntN.{ℤ, pos, nat_abs, ◌+ℤ◌, ◌*ℤ◌, +ℤ_assoc, +ℤ_idl, +ℤ_idr}
use lib.ListN.{length}
use mir.Syntax.{w16, w32}
use mir.Val.{SFits, to_z, of_z}
use mir.Facts.{to_z-of_z}
use Rattle.integers.specs.Sums.{dot, Bounded}
use Rattle.integers.proofs.Size.{add_size, mul_size, fits_size}
use Rattle.integers.proofs.Sums.{bounded_rest}
use Rattle.tones.specs.Samples.{are_samples}
use Rattle.tones.proofs.Samples.{samples_bound}

-- `sum` with the products of the samples xs and the weights ws, which are left, is the whole sum
pub record Summing (whole : ℤ) (xs ws : List ℤ) (sum : ℤ) : Type 0 where
  pub samples : Bounded 8191 xs
  pub small : Bounded 6000 ws
  pub size : nat_abs sum + length xs * 49146000 ≤ 1572672000
  pub rest : sum +ℤ dot xs ws ≡ whole

pub summing_start : (xs ws xs₀ ws₀ : List ℤ) → xs₀ ≡ xs → ws₀ ≡ ws → are_samples xs ≡ true → Bounded 6000 ws → length xs ≡ 32
    → Summing (dot xs ws) xs₀ ws₀ (pos 0)
summing_start xs ws xs₀ ws₀ e f a b l =
    rw (e, f) (record { samples = samples_bound xs a; small = b; size = omega arith; rest = +ℤ_idl (dot xs ws) })

-- one more product of x and w, which the code has as a and b
module _ {whole : ℤ} {xs ws xs₀ ws₀ : List ℤ} {sum x w : ℤ} (s : Summing whole xs₀ ws₀ sum) (ea : xs₀ ≡ x ∷ xs) (eb : ws₀ ≡ w ∷ ws) (a b : ℤ)
    (ex : a ≡ to_z w16 (of_z w16 x)) (ew : b ≡ to_z w16 (of_z w16 w)) where
  at : Summing whole (x ∷ xs) (w ∷ ws) sum
  at = rw (ea, eb) at s

  x_size : nat_abs x ≤ 8191
  x_size = at.samples.at 0

  w_size : nat_abs w ≤ 6000
  w_size = at.small.at 0

  product_size : nat_abs (x *ℤ w) ≤ 49146000
  product_size = mul_size x w x_size w_size

  sum_size : nat_abs (sum +ℤ x *ℤ w) ≤ nat_abs sum + 49146000
  sum_size = add_size sum (x *ℤ w) {m = nat_abs sum} (omega arith) product_size

  abbrev pub product : ℤ
  product = to_z w32 (of_z w32 (to_z w32 (of_z w32 a) *ℤ to_z w32 (of_z w32 b)))

  product_is : product ≡ x *ℤ w
  product_is =
      let fx : to_z w16 (of_z w16 x) ≡ x = to_z-of_z {w = w16} (fits_size x_size tt) in
      let fw : to_z w16 (of_z w16 w) ≡ w = to_z-of_z {w = w16} (fits_size w_size tt) in
      let gx : to_z w32 (of_z w32 x) ≡ x = to_z-of_z {w = w32} (fits_size x_size tt) in
      let gw : to_z w32 (of_z w32 w) ≡ w = to_z-of_z {w = w32} (fits_size w_size tt) in
      let g : to_z w32 (of_z w32 (x *ℤ w)) ≡ x *ℤ w = to_z-of_z {w = w32} (fits_size product_size tt) in
      simp (ex, ew, fx, fw, gx, gw, g)

  fits : SFits w32 (sum +ℤ x *ℤ w)
  fits = fits_size {n = 1572672000} (omega (arith, sum_size, at.size)) tt

  pub summing_fits : SFits w32 (sum +ℤ product)
  summing_fits = rw product_is fits

  pub summing_more : Summing whole xs ws (to_z w32 (of_z w32 (sum +ℤ product)))
  unfolding dot
  summing_more =
      rw (product_is, to_z-of_z {w = w32} fits)
      (record {
        samples = bounded_rest at.samples;
        small = bounded_rest at.small;
        size = omega (arith, sum_size, at.size);
        rest = +ℤ_assoc sum (x *ℤ w) (dot xs ws) ∙ at.rest;
      })

-- none is left
module _ {whole : ℤ} {xs ws : List ℤ} {sum : ℤ} (s : Summing whole xs ws sum) where
  pub summing_sum : (length xs ≡ 0) ⊎ (length ws ≡ 0) → sum ≡ whole
  unfolding dot
  summing_sum e = sym (+ℤ_idr sum) ∙ ap (λ (z : ℤ). sum +ℤ z) (sym (nothing xs ws e)) ∙ s.rest
    where
      nothing : (xs ws : List ℤ) → (length xs ≡ 0) ⊎ (length ws ≡ 0) → dot xs ws ≡ pos 0
      nothing [] ws e = refl
      nothing (x ∷ xs) [] e = refl
      nothing (x ∷ xs) (w ∷ ws) (inl e) = absurd (omega arith)
      nothing (x ∷ xs) (w ∷ ws) (inr e) = absurd (omega arith)

  pub summing_size : nat_abs sum ≤ 1572672000
  summing_size = omega (arith, s.size)
