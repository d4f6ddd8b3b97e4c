-- Laws of the fold: phases that are equal modulo 1,920 have the same place and sign, the sign in either half of the cycle, that every place is
-- in the first quarter, and S as the sine at the place times the sign.
-- Assumes nothing.
use mathlib.Core.Path.{◌≡◌, ◌∙◌, sym}
use mathlib.Core.List.{List, [], ◌∷◌, map}
use Prim.Native.Nat.{ℕ, zero, suc, ◌%◌, ◌<◌, ◌≤◌}
use native.Mathlib.Omega.{arith}
use borrow.Author.Tests.{le-ltb, lt-ltb}
use lib.Dec.{ltb}
use lib.IntN.{ℤ, pos, negsuc, nat_abs, ◌*ℤ◌}
use lib.ListN.{get_or}
use mir.Syntax.{w16}
use mir.Val.{SFits}
use Rattle.integers.proofs.Ring.{*ℤ_one, *ℤ_minus_one}
use Rattle.integers.proofs.Size.{fits_size}
use Rattle.integers.proofs.Tests.{lt_or_le, cond_case}
use Rattle.sine.specs.Sine.{S}
use Rattle.sine.specs.Fold.{place_of, sign_of, InQuarter}
use Rattle.sine.proofs.Laws.{S-first-half, S-second-half}

pub place_same : (p q : ℕ) → p % 1920 ≡ q % 1920 → place_of p ≡ place_of q
unfolding place_of
place_same p q e = let f : p % 960 ≡ q % 960 = omega arith in rw f

pub sign_same : (p q : ℕ) → p % 1920 ≡ q % 1920 → sign_of p ≡ sign_of q
unfolding sign_of
sign_same p q e = rw e

sign_first : (p : ℕ) → p % 1920 < 960 → sign_of p ≡ pos 1
unfolding sign_of
sign_first p h = rw (lt-ltb (p % 1920) 960 h)

sign_second : (p : ℕ) → 960 ≤ p % 1920 → sign_of p ≡ negsuc 0
unfolding sign_of
sign_second p h = rw (le-ltb (p % 1920) 960 h)

place_bound : (p : ℕ) → place_of p ≤ 480
unfolding place_of
place_bound p = omega arith

sign_bound : (p : ℕ) → nat_abs (sign_of p) ≤ 1
unfolding sign_of
sign_bound p = cond_case (λ (z : ℤ). nat_abs z ≤ 1) (ltb (p % 1920) 960) (pos 1) (negsuc 0) (omega arith) (omega arith)

pub sign_fits : (p : ℕ) → SFits w16 (sign_of p)
sign_fits p = fits_size (sign_bound p) tt

pub S_folded : (p : ℕ) → S (place_of p) *ℤ sign_of p ≡ S p
unfolding place_of
S_folded p =
    lt_or_le (p % 1920) 960
    (λ h. rw (sign_first p h) (*ℤ_one (S (place_of p)) ∙ sym (S-first-half p h)))
    (λ h. rw (sign_second p h) (*ℤ_minus_one (S (place_of p)) ∙ sym (S-second-half p h)))

pub in_quarter : (ps : List ℕ) → InQuarter (map place_of ps)
in_quarter ps = record { at = go ps }
  where
    go : (ps : List ℕ) (k : ℕ) → get_or (map place_of ps) k 0 ≤ 480
    go [] k = omega arith
    go (p ∷ ps) zero = place_bound p
    go (p ∷ ps) (suc k) = go ps k
