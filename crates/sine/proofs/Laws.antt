-- The laws of S: the period, the opposite half, the mirror and the bound, which its users cite so that none of them opens its
-- definition. The bound is from the tests of the first quarter.
-- Assumes nothing.
use mathlib.Core.Path.{◌≡◌, refl, ◌∙◌, sym, ap}
use Prim.Native.Nat.{ℕ, ◌+◌, ◌-◌, ◌%◌, ◌<◌, ◌≤◌, min}
use native.Mathlib.Omega.{arith}
use borrow.Author.Tests.{le-ltb, lt-ltb, leb-true, leb-false}
use lib.Dec.{leb, ltb}
use lib.IntN.{ℤ, neg_ℤ, nat_abs, neg_ℤ-neg_ℤ}
use mir.Syntax.{w16}
use mir.Val.{SFits}
use Rattle.integers.proofs.Tests.{cond-split, cond_case, lt_or_le}
use Rattle.integers.proofs.Size.{nat_abs_negℤ, fits_size}
use Rattle.sine.specs.Sine.{S, half, nearest}
use Rattle.sine.proofs.Quarter.{bound}

-- ---- the phase counts modulo 1920

pub S_mod : (p : ℕ) → S (p % 1920) ≡ S p
unfolding S
S_mod p =
    let e : p % 1920 % 1920 ≡ p % 1920 = omega arith in
    let f : p % 1920 % 960 ≡ p % 960 = omega arith in
    rw (e, f)

-- two phases that are equal modulo 1920
pub S_same : (p q : ℕ) → p % 1920 ≡ q % 1920 → S p ≡ S q
S_same p q e = sym (S_mod p) ∙ ap S e ∙ S_mod q

pub S-period : (p : ℕ) → S (p + 1920) ≡ S p
S-period p = S_same (p + 1920) p (omega arith)

-- ---- the two halves of the cycle

S-first : (p : ℕ) → p % 1920 < 960 → S p ≡ half (p % 960)
unfolding S
S-first p h = rw (lt-ltb (p % 1920) 960 h)

S-second : (p : ℕ) → 960 ≤ p % 1920 → S p ≡ neg_ℤ (half (p % 960))
unfolding S
S-second p h = rw (le-ltb (p % 1920) 960 h)

pub S-opposite : (p : ℕ) → S (p + 960) ≡ neg_ℤ (S p)
S-opposite p =
    let same : (p + 960) % 960 ≡ p % 960 = omega arith in
    lt_or_le (p % 1920) 960
    (λ h. S-second (p + 960) (omega arith) ∙ ap (λ (n : ℕ). neg_ℤ (half n)) same ∙ ap neg_ℤ (sym (S-first p h)))
    (λ h. S-first (p + 960) (omega arith) ∙ ap half same ∙ sym (ap neg_ℤ (S-second p h) ∙ neg_ℤ-neg_ℤ (half (p % 960))))

-- ---- the first half, which is 0 at both ends and the same from either

half_mirrored : (h : ℕ) → half h ≡ nearest (min h (960 - h))
unfolding half
half_mirrored h =
    ap nearest
    (cond-split (λ (n : ℕ). n ≡ min h (960 - h)) (leb h 480) h (960 - h)
    (λ e. omega (arith, leb-true h 480 e))
    (λ e. omega (arith, leb-false h 480 e)))

S_960 : S 960 ≡ half 960
unfolding S half nearest
S_960 = refl

S-half : (p : ℕ) → p ≤ 960 → S p ≡ nearest (min p (960 - p))
S-half p h =
    lt_or_le p 960
    (λ l. let e : p % 960 ≡ p = omega arith in S-first p (omega arith) ∙ ap half e)
    (λ l. let e : p ≡ 960 = omega arith in rw e S_960)
    ∙ half_mirrored p

-- for p from 0 to 480 S is the whole number nearest to 6000 L
pub S-nearest : (p : ℕ) → p ≤ 480 → S p ≡ nearest p
S-nearest p h = let e : min p (960 - p) ≡ p = omega arith in S-half p (omega arith) ∙ ap nearest e

mirror-half : (a b : ℕ) → a + b ≡ 960 → S a ≡ S b
mirror-half a b e =
    let f : min a (960 - a) ≡ min b (960 - b) = omega arith in
    S-half a (omega arith) ∙ ap nearest f ∙ sym (S-half b (omega arith))

-- S(960 - p) = S(p), for phases that add up to 960 modulo 1,920
pub S-mirror : (p q : ℕ) → (p + q) % 1920 ≡ 960 → S p ≡ S q
S-mirror p q e = sym (S_mod p) ∙ go (p % 1920) (q % 1920) (omega arith) (omega arith) (omega arith) ∙ S_mod q
  where
    go : (a b : ℕ) → a < 1920 → b < 1920 → (a + b) % 1920 ≡ 960 → S a ≡ S b
    go a b ha hb h =
        lt_or_le 960 a
        (λ l.
        let f : a - 960 + 960 ≡ a = omega arith in
        let g : b - 960 + 960 ≡ b = omega arith in
        ap S (sym f) ∙ S-opposite (a - 960) ∙ ap neg_ℤ (mirror-half (a - 960) (b - 960) (omega arith)) ∙ sym (S-opposite (b - 960)) ∙ ap S g)
        (λ l. mirror-half a b (omega arith))

-- ---- each half from the first quarter

quartered : (h : ℕ) → half h ≡ S (min h (960 - h))
quartered h = half_mirrored h ∙ sym (S-nearest (min h (960 - h)) (omega arith))

pub S-first-half : (p : ℕ) → p % 1920 < 960 → S p ≡ S (min (p % 960) (960 - p % 960))
S-first-half p h = S-first p h ∙ quartered (p % 960)

pub S-second-half : (p : ℕ) → 960 ≤ p % 1920 → S p ≡ neg_ℤ (S (min (p % 960) (960 - p % 960)))
S-second-half p h = S-second p h ∙ ap neg_ℤ (quartered (p % 960))

-- ---- the bound, from the tests of the quarter

half_bound : (h : ℕ) → nat_abs (half h) ≤ 6000
half_bound h = rw (half_mirrored h) (bound (min h (960 - h)) (omega arith))

pub S_bound : (p : ℕ) → nat_abs (S p) ≤ 6000
unfolding S
S_bound p =
    let low = half_bound (p % 960) in
    cond_case (λ (z : ℤ). nat_abs z ≤ 6000) (ltb (p % 1920) 960) _ _ low (rw (nat_abs_negℤ (half (p % 960))) low)

pub S_fits : (p : ℕ) → SFits w16 (S p)
S_fits p = fits_size (S_bound p) tt
