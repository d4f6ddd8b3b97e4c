-- Laws of `wave`: its two cases, its length, its entries and their size, that the phase counts modulo 1,920, and that half a
-- cycle on the samples are the opposite ones. Then what is read from a table of sines.
-- Assumes nothing.
use mathlib.Core.Path.{◌≡◌, refl, ◌∙◌, ap, ap₂}
use mathlib.Core.List.{List, [], ◌∷◌, map}
use Prim.Native.Nat.{ℕ, zero, suc, ◌+◌, ◌*◌, ◌%◌, ◌<◌}
use native.Mathlib.Nat.{suc-mul, not-suc-le-zero, le_of_suc-le-suc}
use native.Mathlib.Omega.{arith}
use lib.IntN.{ℤ, pos, neg_ℤ}
use lib.ListN.{length, get_or}
use Rattle.integers.specs.Sums.{Bounded}
use Rattle.integers.proofs.Sums.{bounded_none, bounded_more}
use Rattle.sine.specs.Sine.{S}
use Rattle.sine.specs.Wave.{phases, wave}
use Rattle.sine.proofs.Laws.{S_same, S-opposite, S_bound}

pub wave-none : (s p : ℕ) → wave 0 s p ≡ []
unfolding wave
wave-none s p = refl

pub wave-more : (n s p : ℕ) → wave (suc n) s p ≡ S p ∷ wave n s (p + s)
unfolding wave
wave-more n s p = refl

pub length-wave : (n s p : ℕ) → length (wave n s p) ≡ n
unfolding wave
length-wave zero s p = refl
length-wave (suc n) s p = ap suc (length-wave n s (p + s))

pub wave-at : (n s p j : ℕ) → j < n → get_or (wave n s p) j (pos 0) ≡ S (p + j * s)
unfolding wave
wave-at zero s p j h = absurd (not-suc-le-zero h)
wave-at (suc n) s p zero h = ap S (omega arith)
wave-at (suc n) s p (suc j) h =
    let e : p + s + j * s ≡ p + suc j * s = omega (arith, suc-mul j s) in
    wave-at n s (p + s) j (le_of_suc-le-suc h) ∙ ap S e

-- phases that are equal modulo 1,920
pub wave_same : (n s p q : ℕ) → p % 1920 ≡ q % 1920 → wave n s p ≡ wave n s q
unfolding wave
wave_same zero s p q e = refl
wave_same (suc n) s p q e = ap₂ (λ (x : ℤ) (xs : List ℤ). x ∷ xs) (S_same p q e) (wave_same n s (p + s) (q + s) (omega arith))

-- half a cycle on
pub wave-opposite : (n s p : ℕ) → wave n s (p + 960) ≡ map neg_ℤ (wave n s p)
unfolding wave
wave-opposite zero s p = refl
wave-opposite (suc n) s p =
    let e : p + 960 + s ≡ p + s + 960 = omega arith in
    ap₂ (λ (x : ℤ) (xs : List ℤ). x ∷ xs) (S-opposite p) (ap (wave n s) e ∙ wave-opposite n s (p + s))

pub wave_bound : (n s p : ℕ) → Bounded 6000 (wave n s p)
unfolding wave
wave_bound zero s p = bounded_none
wave_bound (suc n) s p = bounded_more (S_bound p) (wave_bound n s (p + s))

-- ---- a wave as the sines of its phases

pub map-phases : (n s p : ℕ) → map S (phases n s p) ≡ wave n s p
unfolding phases wave
map-phases zero s p = refl
map-phases (suc n) s p = ap (λ (xs : List ℤ). S p ∷ xs) (map-phases n s (p + s))

pub length-phases : (n s p : ℕ) → length (phases n s p) ≡ n
unfolding phases
length-phases zero s p = refl
length-phases (suc n) s p = ap suc (length-phases n s (p + s))

pub phases-at : (n s p j : ℕ) → j < n → get_or (phases n s p) j 0 ≡ p + j * s
unfolding phases
phases-at zero s p j h = absurd (not-suc-le-zero h)
phases-at (suc n) s p zero h = omega arith
phases-at (suc n) s p (suc j) h = phases-at n s (p + s) j (le_of_suc-le-suc h) ∙ omega (arith, suc-mul j s)

-- a step and a phase may be taken modulo 1,920
step_reduced : (n s p : ℕ) → wave n (s % 1920) p ≡ wave n s p
unfolding wave
step_reduced zero s p = refl
step_reduced (suc n) s p = ap (λ (xs : List ℤ). S p ∷ xs) (step_reduced n s (p + s % 1920) ∙ wave_same n s (p + s % 1920) (p + s) (omega arith))

pub wave_reduced : (n s p : ℕ) → wave n (s % 1920) (p % 1920) ≡ wave n s p
wave_reduced n s p = step_reduced n s (p % 1920) ∙ wave_same n s (p % 1920) p (omega arith)
