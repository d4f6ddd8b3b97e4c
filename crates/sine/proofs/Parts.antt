-- Laws of `weights_of`: its length, the size of its entries, how it is stored, and its four parts.
-- Assumes nothing.
use mathlib.Core.Path.{◌≡◌, refl, sym, ◌∙◌, ap}
use mathlib.Core.List.{List, ◌++◌, append_assoc}
use Prim.Native.Nat.{ℕ, ◌+◌}
use native.Mathlib.Omega.{arith}
use lib.IntN.{ℤ}
use lib.ListN.{length, take, drop, length-append}
use lib.Seq.{sets, take_at, take_all, drop-append-add}
use Rattle.integers.specs.Sums.{Bounded}
use Rattle.integers.proofs.Sums.{bounded_append}
use Rattle.integers.proofs.Lists.{sets_append, sets-whole}
use Rattle.sine.specs.Wave.{wave, quadrature_of, weights_of}
use Rattle.sine.proofs.Wave.{length-wave, wave_bound}

-- they are four waves, one behind the other
in_order : (a b : ℕ) → weights_of a b ≡ wave 32 a 480 ++ (wave 32 a 0 ++ (wave 32 b 480 ++ wave 32 b 0))
unfolding quadrature_of weights_of
in_order a b = append_assoc (wave 32 a 480) (wave 32 a 0) (wave 32 b 480 ++ wave 32 b 0)

length-quadrature : (s : ℕ) → length (quadrature_of s) ≡ 64
unfolding quadrature_of
length-quadrature s = rw (length-append (wave 32 s 480) (wave 32 s 0), length-wave 32 s 480, length-wave 32 s 0) refl

pub length_weights : (a b : ℕ) → length (weights_of a b) ≡ 128
unfolding weights_of
length_weights a b = rw (length-append (quadrature_of a) (quadrature_of b), length-quadrature a, length-quadrature b) refl

quadrature_bound : (s : ℕ) → Bounded 6000 (quadrature_of s)
unfolding quadrature_of
quadrature_bound s = bounded_append _ _ (wave_bound 32 s 480) (wave_bound 32 s 0)

pub weights_bound : (a b : ℕ) → Bounded 6000 (weights_of a b)
unfolding weights_of
weights_bound a b = bounded_append _ _ (quadrature_bound a) (quadrature_bound b)

-- ---- the weights as four waves that are stored one behind the other, over a list of 128

behind_wave : (s p : ℕ) (l : List ℤ) (i : ℕ) (ws : List ℤ) → sets l i (wave 32 s p ++ ws) ≡ sets (sets l i (wave 32 s p)) (i + 32) ws
behind_wave s p l i ws = rw (length-wave 32 s p) at (sets_append l i (wave 32 s p) ws)

pub weights_stored : (l : List ℤ) {m₁ m₂ m₃ m₄ : List ℤ} (a b : ℕ) → length l ≡ 128 → m₁ ≡ sets l 0 (wave 32 a 480) → m₂ ≡ sets m₁ 32 (wave 32 a 0)
    → m₃ ≡ sets m₂ 64 (wave 32 b 480) → m₄ ≡ sets m₃ 96 (wave 32 b 0) → m₄ ≡ weights_of a b
weights_stored l a b e e₁ e₂ e₃ e₄ =
    e₄ ∙ ap (λ (m : List ℤ). sets m 96 (wave 32 b 0)) (e₃ ∙ ap (λ (m : List ℤ). sets m 64 (wave 32 b 480)) (e₂ ∙ ap (λ (m : List ℤ). sets m 32 (wave 32 a 0)) e₁))
    ∙ sym (ap (sets l 0) (in_order a b) ∙ behind_wave a 480 l 0 _ ∙ behind_wave a 0 _ 32 _ ∙ behind_wave b 480 _ 64 _)
    ∙ sets-whole (weights_of a b) l (length_weights a b ∙ sym e)

-- ---- the four parts

pub record Parts (a b : ℕ) (w : List ℤ) : Type 0 where
  pub first_cosines : take 32 (drop 0 w) ≡ wave 32 a 480
  pub first_sines : take 32 (drop 32 w) ≡ wave 32 a 0
  pub second_cosines : take 32 (drop 64 w) ≡ wave 32 b 480
  pub second_sines : take 32 (drop 96 w) ≡ wave 32 b 0

-- behind the first 32 weights, and those
behind : (s p n : ℕ) (ws : List ℤ) → drop (32 + n) (wave 32 s p ++ ws) ≡ drop n ws
behind s p n ws = rw (length-wave 32 s p) at (drop-append-add (wave 32 s p) ws n)

front : (s p : ℕ) (ws : List ℤ) → take 32 (wave 32 s p ++ ws) ≡ wave 32 s p
front s p ws = take_at (wave 32 s p) ws 32 (length-wave 32 s p)

pub weights_parts : (a b : ℕ) → Parts a b (weights_of a b)
weights_parts a b =
    let from96 = wave 32 b 0 in
    let from64 = wave 32 b 480 ++ from96 in
    let from32 = wave 32 a 0 ++ from64 in
    let to32 = behind a 480 in
    let to64 = behind a 0 in
    rw (in_order a b) record {
      first_cosines = front a 480 from32;
      first_sines = ap (take 32) (to32 0 from32) ∙ front a 0 from64;
      second_cosines = ap (take 32) (to32 32 from32 ∙ to64 0 from64) ∙ front b 480 from96;
      second_sines = ap (take 32) (to32 64 from32 ∙ to64 32 from64 ∙ behind b 480 0 from96) ∙ take_all 32 from96 (omega (arith, length-wave 32 b 0));
    }
