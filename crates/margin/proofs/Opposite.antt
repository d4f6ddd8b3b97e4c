-- Half a cycle on, every sample of a tone is the opposite one and the sums of a window keep their sizes: a phase passes the test if
-- and only if the phase half a cycle on does, so that half of the phases are enough. From the opposite halves of the wave.
-- Assumes nothing.
use mathlib.Core.Path.{◌≡◌, ap, ap₂, sym, ◌∙◌}
use mathlib.Core.Bool.{Bool, false, ◌&&◌}
use mathlib.Core.List.{List, ◌++◌, map, map-append}
use Prim.Native.Nat.{ℕ, ◌+◌, ◌*◌, ◌%◌}
use native.Mathlib.Omega.{arith}
use lib.IntN.{ℤ, pos, neg_ℤ}
use lib.ListN.{take, drop, replicate}
use Rattle.std.proofs.lemmas.List.{take-map, drop-map}
use Rattle.integers.proofs.Lists.{map-replicate}
use Rattle.integers.proofs.Sums.{dot-opposite-size}
use Rattle.integers.proofs.Tests.{passes_below}
use Rattle.sine.specs.Wave.{wave}
use Rattle.sine.proofs.Wave.{wave_same, wave-opposite}
use Rattle.tones.specs.declared.Tones.{Tones}
use Rattle.tones.specs.Bands.{step_of}
use Rattle.margin.specs.Windows.{phase_after_bit, is_space}
use Rattle.margin.proofs.Energies.{Bounds, ToneWeights, bounds}
use Rattle.margin.proofs.Test.{wins_sure, read_sure, Weights, window_sure, across_sure, silence_behind_sure, pair_sure, bit_sure, phase_sure}

bounds_opposite : (w : ToneWeights) (sent : List ℤ) → bounds w (map neg_ℤ sent) ≡ bounds w sent
unfolding bounds
bounds_opposite w sent = rw (dot-opposite-size sent w.cosines, dot-opposite-size sent w.sines)

-- the wave of the step s that begins n further on
next-opposite : (s p n : ℕ) → wave 32 s ((p + 960 + n) % 1920) ≡ map neg_ℤ (wave 32 s ((p + n) % 1920))
next-opposite s p n =
    wave_same 32 s ((p + 960 + n) % 1920) ((p + n) % 1920 + 960) (omega arith) ∙ wave-opposite 32 s ((p + n) % 1920)

module _ (w : Weights) where
  -- a window in two parts
  window-opposite : (sure : (space mark : Bounds) → Bool) (xs ys : List ℤ) {xs' ys' : List ℤ} → map neg_ℤ xs ≡ xs' → map neg_ℤ ys ≡ ys'
      → window_sure w sure (xs' ++ ys') ≡ window_sure w sure (xs ++ ys)
  unfolding window_sure
  window-opposite sure xs ys e f =
      ap (window_sure w sure) (sym (map-append neg_ℤ xs ys ∙ ap₂ (λ (l r : List ℤ). l ++ r) e f))
      ∙ ap₂ sure (bounds_opposite w.space (xs ++ ys)) (bounds_opposite w.mark (xs ++ ys))

  across-opposite : (a b : Bool) (xs ys : List ℤ) → across_sure w a b (map neg_ℤ xs) (map neg_ℤ ys) ≡ across_sure w a b xs ys
  unfolding across_sure
  across-opposite a b xs ys i =
      passes_below (λ k. window-opposite (read_sure w.clear a b k) (drop k xs) (take k ys) (sym (drop-map neg_ℤ k xs)) (sym (take-map neg_ℤ k ys)) i) 32

  silence-behind-opposite : (xs : List ℤ) → silence_behind_sure w (map neg_ℤ xs) ≡ silence_behind_sure w xs
  unfolding silence_behind_sure
  silence-behind-opposite xs i =
      passes_below (λ k. window-opposite (wins_sure false) (drop k xs) (replicate k (pos 0)) (sym (drop-map neg_ℤ k xs)) (map-replicate neg_ℤ k (pos 0)) i) 16

  module _ (t : Tones) (p : ℕ) where
    pair-opposite : (a : ℕ) (xs : List ℤ) (b : ℕ) → pair_sure w t (p + 960) a (map neg_ℤ xs) b ≡ pair_sure w t p a xs b
    unfolding pair_sure
    pair-opposite a xs b =
        ap (across_sure w (is_space a) (is_space b) (map neg_ℤ xs)) (next-opposite (step_of t b) p (32 * step_of t a))
        ∙ across-opposite (is_space a) (is_space b) xs (wave 32 (step_of t b) (phase_after_bit t p a))

    bit_opposite : (a : ℕ) → bit_sure w t (p + 960) a (wave 32 (step_of t a) (p + 960)) ≡ bit_sure w t p a (wave 32 (step_of t a) p)
    unfolding bit_sure
    bit_opposite a =
        ap (bit_sure w t (p + 960) a) (wave-opposite 32 (step_of t a) p)
        ∙ (λ i. passes_below (λ b. pair-opposite a (wave 32 (step_of t a) p) b i) 2)

    pub phase-opposite : phase_sure w t (p + 960) ≡ phase_sure w t p
    unfolding phase_sure
    phase-opposite =
        ap₂ (λ (x y : Bool). x && y) (λ i. passes_below (λ a. bit_opposite a i) 2)
        (ap (silence_behind_sure w) (wave-opposite 32 t.mark p) ∙ silence-behind-opposite (wave 32 t.mark p))
