-- The phases at which a bit can begin: multiples of a stride that divides 960 and 32 times either step. If those below 960 pass the
-- test, all do (Opposite); and what a receiver that doubts more then decides (Facts) is `Margins`.
-- Assumes nothing.
use mathlib.Core.Path.{◌≡◌, refl, subst, ◌∙◌}
use mathlib.Core.Bool.{Bool, true, false, cond, beq}
use mathlib.Mathlib.Data.Bool.Basic.{and_elim_left, and_elim_right}
use Prim.Native.Nat.{ℕ, zero, suc, ◌+◌, ◌*◌, ◌-◌, ◌/◌, ◌%◌, ◌<◌, ◌∣◌}
use native.Mathlib.Nat.{dvd-zero, dvd-add, dvd-sub, dvd-mul_right, dvd-mod_iff, dvd_of_mod-eq-zero, mul-div_cancel', mod-lt, lt_of_mul-lt-mul_left}
use native.Mathlib.Omega.{arith}
use lib.Dec.{lit<}
use lib.IntN.{pos}
use lib.ListN.{replicate}
use Rattle.integers.proofs.Tests.{lt_or_le, passes_below, below_at}
use Rattle.tones.specs.declared.Tones.{Tones}
use Rattle.tones.specs.Bands.{step_of}
use Rattle.control.specs.declared.Bit.TheVariants.{Mark, Space}
use Rattle.control.specs.Rules.{bit_of}
use Rattle.quality.proofs.Clear.{strict}
use Rattle.receiver.specs.Energy.{decision_of}
use Rattle.margin.specs.Windows.{across, is_space, Margins}
use Rattle.margin.proofs.Test.{silence_sure, read_sure, Weights, weights_of, window_sure, phase_sure, all_sure, test}
use Rattle.margin.proofs.Facts.{silence-decided, bit_decided, carrier-decided, earlier-decided, later-decided, same_decided, earlier_clear, later_clear, across-passed, silence-behind-passed}
use Rattle.margin.proofs.Opposite.{phase-opposite}

same_bit : (b : Bool) → beq b b ≡ true
same_bit true = refl
same_bit false = refl

bit_of_lem : (bit : ℕ) → cond (is_space bit) Space Mark ≡ bit_of bit
bit_of_lem zero = refl
bit_of_lem (suc bit) = refl

-- a phase at which a bit can begin
record Begins (stride p : ℕ) : Type 0 where
  multiple : stride ∣ p
  below : p < 1920

module _ (noise clear : ℕ) (t : Tones) (stride count : ℕ) (whole : stride * count ≡ 960) (passed : test noise clear t stride count ≡ true) where
  abbrev w : Weights
  w = weights_of noise clear t

  abbrev silence : Bool
  silence = window_sure w silence_sure (replicate 32 (pos 0))

  abbrev phases : Bool
  phases = passes_below (λ i. phase_sure w t (stride * i)) count

  silence-passed : silence ≡ true
  unfolding test all_sure
  silence-passed = and_elim_left silence phases passed

  phases-passed : (i : ℕ) → i < count → phase_sure w t (stride * i) ≡ true
  unfolding test all_sure
  phases-passed = below_at (λ i. phase_sure w t (stride * i)) count (and_elim_right silence phases passed)

  half_cycle : stride ∣ 960
  half_cycle = rw whole at (dvd-mul_right stride count)

  lower : (p : ℕ) → stride ∣ p → p < 960 → phase_sure w t p ≡ true
  lower p d h =
      subst (λ (q : ℕ). phase_sure w t q ≡ true) (mul-div_cancel' stride d)
      (phases-passed (p / stride) (lt_of_mul-lt-mul_left stride (rw (mul-div_cancel' stride d, whole) h)))

  all : (p : ℕ) → Begins stride p → phase_sure w t p ≡ true
  all p b =
      lt_or_le p 960 (lower p b.multiple)
      (λ h.
      let e : p - 960 + 960 ≡ p = omega arith in
      subst (λ (q : ℕ). phase_sure w t q ≡ true) e
      (phase-opposite w t (p - 960) ∙ lower (p - 960) (dvd-sub stride b.multiple half_cycle) (omega arith)))

  two_bits : (p : ℕ) → Begins stride p → (a b k : ℕ) → k < 32 → window_sure w (read_sure w.clear (is_space a) (is_space b) k) (across t p a b k) ≡ true
  two_bits p begins = across-passed w t p (all p begins)

  module _ (space : 32 * t.space % stride ≡ 0) (mark : 32 * t.mark % stride ≡ 0) where
    bit_step : (bit : ℕ) → stride ∣ 32 * step_of t bit
    bit_step zero = dvd_of_mod-eq-zero stride space
    bit_step (suc bit) = dvd_of_mod-eq-zero stride mark

    pub margins_of : Margins noise t (λ w. strict clear (decision_of t w))
    margins_of =
        record {
          Begins = Begins stride;
          first_bit = record { multiple = dvd-zero stride; below = lit< tt };
          next_bit = λ p begins bit. record {
            multiple = (dvd-mod_iff stride (dvd-add stride half_cycle half_cycle)).1 (dvd-add stride begins.multiple (bit_step bit));
            below = mod-lt (p + 32 * step_of t bit) (lit< tt);
          };
          carrier = λ p begins a b k h window near. carrier-decided noise clear t near (is_space a) (is_space b) k (two_bits p begins a b k h);
          earlier = λ p begins a b k h window near.
              earlier-decided noise clear t near (is_space a) (is_space b) k (two_bits p begins a b k (omega arith)) h;
          later = λ p begins a b k l h window near. later-decided noise clear t near (is_space a) (is_space b) k (two_bits p begins a b k h) l;
          steady = λ p begins a k h window near.
              same_decided noise clear t near (is_space a) (is_space a) k (two_bits p begins a a k h) (same_bit (is_space a));
          earlier_clear = λ p begins a b k h window near.
              earlier_clear noise clear t near (is_space a) (is_space b) k (two_bits p begins a b k (omega arith)) h ∙ bit_of_lem a;
          later_clear = λ p begins a b k l h window near.
              later_clear noise clear t near (is_space a) (is_space b) k (two_bits p begins a b k h) l ∙ bit_of_lem b;
          mark_then_silence = λ p begins k h window near. bit_decided noise clear t near false (silence-behind-passed w t p (all p begins) k (omega arith));
          silent = λ window near. silence-decided noise clear t near silence-passed;
        }
