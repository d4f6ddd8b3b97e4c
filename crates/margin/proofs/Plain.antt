-- What a receiver decides that doubts more, a receiver decides that doubts less: `Margins` of `decide` from those of the stricter one.
-- Assumes nothing.
use mathlib.Core.Path.{◌≡◌, refl}
use mathlib.Core.Bool.{false}
use mathlib.Core.List.{List}
use Prim.Native.Nat.{ℕ, zero, suc}
use lib.IntN.{ℤ}
use Rattle.tones.specs.declared.Tones.{Tones}
use Rattle.control.specs.declared.Decision.{Decision}
use Rattle.control.specs.Rules.{bit_of}
use Rattle.control.specs.AsCoded.{is_doubt}
use Rattle.quality.proofs.Clear.{strict, strict_bit}
use Rattle.margin.specs.Windows.{Margins}

-- a bit that has a number is not doubtful
known : (bit : ℕ) → is_doubt (bit_of bit) ≡ false
known zero = refl
known (suc bit) = refl

-- only the fields that speak of the bit differ
pub plainly : {noise : ℕ} (clear : ℕ) {t : Tones} (decide : List ℤ → Decision) → Margins noise t (λ w. strict clear (decide w)) → Margins noise t decide
plainly clear decide M =
    record {
      Begins = M.Begins;
      first_bit = M.first_bit;
      next_bit = M.next_bit;
      carrier = M.carrier;
      earlier = M.earlier;
      later = M.later;
      steady = M.steady;
      earlier_clear = λ p begins a b k h w near. strict_bit clear (decide w) (bit_of a) (known a) (M.earlier_clear p begins a b k h w near);
      later_clear = λ p begins a b k l h w near. strict_bit clear (decide w) (bit_of b) (known b) (M.later_clear p begins a b k l h w near);
      mark_then_silence = M.mark_then_silence;
      silent = M.silent;
    }
