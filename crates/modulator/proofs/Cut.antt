-- What `modulate` prints does not depend on what is behind the part of its input that the program reads.
-- Assumes nothing.
use mathlib.Core.Path.{◌≡◌, refl, sym, ap, ◌∙◌}
use mathlib.Core.Bool.{Bool, true, false, cond, not}
use mathlib.Core.List.{List, [], ◌∷◌}
use Prim.Native.Nat.{ℕ, suc, ◌-◌, ◌<◌}
use native.Mathlib.Omega.{arith}
use borrow.Author.Tests.{lt-ltb}
use lib.ListN.{length, take, length-take}
use lib.Seq.{take_all}
use Rattle.integers.proofs.Tests.{lt_or_le}
use Rattle.tones.specs.Bands.{is_band}
use Rattle.transmitter.specs.Calls.{most_characters}
use Rattle.digits.specs.Numbers.{is_digit}
use Rattle.printing.specs.Printing.{refusal_lines}
use Rattle.modulator.specs.Modulate.{sending_of, modulated, CutInput}
use Rattle.modulator.proofs.Cases.{sending_refused}

-- a message that is too long is refused for its band or for its length, whatever it says
abbrev number : Bool → ℕ
number known = cond (not known) 1 3

too_long : (band : ℕ) (bytes : List ℕ) → most_characters < length bytes → sending_of band bytes ≡ refusal_lines (number (is_band band))
too_long band bytes h =
    sym (sending_refused band bytes (number (is_band band)) (rw (lt-ltb most_characters (length bytes) h)) (not_none (is_band band)))
  where
    not_none : (known : Bool) → number known ≡ 0 → ⊥
    not_none true e = omega arith
    not_none false e = omega arith

cut_bytes : (band : ℕ) (bytes : List ℕ) → sending_of band (take (suc most_characters) bytes) ≡ sending_of band bytes
cut_bytes band bytes =
    lt_or_le most_characters (length bytes)
    (λ h. too_long band (take (suc most_characters) bytes) (omega (arith, length-take (suc most_characters) bytes)) ∙ sym (too_long band bytes h))
    (λ h. ap (sending_of band) (take_all (suc most_characters) bytes (omega arith)))

pub cut_input : CutInput
unfolding modulated
cut_input [] = refl
cut_input (first ∷ bytes) = ap (λ (l : List ℕ). cond (is_digit first) l (refusal_lines 1)) (cut_bytes (first - 48) bytes)
