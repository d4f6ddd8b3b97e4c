-- The starred bench examples of the specification.
-- Assumes nothing.
use mathlib.Core.Path.{◌≡◌, refl, ◌∙◌}
use mathlib.Core.List.{[], ◌∷◌}
use Prim.Native.Nat.{ℕ, ◌+◌, ◌*◌, ◌%◌}
use native.Mathlib.Omega.{arith}
use lib.IntN.{pos}
use lib.ListN.{take}
use Rattle.sine.proofs.Examples.{sine-examples, step_214}
use Rattle.tones.specs.declared.Tones.{Tones}
use Rattle.tones.specs.Bands.{tones_of, step_of, originate}
use Rattle.tones.proofs.Laws.{rows}
use Rattle.transmitter.specs.Samples.{send, phase_after, bit_steps, send_bits, phase_bits, char_bits, data_bits}
use Rattle.transmitter.specs.Examples.{Examples}
use Rattle.transmitter.proofs.Laws.{phase_bit}

-- how far a bit of the tones t takes the phase
advance : (t u : Tones) (bit n : ℕ) → t ≡ u → (32 * step_of u bit) % 1920 ≡ n → (p : ℕ) → phase_bits t p (bit ∷ []) ≡ (p + n) % 1920
advance t u bit n e h p = rw e (phase_bit u p bit ∙ omega arith)

four : take 4 (send_bits originate 0 (0 ∷ [])) ≡ pos 0 ∷ pos 3867 ∷ pos 5913 ∷ pos 5176 ∷ []
unfolding send bit_steps
four = rw (sine-examples.at_0, step_214.0, step_214.1, step_214.2)

ends : phase_bits originate 0 (char_bits 65) ≡ 1280
unfolding phase_after bit_steps char_bits data_bits
ends = refl

pub examples : Examples
examples =
    record {
      sine = sine-examples;
      space = rw rows.0 four;
      character = rw rows.0 ends;
      space_1 = advance (tones_of 1) _ 0 1088 rows.0 refl;
      mark_1 = advance (tones_of 1) _ 1 448 rows.0 refl;
      space_2 = advance (tones_of 2) _ 0 1440 rows.1 refl;
      mark_2 = advance (tones_of 2) _ 1 800 rows.1 refl;
    }
