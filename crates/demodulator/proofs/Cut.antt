-- What stands behind the bytes that the program reads changes nothing: a longer input is refused with 6, and so are those bytes.
-- Assumes nothing.
use mathlib.Core.Path.{◌≡◌, sym, ap, ◌∙◌}
use mathlib.Core.List.{List}
use Prim.Native.Nat.{ℕ, ◌<◌}
use native.Mathlib.Omega.{arith}
use lib.ListN.{length, take, length-take}
use lib.Seq.{take_all}
use Rattle.integers.proofs.Tests.{lt_or_le}
use Rattle.tones.specs.Samples.{most_samples}
use Rattle.printing.specs.Printing.{refusal_lines}
use Rattle.sheet.specs.Calls.{most_bytes}
use Rattle.sheet.proofs.Calls.{read_6}
use Rattle.demodulator.specs.Demodulate.{demodulated, most_input, CutInput}
use Rattle.demodulator.proofs.Cases.{reading_refused}

too_long : (text : List ℕ) → most_bytes < length text → refusal_lines 6 ≡ demodulated text
too_long text h = reading_refused text 6 (read_6 text most_samples h) (λ e. omega arith)

pub cut_input : CutInput
cut_input input =
    lt_or_le most_bytes (length input)
    (λ h. sym (too_long (take most_input input) (omega (arith, length-take most_input input))) ∙ too_long input h)
    (λ h. ap demodulated (take_all most_input input (omega arith)))
