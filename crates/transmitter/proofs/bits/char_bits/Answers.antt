-- `transmitter::bits::char_bits` meets its contract.
-- Assumes nothing.
use native.Mathlib.Nat.{div-div-eq-div-mul}
use Rattle.transmitter.specs.Samples.{char_bits, data_bits}
use Rattle.transmitter.proofs.bits.char_bits.Goals as goal

pub returns : goal.returns
unfolding char_bits data_bits
returns c = simp div-div-eq-div-mul
