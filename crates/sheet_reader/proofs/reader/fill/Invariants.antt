-- `sheet_reader::reader::fill` meets its contract.
-- Assumes nothing.
use Rattle.sheet_reader.proofs.Passes.{Filled}
use Rattle.sheet_reader.proofs.reader.fill.Given as goal

abbrev pub invariant-loop-byte : goal.invariant-loop-byte
invariant-loop-byte l = Filled l.lines l.initial.out l.out l.line l.count l.byte-index
