-- `sheet_reader::reader::Seen::of` meets its contract.
-- Assumes nothing.
use Rattle.sheet_reader.proofs.Passes.{Looked}
use Rattle.sheet_reader.proofs.reader.Seen.of.Given as goal

abbrev pub invariant-loop-byte : goal.invariant-loop-byte
invariant-loop-byte l = Looked l.lines l.line l.count l.sound l.byte-index
