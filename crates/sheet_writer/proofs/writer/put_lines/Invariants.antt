-- `sheet_writer::writer::put_lines` meets its contract.
-- Assumes nothing.
use Rattle.sheet_writer.proofs.Writing.{Lined}
use Rattle.sheet_writer.proofs.writer.put_lines.Given as goal

abbrev pub invariant-loop-sample : goal.invariant-loop-sample
invariant-loop-sample l = Lined l.samples l.initial.out l.out l.at l.sample-index
