-- `sheet_reader::reader::fill` meets its contract.
-- Assumes nothing.
use Rattle.std.proofs.Common.{rules, sym, ◌∙◌}
use Rattle.sheet_reader.proofs.Passes.{filled_feed, filled_other}
use Rattle.sheet_reader.proofs.reader.fill.Goals as goal
use Rattle.sheet_reader.proofs.reader.fill.Goals.{then-byte-eq10, else-byte-eq10}

pub loop-byte-preserved : goal.loop-byte-preserved
loop-byte-preserved c =
    let l = c.loop-byte in
    let e = sym c.next.ensures ∙ c.unwrap-line.ensures in
    elim c.if-byte-eq10.branch [
      | then-byte-eq10 w ↦ rw (w.out-is, w.count-is) (filled_feed l.invariant c.loop-byte-test.true e w.if-byte-eq10.true _ (search rules))
      | else-byte-eq10 w ↦ rw (w.out-is, w.count-is) (filled_other l.invariant c.loop-byte-test.true e w.if-byte-eq10.false)
    ]
