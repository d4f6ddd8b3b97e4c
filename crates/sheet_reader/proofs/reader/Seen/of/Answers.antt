-- `sheet_reader::reader::Seen::of` meets its contract.
-- Assumes nothing.
use Rattle.std.proofs.Common.{rules, ◌≡◌, sym, ◌∙◌}
use Rattle.sheet_reader.proofs.Passes.{looked_none, looked_feed, looked_other, looked_all, looked_ended}
use Rattle.sheet.specs.declared.Line.TheVariants.{Start}
use Rattle.sheet_reader.proofs.reader.Seen.of.Goals as goal
use Rattle.sheet_reader.proofs.reader.Seen.of.Goals.{then-byte-eq10, else-byte-eq10}

pub returns-in_err-line : goal.returns-in_err-line
returns-in_err-line c =
    c.from_residual.ensures ∙ looked_none c.loop-byte.invariant c.loop-byte-test.true (sym c.next.ensures ∙ c.in_err-line.was)

pub loop-byte-preserved : goal.loop-byte-preserved
loop-byte-preserved c =
    let l = c.loop-byte in
    let e = sym c.next.ensures ∙ c.in_ok-line.was in
    elim c.if-byte-eq10.branch [
      | then-byte-eq10 w ↦ rw (w.count-is, w.sound-is) (looked_feed l.invariant c.loop-byte-test.true e w.if-byte-eq10.true _ (search rules))
      | else-byte-eq10 w ↦ rw (w.count-is, w.sound-is) (looked_other l.invariant c.loop-byte-test.true e w.if-byte-eq10.false)
    ]

pub returns-then-ne : goal.returns-then-ne
returns-then-ne c = let e : c.loop-byte.line ≡ Start → ⊥ = search rules in looked_all c.loop-byte.invariant c.loop-byte-test.false e

pub returns : goal.returns
returns c = let e : c.loop-byte.line ≡ Start = search rules in looked_ended c.loop-byte.invariant c.loop-byte-test.false e
