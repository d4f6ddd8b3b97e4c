-- `modulator::put_sheet` meets its contract: the lines of the refusal, or the sheet.
-- Assumes nothing.
use mathlib.Core.Path.{ap, ◌∙◌}
use mathlib.Core.List.{List}
use Prim.Native.Nat.{ℕ}
use borrow.Author.Rules.{rules}
use lib.ListN.{length}
use lib.Seq.{sets}
use Rattle.calls.specs.Outcome.{over}
use Rattle.printing.specs.Printing.{refusal_lines}
use Rattle.printing.proofs.Printing.{refusal-over}
use Rattle.modulator.proofs.Cases.{sheet-ok, sheet-err}
use Rattle.modulator.proofs.put_sheet.Goals as goal

pub returns-in-Ok : goal.returns-in-Ok
returns-in-Ok c =
    let a = c.args in
    let w = sheet-ok a.band a.bytes.now a.out.now c.write.new.out c.in-Ok.count c.in-Ok.ensures in
    record { count = w.0; lent = w.1 }

pub returns-in-Err : goal.returns-in-Err
returns-in-Err c =
    let a = c.args in
    let w = sheet-err a.band a.bytes.now a.out.now c.write.new.out c.in-Err.refusal c.in-Err.ensures in
    let p = c.put_refusal.ensures in
    let text = ap refusal_lines c.into.ensures ∙ w.0 in
    let room = refusal-over c.into.result a.out.now (search rules) (search rules) in
    record {
      count = p.count ∙ ap length text;
      lent = p.lent ∙ ap (λ (l : List ℕ). sets l 0 (refusal_lines c.into.result)) w.1 ∙ room ∙ ap (λ (l : List ℕ). over l a.out.now) text;
    }
