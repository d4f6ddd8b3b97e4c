-- `receiver::source::Source::run_back` meets its contract: each turn is one window more with a good level.
-- Assumes nothing.
use Rattle.std.proofs.Common.{◌≡◌, ◌-◌, sym, ap, ◌∙◌, arith}
use borrow.Author.Tests.{not-true, not-false}
use Rattle.control.specs.declared.Decision.{Decision}
use Rattle.receiver.specs.AsCoded.{decisions_in}
use Rattle.receiver.proofs.Places.{back_good, back_start, back_bad, back_all}
use Rattle.receiver.proofs.source.Source.run_back.Goals as goal

pub loop-i-init : goal.loop-i-init
loop-i-init c = back_start (decisions_in c.args.self.now) c.args.place c.requires

pub returns-then-not-judge : goal.returns-then-not-judge
returns-then-not-judge c =
    let b = c.loop-i.invariant in
    let e : c.args.place.next - (c.loop-i.i - 1) - 1 ≡ c.args.place.next - c.loop-i.i = omega (arith, b.behind, b.before) in
    e
    ∙ back_bad (decisions_in c.args.self.now) c.args.place c.requires c.loop-i.i b (omega arith) (omega arith)
    (sym (ap (λ (d : Decision). d.good) c.judge.ensures) ∙ not-true c.judge.result.good c.if-not-judge.true)

pub loop-i-preserved : goal.loop-i-preserved
loop-i-preserved c =
    back_good (decisions_in c.args.self.now) c.args.place c.requires c.loop-i.i c.loop-i.invariant (omega arith)
    (sym (ap (λ (d : Decision). d.good) c.judge.ensures) ∙ not-false c.judge.result.good c.if-not-judge.false)

pub returns : goal.returns
returns c =
    c.min.ensures ∙ back_all (decisions_in c.args.self.now) c.args.place c.requires c.loop-i.i c.loop-i.invariant (omega arith)
