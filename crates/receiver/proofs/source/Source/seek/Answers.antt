-- `receiver::source::Source::seek` meets its contract: each turn is one window of the other tone.
-- Assumes nothing.
use Rattle.std.proofs.Common.{◌≡◌, sym, ap, ◌∙◌, arith}
use mathlib.Core.Bool.{beq}
use borrow.Author.Tests.{not-true, not-false}
use Rattle.control.specs.declared.Decision.{Decision}
use Rattle.receiver.specs.AsCoded.{decisions_in, run_at}
use Rattle.receiver.proofs.Places.{place-more}
use Rattle.receiver.proofs.Onward.{seek_start, seek_none, seek_other, seek_bad, seek_tone}
use Rattle.receiver.proofs.source.Source.seek.Goals as goal

pub loop-i-init : goal.loop-i-init
loop-i-init c l =
    seek_start (decisions_in c.args.self.now) c.args.place c.requires.place c.args.space c.skip-first.result c.skip-first.ensures (omega (arith, l))

pub returns-then-not-d : goal.returns-then-not-d
returns-then-not-d c =
    rw (c.missed.ensures, c.exact.ensures)
    (seek_bad (decisions_in c.args.self.now) c.args.place c.requires.place c.args.space c.loop-i.i c.skip-first.result.since
    (c.loop-i.invariant (omega arith)) (omega arith)
    (sym (ap (λ (d : Decision). d.good) c.judge-d.ensures) ∙ not-true c.judge-d.result.good c.if-not-d.true))

pub run_back-run-requires : goal.run_back-run-requires
run_back-run-requires c =
    rw c.moved.ensures
    (place-more (decisions_in c.args.self.now) c.args.place c.requires.place c.loop-i.i c.skip-first.result.since
    (c.loop-i.invariant (omega arith)).place (omega arith)
    (sym (ap (λ (d : Decision). d.good) c.judge-d.ensures) ∙ not-false c.judge-d.result.good c.if-not-d.false))

pub returns-then-d-space : goal.returns-then-d-space
returns-then-d-space c =
    rw (c.exact-then-d-space.ensures, c.is_found.ensures, c.judge-d.ensures)
    (seek_tone (decisions_in c.args.self.now) c.args.place c.requires.place c.args.space c.loop-i.i c.skip-first.result.since
    (c.loop-i.invariant (omega arith)) (omega arith) c.run_back-run.result
    (c.run_back-run.ensures ∙ ap (run_at (decisions_in c.args.self.now)) c.moved.ensures))

pub loop-i-preserved : goal.loop-i-preserved
loop-i-preserved c l =
    seek_other (decisions_in c.args.self.now) c.args.place c.requires.place c.args.space c.loop-i.i c.skip-first.result.since
    (c.loop-i.invariant (omega arith)) (omega arith)
    (sym (ap (λ (d : Decision). d.good) c.judge-d.ensures) ∙ not-false c.judge-d.result.good c.if-not-d.false)
    (sym (ap (λ (d : Decision). beq d.space c.args.space) c.judge-d.ensures) ∙ c.if-d-space.false)

pub returns : goal.returns
returns c =
    rw (c.missed-2.ensures, c.moved-2.ensures, c.min.ensures)
    (seek_none (decisions_in c.args.self.now) c.args.place c.requires.place c.args.space c.skip-first.result c.skip-first.ensures
    c.len-end.result (omega arith) (omega arith)
    (λ l. let e : c.loop-i.i ≡ c.len-end.result = omega (arith, c.loop-i.auto.i-end l) in rw e at (c.loop-i.invariant (omega arith))))
