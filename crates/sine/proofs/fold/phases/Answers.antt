-- Assumes nothing.
use Rattle.std.proofs.Common.{rules, arith, sym}
use Rattle.sine.proofs.Filled.{filled_more, filled_all}
use Rattle.sine.proofs.Wave.{length-phases, phases-at}
use Rattle.sine.proofs.fold.phases.Goals as goal

pub loop-j-preserved : goal.loop-j-preserved
loop-j-preserved c =
    let l = c.loop-j in
    let next = phases-at 32 _ _ l.j (omega arith) in
    record { long = search rules; made = filled_more _ l.phases l.j 0 _ (omega arith) (omega (arith, length-phases 32)) (sym next) l.invariant.made }

pub returns : goal.returns
returns c = filled_all _ _ c.loop-j.j (omega arith) (omega (arith, length-phases 32)) c.loop-j.invariant.made
