-- Assumes nothing.
use Rattle.std.proofs.Common.{rules}
use Rattle.sine.specs.Fold.{place_of}
use Rattle.sine.proofs.Filled.{mapped_more}
use Rattle.sine.proofs.fold.places.Goals as goal

pub loop-j-preserved : goal.loop-j-preserved
loop-j-preserved c =
    let l = c.loop-j in
    record { long = search rules; made = mapped_more place_of _ l.places l.j 0 _ (search rules) (search rules) c.place_of.ensures l.invariant.made }
