-- `receiver::source::Source::scan` meets its contract: each turn leads from a place to the next.
-- Assumes nothing.
use Rattle.std.proofs.Common.{◌-◌, length}
use Rattle.receiver.specs.AsCoded.{decisions_in}
use Rattle.receiver.proofs.Scanning.{Scanning}
use Rattle.receiver.proofs.source.Source.scan.Given as goal

abbrev pub invariant-loop-at : goal.invariant-loop-at
invariant-loop-at l = Scanning (decisions_in l.self) l.fn.first l.initial.lists l.lists l.at

abbrev pub decreases-loop-at : goal.decreases-loop-at
decreases-loop-at l = length (decisions_in l.self) - l.at.place.next
