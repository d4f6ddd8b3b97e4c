-- `receiver::source::Source::seek` meets its contract: each turn is one window of the other tone.
-- Assumes nothing.
use Rattle.std.proofs.Common.{◌≤◌}
use Rattle.receiver.specs.AsCoded.{decisions_in}
use Rattle.receiver.proofs.Onward.{Seeking}
use Rattle.receiver.proofs.source.Source.seek.Given as goal

abbrev pub invariant-loop-i : goal.invariant-loop-i
invariant-loop-i l = l.i ≤ l.end → Seeking (decisions_in l.self) l.place l.space l.i l.first.since
