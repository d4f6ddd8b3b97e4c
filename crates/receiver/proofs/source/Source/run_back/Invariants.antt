-- `receiver::source::Source::run_back` meets its contract: each turn is one window more with a good level.
-- Assumes nothing.
use Rattle.receiver.specs.AsCoded.{decisions_in}
use Rattle.receiver.proofs.Places.{Back}
use Rattle.receiver.proofs.source.Source.run_back.Given as goal

abbrev pub invariant-loop-i : goal.invariant-loop-i
invariant-loop-i l = Back (decisions_in l.self) l.place l.i
