-- The samples before `i` have their numbers added, and those from there on are as they were.
-- Assumes nothing.
use Rattle.loopback.proofs.Disturbing.{Disturbed}
use Rattle.loopback.proofs.disturb.disturb.Given as goal

abbrev pub invariant-loop-i : goal.invariant-loop-i
invariant-loop-i l = Disturbed l.initial.samples l.added l.samples l.i
