-- `tones::are_between` meets its contract: the answer so far is that of the numbers so far.
-- Assumes nothing.
use mathlib.Core.Path.{◌≡◌}
use lib.ListN.{take}
use Rattle.tones.specs.Samples.{are_between}
use Rattle.tones.proofs.are_between.Given as goal

abbrev pub invariant-loop-x : goal.invariant-loop-x
invariant-loop-x l = l.good ≡ are_between l.low l.high (take l.x-index l.xs)
