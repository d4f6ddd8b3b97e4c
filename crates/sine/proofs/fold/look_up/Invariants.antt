-- The places up to `j` hold what the list asked for has there.
-- Assumes nothing.
use Rattle.std.proofs.Common.{◌≡◌, map, length, take}
use Rattle.sine.specs.Sine.{S}
use Rattle.sine.proofs.fold.look_up.Given as goal

abbrev pub invariant-loop-j : goal.invariant-loop-j
invariant-loop-j l = record { long : length l.found ≡ 32; made : take l.j l.found ≡ take l.j (map S l.places) }
