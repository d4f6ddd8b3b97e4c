-- The places up to `j` hold what the list asked for has there.
-- Assumes nothing.
use Rattle.std.proofs.Common.{◌≡◌, ◌%◌, length, take}
use Rattle.sine.specs.Wave.{phases}
use Rattle.sine.proofs.fold.phases.Given as goal

abbrev pub invariant-loop-j : goal.invariant-loop-j
invariant-loop-j l = record { long : length l.phases ≡ 32; made : take l.j l.phases ≡ take l.j (phases 32 (l.step % 1920) (l.phase % 1920)) }
