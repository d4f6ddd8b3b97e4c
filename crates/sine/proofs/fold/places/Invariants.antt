-- The places up to `j` hold what the list asked for has there.
-- Assumes nothing.
use Rattle.std.proofs.Common.{◌≡◌, map, length, take}
use Rattle.sine.specs.Fold.{place_of}
use Rattle.sine.proofs.fold.places.Given as goal

abbrev pub invariant-loop-j : goal.invariant-loop-j
invariant-loop-j l = record { long : length l.places ≡ 32; made : take l.j l.places ≡ take l.j (map place_of l.phases) }
