-- `transmitter::Transmitter::put_bits` meets its contract: each turn sends one bit.
-- Assumes nothing.
use Prim.Native.Nat.{◌+◌, ◌*◌}
use lib.ListN.{drop}
use Rattle.transmitter.proofs.Progress.{Progress}
use Rattle.transmitter.proofs.Transmitter.put_bits.Given as goal

abbrev pub invariant-loop-i : goal.invariant-loop-i
invariant-loop-i l =
    Progress l.fn.self l.bits l.initial.out l.at (record { band = l.fn.self.band; phase = l.phase }) (drop l.i l.bits) l.out (l.at + 32 * l.i)
