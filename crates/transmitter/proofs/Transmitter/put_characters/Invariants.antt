-- `transmitter::Transmitter::put_characters` meets its contract: each turn sends the ten bits of one character.
-- Assumes nothing.
use Prim.Native.Nat.{◌*◌}
use lib.ListN.{drop}
use Rattle.transmitter.specs.Samples.{characters_bits}
use Rattle.transmitter.proofs.Progress.{Progress}
use Rattle.transmitter.proofs.Transmitter.put_characters.Given as goal

abbrev pub invariant-loop-i : goal.invariant-loop-i
invariant-loop-i l =
    Progress l.fn.self (characters_bits l.bytes) l.initial.out 0 l.next (characters_bits (drop l.i l.bytes)) l.out (320 * l.i)
