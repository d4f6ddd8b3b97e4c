-- Each turn reads one block, and the blocks have the size.
-- Assumes nothing.
use Rattle.std.proofs.Common.{◌≡◌}
use Rattle.std.specs.Slice.Iter.{chunks_rest, chunks_size}
use Rattle.receiver.specs.Calls.{fresh}
use Rattle.loopback.proofs.Receiving.{InBlocks}
use Rattle.loopback.proofs.receive.receive.Given as goal

abbrev pub invariant-loop-block : goal.invariant-loop-block
invariant-loop-block l = record {
  sized : chunks_size l.block-iterator ≡ l.size;
  read : InBlocks (fresh l.fn.band) l.fn.samples (l.initial.events, l.initial.differences) l.receiver (chunks_rest l.block-iterator) l.count (l.events, l.differences);
}
