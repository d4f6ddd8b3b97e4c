-- `receiver::Receiver::block` meets its contract: the places of the shorter list count, and no index is told.
-- Assumes nothing.
use Rattle.std.proofs.Common.{rules}
use Rattle.calls.specs.Outcome.{as_answer}
use Rattle.receiver.proofs.Calls.{block_left}
use Rattle.receiver.proofs.Receiver.block.Goals as goal

pub returns : goal.returns
returns c =
    let l = c.block_in.new.lists in
    block_left c.args.self c.args.samples.now (as_answer c.block_in.result.answer) c.block_in.result.state (c.args.events.now, c.args.differences.now)
    (l.events.now, l.differences.now) _ _ _ (search rules) (search rules) c.min-places.ensures c.block_in.ensures.read
