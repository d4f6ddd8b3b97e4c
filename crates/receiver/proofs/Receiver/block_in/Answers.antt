-- `receiver::Receiver::block_in` meets its contract: it is refused, or the block is read.
-- Assumes nothing.
use Rattle.receiver.proofs.Calls.{read_in}
use Rattle.receiver.proofs.Receiver.block_in.Goals as goal

pub returns-clause-read : goal.returns-clause-read
returns-clause-read c =
    rw c.read-state.ensures.state
    (read_in c.args.self c.args.samples.now c.args.places c.args.lists.now c.read-state.new.lists c.requires.empty c.in_default.ensures
    c.read-state.ensures.told c.requires.events c.requires.differences)
