-- `receiver::ends::head` meets its contract.
-- Assumes nothing.
use Rattle.std.proofs.Common.{rules}
use Rattle.receiver.proofs.Heads.{head_is}
use Rattle.receiver.proofs.ends.head.Goals as goal

pub returns : goal.returns
returns c =
    head_is c.args.window.now c.args.samples.now _ _ _ _ (search rules) c.min-n.ensures c.copy_from_slice.ensures.after c.copy_from_slice-2.ensures.after
