-- `receiver::ends::last_window` meets its contract.
-- Assumes nothing.
use Rattle.std.proofs.Common.{rules, replicate, refl}
use lib.IntN.{pos}
use Rattle.receiver.proofs.Heads.{last_is}
use Rattle.receiver.proofs.ends.last_window.Goals as goal

pub returns : goal.returns
returns c =
    last_is c.args.window.now c.args.samples.now (replicate 32 (pos 0)) _ _ _ (search rules) refl c.min-n.ensures c.copy_from_slice.ensures.after c.copy_from_slice-2.ensures.after
