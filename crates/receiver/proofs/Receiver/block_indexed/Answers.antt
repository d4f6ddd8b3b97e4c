-- `receiver::Receiver::block_indexed` meets its contract: the places of the shortest list count.
-- Assumes nothing.
use Rattle.std.proofs.Common.{rules, ℕ, min, length, ap, ◌∙◌}
use Rattle.calls.specs.Outcome.{as_answer}
use Rattle.receiver.proofs.Calls.{indexed_left}
use Rattle.receiver.proofs.Receiver.block_indexed.Goals as goal

pub returns : goal.returns
returns c =
    let l = c.block_in.new.lists in
    indexed_left c.args.self c.args.samples.now (c.args.events.now, c.args.differences.now) c.args.indices.now (as_answer c.block_in.result.answer)
    c.block_in.result.state (l.events.now, l.differences.now) l.indices.now _ _ _ _ (search rules) (search rules) (search rules)
    (c.min-places.ensures ∙ ap (λ (n : ℕ). min n (length c.args.indices.now)) c.min.ensures) c.block_in.ensures.read c.block_in.ensures.told
