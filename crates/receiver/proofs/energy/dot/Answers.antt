-- `receiver::energy::dot` meets its contract: the loop sums 32 products.
-- Assumes nothing.
use Rattle.std.proofs.Common.{inl, inr, rules}
use Rattle.receiver.proofs.Correlation.{summing_start, summing_fits, summing_more, summing_sum, summing_size}
use Rattle.receiver.proofs.energy.dot.Goals as goal

pub loop-x-init : goal.loop-x-init
loop-x-init c =
    summing_start c.args.window.now c.args.weights.now _ _ (search rules) (search rules) c.requires.samples c.requires.small (search rules)

pub overflow_add-sum : goal.overflow_add-sum
overflow_add-sum c =
    let s = c.in-Some.ensures.steps in
    summing_fits c.loop-x.invariant s.0 s.1 _ _ c.from.ensures c.from-in-loop-x.ensures

pub loop-x-preserved : goal.loop-x-preserved
loop-x-preserved c =
    let s = c.in-Some.ensures.steps in
    summing_more c.loop-x.invariant s.0 s.1 _ _ c.from.ensures c.from-in-loop-x.ensures

pub returns-clause-sum : goal.returns-clause-sum
returns-clause-sum c =
    elim c.in-None.ensures.steps [
      | inl none ↦ summing_sum c.loop-x.invariant (inl none.1.0)
      | inr none ↦ summing_sum c.loop-x.invariant (inr none.1.0)
    ]

pub returns-clause-size : goal.returns-clause-size
returns-clause-size c = summing_size c.loop-x.invariant
