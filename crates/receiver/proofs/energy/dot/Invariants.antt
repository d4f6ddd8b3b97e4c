-- `receiver::energy::dot` meets its contract: the loop sums 32 products.
-- Assumes nothing.
use Rattle.std.specs.Slice.Iter.{iter_rest}
use Rattle.std.specs.Iterator.Adapters.{zip_first, zip_second}
use Rattle.integers.specs.Sums.{dot}
use Rattle.receiver.proofs.Correlation.{Summing}
use Rattle.receiver.proofs.energy.dot.Given as goal

abbrev pub invariant-loop-x : goal.invariant-loop-x
invariant-loop-x l =
    Summing (dot l.fn.window l.fn.weights) (iter_rest (zip_first l.x-iterator)) (iter_rest (zip_second l.x-iterator)) l.sum
