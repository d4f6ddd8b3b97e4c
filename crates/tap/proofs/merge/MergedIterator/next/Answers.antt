-- `tap::merge::MergedIterator::next` meets its contract.
-- Assumes nothing.
use Rattle.std.proofs.Common.{sym, ◌∙◌}
use Rattle.tap.proofs.Merging.{next_first, next_second, progress}
use Rattle.tap.proofs.merge.MergedIterator.next.Goals as goal

pub returns-then-comes_first : goal.returns-then-comes_first
returns-then-comes_first c =
    let first = sym c.comes_first.ensures ∙ c.if-comes_first.true in
    let h = rw c.self.view_is at (next_first _ c.self.inside.second _ _ first c.take.ensures) in record { steps = h; goes = progress h }

pub returns-else-comes_first : goal.returns-else-comes_first
returns-else-comes_first c =
    let second = sym c.comes_first.ensures ∙ c.if-comes_first.false in
    let h = rw c.self.view_is at (next_second c.self.inside.first _ _ _ second c.take-else-comes_first.ensures) in record { steps = h; goes = progress h }
