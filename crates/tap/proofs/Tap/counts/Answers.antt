-- `tap::Tap::counts` meets its contract.
-- Assumes nothing.
use mathlib.Core.Path.{sym, ◌∙◌}
use Rattle.std.proofs.lemmas.Result.{err_from_is_err_and}
use Rattle.tap.proofs.Numbers.{of_first}
use Rattle.tap.proofs.Tap.counts.Goals as goal

pub returns-in_err-m-clause-number : goal.returns-in_err-m-clause-number
returns-in_err-m-clause-number c =
    let p = err_from_is_err_and c.from_residual.result c.from_residual.ensures.1 in
    rw (p.1, p.2)
    (of_first c.args.self c.args.samples.now c.args.places _ c.args.second (rw c.in_err-m.was at c.requires.first) c.requires.second
    (rw c.in_err-m.was at c.if-eq.ensures) c.if-eq-2.ensures
    (sym c.is_pair.ensures ∙ c.if-not-is_pair.false))
