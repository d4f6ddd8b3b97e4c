-- `tap::opening::fresh` meets its contract.
-- Assumes nothing.
use mathlib.Core.Path.{ap, ◌∙◌}
use Rattle.tones.proofs.Laws.{pair-known}
use Rattle.calls.specs.Outcome.{Opening}
use Rattle.receiver.specs.declared.Receiver.{Receiver}
use Rattle.receiver.proofs.Ranges.{open_band}
use Rattle.tap.proofs.opening.fresh.Goals as goal

pub returns : goal.returns
returns c =
    let known = pair-known c.args.first c.args.second c.requires in
    rw (
      ap (λ (o : Opening Receiver). o.state) c.open.ensures ∙ open_band c.args.first known.0,
      ap (λ (o : Opening Receiver). o.state) c.open-2.ensures ∙ open_band c.args.second known.1,
    )
