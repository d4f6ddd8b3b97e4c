-- `receiver::source::Source::new` meets its contract: the decisions are those of the old samples and the block, by the band's tones.
-- Assumes nothing.
use Rattle.std.proofs.Common.{rules, ap, ◌∙◌, List, ◌++◌, drop}
use lib.IntN.{ℤ}
use Rattle.control.specs.declared.Decision.{Decision}
use Rattle.receiver.specs.Energy.{decision_of}
use Rattle.receiver.specs.Windows.{decisions}
use Rattle.receiver.specs.Weighed.{decision_by}
use Rattle.receiver.proofs.Sources.{head_recorded, head_source}
use Rattle.receiver.proofs.source.Source.new.Goals as goal

pub invariant_of-result : goal.invariant_of-result
invariant_of-result c =
    record { sound = head_source c.args.window.now c.args.samples.now _ c.head.ensures (search rules) (search rules) c.requires.window c.requires.samples }

pub returns : goal.returns
returns c =
    ap (decisions (decision_by c.from.result)) (head_recorded c.args.window.now c.args.samples.now _ c.head.ensures (search rules) (search rules))
    ∙ ap (λ (by : List ℤ → Decision). decisions by (drop 1 c.args.window.now ++ c.args.samples.now)) (c.from.ensures ∙ ap decision_of c.tones_of.ensures)
