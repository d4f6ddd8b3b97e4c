-- `receiver::source::Source::go_on` meets its contract, by what the stage asks for.
-- Assumes nothing.
use Rattle.std.proofs.Common.{sym, ◌∙◌}
use Rattle.control.proofs.Rules.{asks}
use Rattle.quality.proofs.Stretches.{no_slot}
use Rattle.receiver.specs.AsCoded.{decisions_in}
use Rattle.receiver.proofs.Onward.{search_onward}
use Rattle.receiver.proofs.source.Source.go_on.Goals as goal

pub wait_for-requires : goal.wait_for-requires
wait_for-requires c =
    record {
      place = c.requires.place;
      left = c.requires.left;
      stage = c.requires.stage;
      waiting = asks c.args.from.stage _ (sym c.in-Slot.is ∙ c.asks_for.ensures);
    }

pub returns-in-Tone : goal.returns-in-Tone
returns-in-Tone c =
    let e = sym c.in-Tone.is ∙ c.asks_for.ensures in
    rw c.turn.ensures
    (search_onward (decisions_in c.args.self.now) c.args.from c.requires.place (asks c.args.from.stage _ e) (no_slot c.args.from.stage _ e)
    c.seek.result c.seek.ensures)
