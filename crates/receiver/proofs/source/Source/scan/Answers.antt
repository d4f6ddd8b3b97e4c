-- `receiver::source::Source::scan` meets its contract: each turn leads from a place to the next.
-- Assumes nothing.
use Rattle.std.proofs.Common.{ap, ◌∙◌, arith}
use Rattle.control.proofs.Ranges.{control_stage}
use Rattle.receiver.specs.AsCoded.{decisions_in, state_at}
use Rattle.receiver.proofs.Places.{run-place}
use Rattle.receiver.proofs.Scanning.{scanning_start, scanning_control, scanning_more, scanning_room, scanning_room_differences}
use Rattle.receiver.proofs.source.Source.scan.Goals as goal

pub loop-at-init : goal.loop-at-init
loop-at-init c =
    scanning_start (decisions_in c.args.self.now) c.args.first c.requires.control c.args.lists.now c.exact.result
    (c.exact.ensures ∙ ap (λ r. record { next = 0; known = 0; ran = r; since = 0 }) c.from.ensures)

pub go_on-turn-requires-clause-stage : goal.go_on-turn-requires-clause-stage
go_on-turn-requires-clause-stage c =
    control_stage (state_at (decisions_in c.args.self.now) c.loop-at.at).control
    (scanning_control (decisions_in c.args.self.now) c.args.first c.loop-at.invariant c.requires.control)

pub put-requires-clause-events : goal.put-requires-clause-events
put-requires-clause-events c =
    scanning_room (decisions_in c.args.self.now) c.args.first c.loop-at.invariant c.go_on-turn.result c.go_on-turn.ensures c.requires.events

pub put-requires-clause-differences : goal.put-requires-clause-differences
put-requires-clause-differences c =
    scanning_room_differences (decisions_in c.args.self.now) c.args.first c.loop-at.invariant c.go_on-turn.result c.go_on-turn.ensures c.requires.differences

pub loop-at-preserved : goal.loop-at-preserved
loop-at-preserved c =
    scanning_more (decisions_in c.args.self.now) c.args.first c.loop-at.invariant c.go_on-turn.result c.go_on-turn.ensures
    c.put.ensures

pub overflow_cast-result : goal.overflow_cast-result
overflow_cast-result c =
    omega (arith, run-place (decisions_in c.args.self.now) c.loop-at.at.place c.loop-at.invariant.place)
