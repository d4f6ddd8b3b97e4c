-- `receiver::source::Source::wait_for` meets its contract: the slot lies behind the end, or is taken.
-- Assumes nothing.
use Rattle.std.proofs.Common.{◌≡◌, ◌+◌, ◌-◌, ◌≤◌, sym, ap, ◌∙◌, arith, rules}
use Rattle.std.specs.Option.{option_map}
use Rattle.std.proofs.lemmas.Grind.{common_steps}
use Rattle.std.specs.Prelude.{ℤ, Option, Some, None, refl}
use Rattle.control.specs.declared.event.Event.{Event}
use mir.Facts.{to_z-of_z}
use mir.Syntax.{w64}
use mir.Val.{SFits}
use Rattle.control.specs.declared.Decision.{Decision}
use Rattle.control.proofs.Ranges.{stage_wait, wait_low, wait_high}
use Rattle.control.specs.AsCoded.{wait_over}
use Rattle.quality.specs.AsCoded.{measured_by}
use Rattle.quality.proofs.Stretches.{numbers_with}
use Rattle.receiver.specs.Lent.{told_by}
use Rattle.receiver.specs.AsCoded.{decisions_in}
use Rattle.receiver.proofs.Sources.{window_each}
use Rattle.receiver.proofs.Onward.{wait_on, slot-taken}
use Rattle.receiver.proofs.source.Source.wait_for.Goals as goal
use Rattle.receiver.proofs.source.Source.wait_for.Goals.{Start, then-d, else-d}

-- the wait is in its range
waits : (c : Start) → (1 ≤ c.args.wait) × (c.args.wait ≤ 32)
waits c =
    let h = stage_wait c.args.wait c.args.slot c.args.byte (rw c.requires.waiting at c.requires.stage) in
    (wait_low c.args.wait c.args.slot h, wait_high c.args.wait c.args.slot h)

pub overflow_add-i : goal.overflow_add-i
overflow_add-i c = omega (arith, window_each c.args.self.now)

pub overflow_sub-i : goal.overflow_sub-i
overflow_sub-i c = omega (arith, (waits (goal.at.overflow_sub-i c).Start).0)

pub overflow_add-wait : goal.overflow_add-wait
overflow_add-wait c = omega (arith, window_each c.args.self.now)

pub returns-then-end-i : goal.returns-then-end-i
returns-then-end-i c =
    let low = (waits (goal.at.returns-then-end-i c).Start).0 in
    rw c.moved.ensures
    (wait_on (decisions_in c.args.self.now) c.args.from c.requires.place c.args.wait c.args.slot c.args.byte c.requires.waiting c.requires.stage
    c.len-end.result _ (omega arith) (omega (arith, low)) (omega arith) (omega (arith, low)))

told-with : (d : ℤ) (e : Option Event) → told_by (option_map (λ x. record { event = x; difference = d }) e) ≡ numbers_with d e
told-with d None = refl
told-with d (Some e) = refl

pub returns : goal.returns
returns c =
    let f : SFits w64 c.judge-d.result.difference = search rules in
    let d = c.judge-d.ensures in
    let t : c.map.result ≡ option_map (λ e. record { event = e; difference = c.measure-m.result.difference }) c.take-n.result.event = grind (arith, common_steps) in
    let taken =
    slot-taken (decisions_in c.args.self.now) c.args.from c.requires.place c.args.wait c.args.slot c.args.byte c.requires.waiting c.requires.stage
    (c.args.from.place.next + c.from.result - 1) (omega arith) (omega arith)
    c.take-n.result (c.take-n.ensures ∙ ap (wait_over c.args.slot c.args.byte) d)
    c.measure-m.result
    ((rw (to_z-of_z f) at c.measure-m.ensures)
    ∙ ap (λ (u : Decision). measured_by c.args.slot c.args.from.smallest u.difference c.take-n.result.stage) d)
    c.map.result (ap told_by t ∙ told-with c.measure-m.result.difference c.take-n.result.event) in
    elim c.if-d.branch [
      | then-d w ↦ rw (w.result-is, w.moved-then-d.ensures) (taken.good (sym (ap (λ (u : Decision). u.good) d) ∙ w.if-d.true))
      | else-d w ↦ rw (w.result-is, w.exact.ensures) (taken.bad (sym (ap (λ (u : Decision). u.good) d) ∙ w.if-d.false))
    ]
