-- `demodulator::lines::put_events` meets its contract: each turn puts one line.
-- Assumes nothing.
use mathlib.Core.Path.{◌≡◌, sym, ap, ap₂, ◌∙◌, subst}
use mathlib.Core.List.{List}
use Prim.Native.Nat.{ℕ}
use native.Mathlib.Omega.{arith}
use borrow.Author.Rules.{rules}
use lib.ListN.{length, get_or, length-append}
use lib.Seq.{sets, take_all}
use Rattle.integers.proofs.Lists.{sets-front}
use Rattle.control.specs.Rules.{event_number, HasNumber}
use Rattle.demodulator.specs.Lines.{event_line, events_text, most_printed}
use Rattle.demodulator.proofs.Printed.{text_before, text-most, before_none, before_more, put_more}
use Rattle.demodulator.proofs.lines.put_events.Goals as goal

pub loop-place-init : goal.loop-place-init
loop-place-init c =
    let none = sym (before_none c.args.events.now) in
    record { counted = ap length none; filled = c.put.ensures ∙ ap (sets c.args.out.now 0) none }

pub loop-place-preserved : goal.loop-place-preserved
loop-place-preserved c =
    let l = c.loop-place in
    let events = c.args.events.now in
    let number : event_number c.unwrap.result ≡ get_or events l.place 0 =
    subst (HasNumber (get_or events l.place 0)) c.unwrap.ensures c.try_from.ensures in
    let put = c.event_line-line.ensures ∙ ap (event_line l.place) number in
    let line = event_line l.place (get_or events l.place 0) in
    let more = before_more events l.place c.loop-place-test.true in
    record {
      counted = omega (arith, ap length more, length-append (text_before events l.place) line, ap length put);
      filled =
          c.put-in-loop-place.ensures
          ∙ ap₂ (sets l.out) l.invariant.counted (c.deref.ensures.0 ∙ put)
          ∙ ap (λ (lent : List ℕ). sets lent (length (text_before events l.place)) line) l.invariant.filled
          ∙ put_more events l.place c.args.out.now c.loop-place-test.true;
    }

pub returns-clause-lent : goal.returns-clause-lent
returns-clause-lent c =
    let l = c.loop-place in
    let events = c.args.events.now in
    let all = ap events_text (take_all l.place events c.loop-place-test.false) in
    let most = text-most events c.requires.few in
    let room : length c.args.out.now ≡ most_printed = search rules in
    l.invariant.filled
    ∙ ap (sets c.args.out.now 0) all
    ∙ sets-front (events_text events) c.args.out.now (omega (arith, most, room))
