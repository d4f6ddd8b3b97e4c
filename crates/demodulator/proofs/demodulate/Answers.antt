-- `demodulator::demodulate` meets its contract: a sheet that is accepted has a known band and samples in range.
-- Assumes nothing.
use mathlib.Core.Path.{◌≡◌, refl, sym, ap, ap₂, ◌∙◌}
use mathlib.Core.List.{List}
use Prim.Native.Nat.{ℕ, ◌≤◌}
use native.Mathlib.Omega.{arith}
use borrow.Author.Rules.{rules}
use lib.IntN.{ℤ, pos}
use lib.ListN.{length, replicate, take}
use Rattle.calls.specs.Refusals.{number_of, first_of}
use Rattle.calls.specs.Outcome.{Outcome, accepted}
use Rattle.calls.proofs.Refusals.{numbered}
use Rattle.calls.proofs.Answers.{Answered, given-front, given_part, given_room}
use Rattle.tones.specs.Samples.{most_samples}
use Rattle.receiver.specs.Step.{events_after}
use Rattle.receiver.specs.Calls.{fresh}
use Rattle.sheet.specs.Parse.{band_in, samples_of}
use Rattle.sheet.specs.Calls.{read_tests, read_of}
use Rattle.sheet.proofs.Calls.{Readable, readable, read_answer}
use Rattle.printing.proofs.Printing.{refusal-over, printed}
use Rattle.demodulator.specs.Lines.{most_printed, events_text}
use Rattle.demodulator.specs.Demodulate.{demodulated}
use Rattle.demodulator.proofs.Cases.{reading_refused, reading_accepted}
use Rattle.demodulator.proofs.demodulate.Goals as goal

abbrev zeros : List ℤ
zeros = replicate most_samples (pos 0)

-- what the reading answers
module _ (text : List ℕ) (read : Outcome ℕ (List ℤ)) (e : read ≡ read_of text zeros) where
  answer : Answered (band_in text) (samples_of text) zeros (first_of (read_tests text most_samples)) read
  answer = read_answer text zeros read e

  -- it is accepted
  module _ (zero : read.number ≡ 0) where
    none : first_of (read_tests text most_samples) ≡ 0
    none = sym answer.told ∙ zero

    all : Readable text most_samples
    all = readable text most_samples none

    given : read ≡ accepted (band_in text) (samples_of text) zeros
    given = answer.given none

    band_read : read.state ≡ band_in text
    band_read = ap (λ (o : Outcome ℕ (List ℤ)). o.state) given

    room : read.count ≤ length read.lent
    room = given_room (band_in text) (samples_of text) zeros read given

    part : read.count ≡ length (take read.count read.lent)
    part = given_part (band_in text) (samples_of text) zeros read given

    front : take read.count read.lent ≡ samples_of text
    front = given-front (band_in text) (samples_of text) zeros read given

pub returns-in-Err : goal.returns-in-Err
returns-in-Err c =
    let p = c.put_refusal.ensures in
    let t = c.args.text.now in
    let number : c.into.result ≡ number_of c.in-Err.refusal = search rules in
    let places : length c.args.out.now ≡ most_printed = search rules in
    let l : length c.put_refusal.new.out ≡ length c.args.out.now = search rules in
    let all = printed _ _ _ _ p.count (p.lent ∙ refusal-over _ _ (search rules) (omega (arith, places))) l (demodulated t)
    (reading_refused t _ (number ∙ (answer t _ c.in-Err.ensures).told) (λ z. numbered c.in-Err.refusal (sym number ∙ z))) in
    record { count = all.0; lent = all.1.0; front = all.1.1 }

pub slice_bounds-samples-end : goal.slice_bounds-samples-end
slice_bounds-samples-end c = room c.args.text.now _ c.in-Ok.ensures refl

pub slice_bounds-put_events_of-end : goal.slice_bounds-put_events_of-end
slice_bounds-put_events_of-end c = part c.args.text.now _ c.in-Ok.ensures refl

pub put_events_of-requires : goal.put_events_of-requires
put_events_of-requires c =
    let t = c.args.text.now in
    let r = c.in-Ok.ensures in
    let a = all t _ r refl in
    rw (band_read t _ r refl, front t _ r refl)
    (record { band = a.band; few = a.few; sound = a.sound })

pub returns-in-Ok : goal.returns-in-Ok
returns-in-Ok c =
    let p = c.put_events_of.ensures in
    let t = c.args.text.now in
    let r = c.in-Ok.ensures in
    let l : length c.put_events_of.new.out ≡ length c.args.out.now = search rules in
    let events = ap₂ (λ (b : ℕ) (xs : List ℤ). events_after (fresh b) xs) (band_read t _ r refl) (front t _ r refl) in
    let all = printed _ _ _ _ p.count p.lent l (demodulated t) (ap events_text events ∙ reading_accepted t (none t _ r refl)) in
    record { count = all.0; lent = all.1.0; front = all.1.1 }
