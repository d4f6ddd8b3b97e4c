-- `modulator::write` meets its contract: the reason to refuse the message, or else that of the sheet, is the call's.
-- Assumes nothing.
use mathlib.Core.Path.{◌≡◌, refl, sym, ap, ◌∙◌, subst}
use mathlib.Core.List.{List}
use Prim.Native.Nat.{ℕ}
use borrow.Author.Rules.{rules}
use lib.IntN.{ℤ, pos}
use lib.ListN.{length, replicate, length-replicate}
use Rattle.std.proofs.lemmas.Result.{err_from_is_err_and}
use Rattle.calls.specs.Refusals.{first_of}
use Rattle.calls.specs.Outcome.{Outcome, accepted}
use Rattle.calls.proofs.Refusals.{numbered}
use Rattle.calls.proofs.Answers.{Answered, given-front, given_part, given_room}
use Rattle.transmitter.specs.Calls.{most_characters}
use Rattle.message.specs.Message.{message_of, samples_for, message_tests, send_of}
use Rattle.message.proofs.Calls.{send_answer}
use Rattle.sheet.specs.Calls.{write_of}
use Rattle.modulator.proofs.Cases.{sheet_refused, sheet_written}
use Rattle.modulator.proofs.write.Goals as goal

abbrev zeros : List ℤ
zeros = replicate (samples_for most_characters) (pos 0)

module _ (band : ℕ) (bytes : List ℕ) (sent : Outcome Unit (List ℤ)) (e : sent ≡ send_of band bytes zeros) where
  sent-answer : Answered tt (message_of band bytes) zeros (first_of (message_tests band (length bytes) (samples_for most_characters))) sent
  sent-answer =
      subst (λ (n : ℕ). Answered tt (message_of band bytes) zeros (first_of (message_tests band (length bytes) n)) sent) (length-replicate (samples_for most_characters) (pos 0))
      (send_answer band bytes zeros sent e)

  -- the message is accepted
  module _ (zero : sent.number ≡ 0) where
    none : first_of (message_tests band (length bytes) (samples_for most_characters)) ≡ 0
    none = sym sent-answer.told ∙ zero

    given : sent ≡ accepted tt (message_of band bytes) zeros
    given = sent-answer.given none

pub returns-in_err-count : goal.returns-in_err-count
returns-in_err-count c =
    let a = c.args in
    let s = sent-answer a.band a.bytes.now _ c.in_err-count.ensures in
    let p = err_from_is_err_and c.from_residual.result c.from_residual.ensures.1 in
    rw (p.1, p.2) (sheet_refused a.band a.bytes.now a.out.now _ s.told (numbered c.in_err-count.field-0.0))

pub slice_bounds-samples-end : goal.slice_bounds-samples-end
slice_bounds-samples-end c =
    let a = c.args in
    given_room tt (message_of a.band a.bytes.now) zeros _ (given a.band a.bytes.now _ c.in_ok-count.ensures refl)

pub slice_bounds-write-end : goal.slice_bounds-write-end
slice_bounds-write-end c =
    let a = c.args in
    given_part tt (message_of a.band a.bytes.now) zeros _ (given a.band a.bytes.now _ c.in_ok-count.ensures refl)

pub returns : goal.returns
returns c =
    let a = c.args in
    let sent = c.in_ok-count.ensures in
    c.write.ensures
    ∙ ap (λ (xs : List ℤ). write_of a.band xs a.out.now)
    (given-front tt (message_of a.band a.bytes.now) zeros _ (given a.band a.bytes.now _ sent refl))
    ∙ sheet_written a.band a.bytes.now a.out.now (none a.band a.bytes.now _ sent refl) (search rules)
