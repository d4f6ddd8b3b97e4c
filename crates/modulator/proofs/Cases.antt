-- The cases of what `modulate` prints, each under the tests that lead to it, and what is known when a message is accepted.
-- Assumes nothing.
use mathlib.Core.Path.{◌≡◌, refl, sym, ap, ◌∙◌}
use mathlib.Core.Bool.{true, false}
use mathlib.Core.List.{List, ◌∷◌}
use Prim.Native.Nat.{ℕ, zero, suc, ◌-◌, ◌<◌, ◌≤◌}
use native.Mathlib.Omega.{arith}
use borrow.Author.Tests.{ne_eqb}
use lib.ListN.{length, get_or, take, drop, length-take, drop_of_length-le}
use lib.Seq.{drop-cons}
use Rattle.std.specs.Prelude.{Ok, Err}
use Rattle.calls.specs.declared.Refusal.{Refusal}
use Rattle.calls.specs.Refusals.{number_of, Test, first_of}
use Rattle.calls.specs.Outcome.{Outcome, as_answer, outcome, over, refused, accepted}
use Rattle.calls.proofs.Refusals.{none-holds, first-behind, first-before, is-refused, numbered}
use Rattle.calls.proofs.Answers.{Answered, answered}
use Rattle.transmitter.specs.Calls.{most_characters}
use Rattle.message.specs.Message.{message_of, samples_for, message_tests}
use Rattle.message.proofs.Calls.{sendable}
use Rattle.digits.specs.Numbers.{is_digit}
pub use Rattle.digits.proofs.Numbers.{digit_low}
use Rattle.digits.proofs.Numbers.{length-decimal}
use Rattle.sheet.specs.Text.{sheet_of}
use Rattle.sheet.specs.Calls.{most_bytes, write_tests, write_of}
use Rattle.sheet.proofs.Calls.{Writable, writable}
use Rattle.printing.specs.Printing.{refusal_lines}
pub use Rattle.printing.proofs.Printing.{refusal-over}
use Rattle.printing.proofs.Printing.{refusal-length}
use Rattle.modulator.specs.Modulate.{send_tests, sheet_call, sending_of, modulated}

-- ---- the tables of a message and of its sheet

module _ (band : ℕ) (bytes : List ℕ) where
  abbrev sending : List Test
  sending = message_tests band (length bytes) (samples_for most_characters)

  abbrev writing : List Test
  writing = write_tests band (message_of band bytes) most_bytes

  -- if the message is not refused, its sheet is
  sheet_first : first_of sending ≡ 0 → first_of (send_tests band bytes) ≡ first_of writing
  sheet_first e = first-behind sending writing (none-holds sending _ e)

  -- the call by which they are made, and what its answer tells
  module _ (lent : List ℕ) where
    abbrev sheet : Outcome Unit (List ℕ)
    sheet = accepted tt (sheet_of band (message_of band bytes)) lent

    pub sheet_refused : (n : ℕ) → n ≡ first_of sending → (n ≡ 0 → ⊥) → refused n tt lent ≡ sheet_call band bytes lent
    unfolding sheet_call
    sheet_refused n e h = is-refused (send_tests band bytes) tt lent sheet n (e ∙ sym (first-before sending writing (λ z. h (e ∙ z)))) h

    pub sheet_written : first_of sending ≡ 0 → length lent ≡ most_bytes → write_of band (message_of band bytes) lent ≡ sheet_call band bytes lent
    unfolding sheet_call write_of
    sheet_written e l = rw (l, sheet_first e)

    pub sheet_answer : (o : Outcome Unit (List ℕ)) → o ≡ sheet_call band bytes lent
        → Answered tt (sheet_of band (message_of band bytes)) lent (first_of (send_tests band bytes)) o
    unfolding sheet_call
    sheet_answer = answered tt (sheet_of band (message_of band bytes)) lent (send_tests band bytes) tt

  -- what holds when there is none
  pub record Printable : Type 0 where
    pub few : length bytes ≤ most_characters
    pub written : Writable band (message_of band bytes) most_bytes

  pub printable : first_of (send_tests band bytes) ≡ 0 → Printable
  printable e = go (first_of sending) refl
    where
      go : (n : ℕ) → first_of sending ≡ n → Printable
      go zero z =
          record {
            few = (sendable band (length bytes) (samples_for most_characters) z).few;
            written = writable band (message_of band bytes) most_bytes (sym (sheet_first z) ∙ e);
          }
      go (suc n) z = absurd (omega (arith, z, first-before sending writing (λ y. omega (arith, y, z)), e))

-- ---- what `modulate` prints

module _ (band : ℕ) (bytes : List ℕ) where
  pub sending_refused : (n : ℕ) → n ≡ first_of (send_tests band bytes) → (n ≡ 0 → ⊥) → refusal_lines n ≡ sending_of band bytes
  unfolding sending_of
  sending_refused n e h = rw (← e, ne_eqb n 0 h)

  pub sending_accepted : first_of (send_tests band bytes) ≡ 0 → sheet_of band (message_of band bytes) ≡ sending_of band bytes
  unfolding sending_of
  sending_accepted e = rw e

-- the answer of the call by which the sheet is made, and what it leaves in the buffer
module _ (band : ℕ) (bytes lent now : List ℕ) where
  pub sheet-ok : (n : ℕ) → outcome (as_answer (Ok n)) tt now ≡ sheet_call band bytes lent
      → (n ≡ length (sending_of band bytes)) × (now ≡ over (sending_of band bytes) lent)
  sheet-ok n e =
      let w = sheet_answer band bytes lent _ e in
      let given = w.given (sym w.told) in
      let sent = sending_accepted band bytes (sym w.told) in (
        ap (λ (o : Outcome Unit (List ℕ)). o.count) given ∙ ap length sent,
        ap (λ (o : Outcome Unit (List ℕ)). o.lent) given ∙ ap (λ (l : List ℕ). over l lent) sent,
      )

  pub sheet-err : (r : Refusal) → outcome (as_answer (Err r)) tt now ≡ sheet_call band bytes lent
      → (refusal_lines (number_of r) ≡ sending_of band bytes) × (now ≡ lent)
  sheet-err r e =
      let w = sheet_answer band bytes lent _ e in
      (sending_refused band bytes (number_of r) w.told (numbered r), w.kept (λ z. numbered r (w.told ∙ z)))

pub digit-first : (first : ℕ) (bytes : List ℕ) → is_digit first ≡ true → sending_of (first - 48) bytes ≡ modulated (first ∷ bytes)
unfolding modulated
digit-first first bytes d = rw d

-- the first byte of the input, and those behind it
module _ (input : List ℕ) where
  pub input_empty : length input ≡ 0 → modulated input ≡ refusal_lines 1
  unfolding modulated
  input_empty h = rw (drop_of_length-le input {i = 0} (omega arith))

  module _ (h : 0 < length input) where
    abbrev first : ℕ
    first = get_or input 0 0

    parts : input ≡ first ∷ drop 1 input
    parts = drop-cons input 0 0 h

    pub input_other : is_digit first ≡ false → modulated input ≡ refusal_lines 1
    unfolding modulated
    input_other d = rw parts (rw d)

    pub input_digit : is_digit first ≡ true → modulated input ≡ sending_of (first - 48) (drop 1 input)
    input_digit d = ap modulated parts ∙ sym (digit-first first (drop 1 input) d)

-- ---- for the search of the check: the cases by the first byte, and that the lines of a refusal are the front of a buffer

pub refusal_short : length (refusal_lines 1) ≤ 12
refusal_short = omega (arith, refusal-length 1, length-decimal 2 1 (omega arith))

pub front_length : (count : ℕ) (lent : List ℕ) → count ≤ length lent → length (take count lent) ≡ count
front_length count lent h = omega (arith, length-take count lent)

pub ruleset by_first = (input_empty, input_other, input_digit, digit_low, refusal-over, refusal_short, front_length)
