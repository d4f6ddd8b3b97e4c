-- What is known when a message is not refused, the two outcomes of the call, and what its answer tells.
-- Assumes nothing.
use mathlib.Core.Path.{◌≡◌, sym, ◌∙◌}
use mathlib.Core.Bool.{true}
use mathlib.Core.List.{List}
use Prim.Native.Nat.{ℕ, ◌≤◌}
use native.Mathlib.Omega.{arith}
use borrow.Author.Tests.{le-ltb, ltb-false, not-false}
use lib.IntN.{ℤ}
use lib.ListN.{length}
use lib.Seq.{sets}
use Rattle.std.specs.Prelude.{Ok, Err}
use Rattle.integers.specs.All.{none, more}
use Rattle.integers.proofs.Lists.{sets-front}
use Rattle.calls.specs.declared.Refusal.{Refusal}
use Rattle.calls.specs.Refusals.{number_of, Test, first_of}
use Rattle.calls.specs.Outcome.{Outcome, as_answer, outcome, accepted}
use Rattle.calls.proofs.Refusals.{NoneHolds, none-holds, answer_refused, answer_accepted}
use Rattle.calls.proofs.Answers.{Answered, answered}
use Rattle.tones.specs.Bands.{is_band, tones_of}
use Rattle.transmitter.specs.Calls.{most_characters}
use Rattle.transmitter.proofs.Laws.{length-message}
use Rattle.message.specs.Message.{message_of, samples_for, message_tests, send_of}

module _ (band characters places : ℕ) where
  pub record Sendable : Type 0 where
    pub known : is_band band ≡ true
    pub few : characters ≤ most_characters
    pub room : samples_for characters ≤ places

  pub sendable : first_of (message_tests band characters places) ≡ 0 → Sendable
  sendable e = all (none-holds (message_tests band characters places) _ e)
    where
      all : NoneHolds (message_tests band characters places) → Sendable
      all (more b (more l (more p none))) =
          record {
            known = not-false (is_band band) b;
            few = ltb-false most_characters characters l;
            room = ltb-false places (samples_for characters) p;
          }

pub length-samples : (band : ℕ) (bytes : List ℕ) → length (message_of band bytes) ≡ samples_for (length bytes)
length-samples band bytes = length-message (tones_of band) 0 bytes

module _ (band : ℕ) (bytes : List ℕ) (lent : List ℤ) where
  abbrev tests : List Test
  tests = message_tests band (length bytes) (length lent)

  abbrev whole : Outcome Unit (List ℤ)
  whole = accepted tt (message_of band bytes) lent

  pub send_refused : (r : Refusal) → number_of r ≡ first_of tests → outcome (as_answer (Err r)) tt lent ≡ send_of band bytes lent
  unfolding send_of
  send_refused = answer_refused tests tt lent whole

  pub send_accepted : 0 ≡ first_of tests → (count : ℕ) (now : List ℤ) → count ≡ samples_for (length bytes)
      → now ≡ sets lent 0 (message_of band bytes) → outcome (as_answer (Ok count)) tt now ≡ send_of band bytes lent
  unfolding send_of
  send_accepted e count now ec en =
      let size = length-samples band bytes in
      let room = (sendable band (length bytes) (length lent) (sym e)).room in
      answer_accepted tests tt lent e tt (message_of band bytes) count now (ec ∙ sym size)
      (en ∙ sets-front (message_of band bytes) lent (omega (arith, size, room)))

  pub send_answer : (o : Outcome Unit (List ℤ)) → o ≡ send_of band bytes lent → Answered tt (message_of band bytes) lent (first_of tests) o
  unfolding send_of
  send_answer = answered tt (message_of band bytes) lent tests tt

  pub send_0 : Sendable band (length bytes) (length lent) → send_of band bytes lent ≡ whole
  unfolding send_of
  send_0 s = rw (s.known, le-ltb most_characters (length bytes) s.few, le-ltb (length lent) (samples_for (length bytes)) s.room)
