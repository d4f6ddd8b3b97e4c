-- What is known when nothing is refused, and the two outcomes.
-- Assumes nothing.
use mathlib.Core.Path.{◌≡◌}
use mathlib.Core.Bool.{true, ◌&&◌}
use mathlib.Core.List.{List}
use mathlib.Mathlib.Data.Bool.Basic.{and_elim_left, and_elim_right}
use Prim.Native.Nat.{ℕ, ◌≤◌}
use borrow.Author.Tests.{leb-true, not-false}
use lib.Dec.{leb}
use lib.IntN.{ℤ}
use lib.ListN.{length}
use Rattle.integers.specs.All.{none, more}
use Rattle.std.specs.Prelude.{Ok, Err}
use Rattle.calls.specs.declared.Refusal.{Refusal}
use Rattle.calls.specs.Refusals.{number_of, Test, first_of}
use Rattle.calls.specs.Outcome.{outcome, as_answer}
use Rattle.calls.proofs.Refusals.{NoneHolds, none-holds, answer_refused, answer_given}
use Rattle.tones.specs.Bands.{is_band}
use Rattle.tones.specs.Samples.{most_samples}
use Rattle.transmitter.specs.Calls.{most_characters}
use Rattle.message.specs.Message.{samples_for}
use Rattle.loopback.specs.Loopback.{Lists, is_size, are_disturbances, is_room, loopback_tests, accepted_loopback, loopback_of}

-- ---- what holds when nothing is refused

module _ (characters size : ℕ) where
  pub record Sized : Type 0 where
    pub few : characters ≤ most_characters
    pub low : 1 ≤ size
    pub high : size ≤ most_samples

  pub sized : is_size characters size ≡ true → Sized
  sized h =
      let both = and_elim_left (leb characters most_characters && leb 1 size) (leb size most_samples) h in
      record {
        few = leb-true characters most_characters (and_elim_left (leb characters most_characters) (leb 1 size) both);
        low = leb-true 1 size (and_elim_right (leb characters most_characters) (leb 1 size) both);
        high = leb-true size most_samples (and_elim_right (leb characters most_characters && leb 1 size) (leb size most_samples) h);
      }

module _ (characters added samples events differences : ℕ) where
  pub record Roomy : Type 0 where
    pub numbers : samples_for characters ≤ added
    pub places : samples_for characters ≤ samples
    pub free : characters ≤ events
    pub beside : characters ≤ differences

  roomy : is_room characters added samples events differences ≡ true → Roomy
  roomy h =
      let n : ℕ = samples_for characters in
      let three = and_elim_left (leb n added && leb n samples && leb characters events) (leb characters differences) h in
      let both = and_elim_left (leb n added && leb n samples) (leb characters events) three in
      record {
        numbers = leb-true n added (and_elim_left (leb n added) (leb n samples) both);
        places = leb-true n samples (and_elim_right (leb n added) (leb n samples) both);
        free = leb-true characters events (and_elim_right (leb n added && leb n samples) (leb characters events) three);
        beside = leb-true characters differences (and_elim_right (leb n added && leb n samples && leb characters events) (leb characters differences) h);
      }

module _ (band characters : ℕ) (added : List ℤ) (size samples events differences : ℕ) where
  pub record Allowed : Type 0 where
    pub known : is_band band ≡ true
    pub sizes : Sized characters size
    pub small : are_disturbances added ≡ true
    pub room : Roomy characters (length added) samples events differences

  abbrev tests : List Test
  tests = loopback_tests band characters added size samples events differences

  pub allowed : first_of tests ≡ 0 → Allowed
  allowed e = all (none-holds tests (tt, (tt, (tt, (tt, tt)))) e)
    where
      all : NoneHolds tests → Allowed
      all (more b (more s (more d (more r none)))) =
          record {
            known = not-false (is_band band) b;
            sizes = sized characters size (not-false (is_size characters size) s);
            small = not-false (are_disturbances added) d;
            room = roomy characters (length added) samples events differences (not-false (is_room characters (length added) samples events differences) r);
          }

-- ---- the two outcomes

module _ (band : ℕ) (characters : List ℕ) (added : List ℤ) (size : ℕ) (lent : Lists) where
  abbrev asked : List Test
  asked = loopback_tests band (length characters) added size (length lent.samples) (length lent.events) (length lent.differences)

  pub loopback_refused : (r : Refusal) → number_of r ≡ first_of asked → outcome (as_answer (Err r)) tt lent ≡ loopback_of band characters added size lent
  unfolding loopback_of
  loopback_refused = answer_refused asked tt lent (accepted_loopback band characters added lent)

  pub loopback_accepted : 0 ≡ first_of asked → (count : ℕ) (now : Lists) → outcome (as_answer (Ok count)) tt now ≡ accepted_loopback band characters added lent
      → outcome (as_answer (Ok count)) tt now ≡ loopback_of band characters added size lent
  unfolding loopback_of
  loopback_accepted e count = answer_given asked tt lent (accepted_loopback band characters added lent) e count tt
