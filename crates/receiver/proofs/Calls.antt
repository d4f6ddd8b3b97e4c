-- What is known if a block call is not refused, that it is accepted then, and what the code gives when it refuses.
-- Assumes nothing.
use Rattle.std.proofs.Common.{rules}
use mathlib.Core.Path.{◌≡◌, refl, sym, ap, ap₂, ◌∙◌}
use mathlib.Core.Bool.{Bool, true, cond}
use mathlib.Core.List.{List, map, map-map}
use Prim.Native.Nat.{ℕ, zero, suc, ◌+◌, ◌≤◌}
use native.Mathlib.Nat.{zero-add}
use native.Mathlib.Omega.{arith}
use borrow.Author.Tests.{ne_eqb}
use lib.Dec.{eqb, eqb-suc-zero}
use lib.IntN.{ℤ}
use lib.ListN.{length, length-map}
use lib.Seq.{sets}
use Rattle.std.specs.Prelude.{Ok}
use Rattle.integers.proofs.Lists.{sets-front}
use Rattle.calls.specs.Refusals.{first_of}
use Rattle.calls.specs.declared.Answer.{Answer}
use Rattle.calls.specs.declared.Answered.{Answered}
use Rattle.calls.specs.Outcome.{Outcome, answer_of, outcome, as_answer, refused, over, accepted_in, one_list, both_in, accepted}
use Rattle.calls.proofs.Refusals.{is-refused, refused_or, answer_given}
use Rattle.calls.proofs.Indexed.{values, indices, indexed_values}
use Rattle.calls.proofs.Lists.{Keeps, one_keeps, both_keep}
use Rattle.tones.specs.Samples.{most_samples, are_samples}
use Rattle.receiver.specs.declared.Receiver.{Receiver}
use Rattle.receiver.specs.Step.{after_sample, measured_at, state_after, events_after, measured_after, indexed_after}
use Rattle.receiver.specs.Calls.{in_range, places_for, tests_of, block_tests, EventLists, two_lists, shorter, block_of, shortest, indexed_of}
use Rattle.receiver.specs.declared.filling.Lists.{Lists}
use Rattle.receiver.specs.Lent.{Put}
use Rattle.receiver.specs.AsCoded.{block_in, indices_in}
use Rattle.receiver.proofs.Counting.{measured-numbers, measured-few}

-- the tests of a block, if none holds
module _ (range : Bool) (xs : List ℤ) (needed places : ℕ) where
  pub record Passed : Type 0 where
    pub ranged : range ≡ true
    pub few : length xs ≤ most_samples
    pub sound : are_samples xs ≡ true
    pub room : needed ≤ places

  pub tests_known : first_of (tests_of range xs needed places) ≡ 0 → Passed
  tests_known e = search rules

  pub tests_0 : Passed → first_of (tests_of range xs needed places) ≡ 0
  tests_0 k = search rules

-- the two lists keep what is put to their front
pub two_keep : Keeps two_lists
two_keep = both_keep one_keeps one_keeps

module _ (s : Receiver) (xs : List ℤ) where
  abbrev pub Readable : ℕ → Type 0
  Readable places = Passed (in_range s) xs (places_for (length xs)) places

  pub block-known : (places : ℕ) → first_of (block_tests s xs places) ≡ 0 → Readable places
  block-known places e = tests_known (in_range s) xs (places_for (length xs)) places e

  -- what it gives if no test holds
  abbrev pub read : EventLists → Outcome Receiver EventLists
  read = accepted_in two_lists (state_after s xs) (measured_after s xs)

  module _ (lent : EventLists) where
    pub block_0 : in_range s ≡ true → length xs ≤ most_samples → are_samples xs ≡ true → places_for (length xs) ≤ shorter lent
        → block_of s xs lent ≡ read lent
    unfolding block_of
    block_0 r l a p = search rules

    -- what holds of every refusal and of an accepted call holds of a call
    pub block_case : (P : Outcome Receiver EventLists → Type 0) → ((n : ℕ) → P (refused (suc n) s lent))
        → (Readable (shorter lent) → P (read lent)) → P (block_of s xs lent)
    unfolding block_of
    block_case P refuses reads =
        refused_or (block_tests s xs (shorter lent)) s lent (read lent) P refuses (λ e. reads (block-known (shorter lent) e))

  -- the events of the indexed ones, and their count
  pub told_values : values (indexed_after s xs) ≡ measured_after s xs
  told_values = indexed_values after_sample measured_at 0 s xs

  pub told-count : length (indexed_after s xs) ≡ length (measured_after s xs)
  told-count = sym (length-map (indexed_after s xs) (λ (p : (ℕ × ℤ) × ℕ). p.0)) ∙ ap length told_values

  -- ---- for callers that use the numbers alone

  -- an outcome without the differences
  abbrev pub numbers_alone : Outcome Receiver EventLists → Outcome Receiver (List ℕ)
  numbers_alone o = record { number = o.number; count = o.count; state = o.state; lent = o.lent.0 }

  pub read-numbers : (lent : EventLists) → numbers_alone (read lent) ≡ accepted (state_after s xs) (events_after s xs) lent.0
  read-numbers lent i =
      let told : List (ℕ × ℤ) = measured_after s xs in
      let numbers = measured-numbers s xs in
      record {
        number = 0;
        count = (sym (length-map told (λ (e : ℕ × ℤ). e.0)) ∙ ap length numbers) i;
        state = state_after s xs;
        lent = over (numbers i) lent.0;
      }

  -- ---- what the code gives, with so many places of the lists

  -- a refusal, with the number of the first test that holds
  module _ (places : ℕ) (lent : EventLists) (ix : List ℕ) where
    pub refused_in : (r : Answered Receiver ℕ) (n : ℕ) → n ≡ first_of (block_tests s xs places) → (n ≡ 0 → ⊥) → r.state ≡ s → as_answer r.answer ≡ answer_of n 0
        → (outcome (as_answer r.answer) r.state lent ≡ block_in s xs places lent) × (ix ≡ indices_in s xs places ix)
    refused_in r n e h es ea = (
      ap₂ (λ (a : Answer) (u : Receiver). outcome a u lent) ea es ∙ is-refused (block_tests s xs places) s lent (read lent) n e h,
      rw (← e, ne_eqb n 0 h) refl,
    )

  -- the events put to the front of lists that have room for them
  module _ (old new : Lists) (empty : old.count ≡ 0) (p : Put old new (indexed_after s xs)) (m : length (measured_after s xs) ≤ length old.events.now)
      (n : length (measured_after s xs) ≤ length old.differences.now) where
    -- one of the lists, from its side of the events
    stored : {A : Type 0} (f : ℕ × ℤ → A) (given left : List A) → length (measured_after s xs) ≤ length given
        → left ≡ sets given old.count (map (λ (e : (ℕ × ℤ) × ℕ). f e.0) (indexed_after s xs)) → left ≡ over (map f (measured_after s xs)) given
    stored f given left h e =
        e
        ∙ ap (λ (n : ℕ). sets given n (map (λ (e : (ℕ × ℤ) × ℕ). f e.0) (indexed_after s xs))) empty
        ∙ ap (sets given 0) (sym (map-map f (λ (e : (ℕ × ℤ) × ℕ). e.0) (indexed_after s xs)) ∙ ap (map f) told_values)
        ∙ sets-front (map f (measured_after s xs)) given (omega (arith, length-map (measured_after s xs) f, h))

    pub put_read : outcome (as_answer (Ok new.count)) (state_after s xs) (new.events.now, new.differences.now)
        ≡ read (old.events.now, old.differences.now)
    put_read i =
        record {
          number = 0;
          count = (p.count ∙ ap (λ (n : ℕ). n + length (indexed_after s xs)) empty ∙ zero-add _ ∙ told-count) i;
          state = state_after s xs;
          lent = (
            stored (λ (e : ℕ × ℤ). e.0) old.events.now new.events.now m p.events i,
            stored (λ (e : ℕ × ℤ). e.1) old.differences.now new.differences.now n p.differences i,
          );
        }

  module _ (places : ℕ) (old new : Lists) (empty : old.count ≡ 0) where
    abbrev lent : EventLists
    lent = (old.events.now, old.differences.now)

    -- the block read
    module _ (z : 0 ≡ first_of (block_tests s xs places)) (p : Put old new (indexed_after s xs))
        (m : places ≤ length old.events.now) (n : places ≤ length old.differences.now) where
      k : Readable places
      k = block-known places (sym z)

      few : length (measured_after s xs) ≤ places
      few = omega (arith, measured-few s xs k.ranged, k.room)

      pub read_in : outcome (as_answer (Ok new.count)) (state_after s xs) (new.events.now, new.differences.now) ≡ block_in s xs places lent
      read_in =
          answer_given (block_tests s xs places) s lent (read lent) z new.count (state_after s xs) (new.events.now, new.differences.now)
          (put_read old new empty p (omega (arith, few, m)) (omega (arith, few, n)))

      pub told_in : new.indices.now ≡ indices_in s xs places old.indices.now
      told_in = rw (← z) (rw empty at p.indices)

  -- with the places of the shorter list, left in the lists as they were lent
  pub block_left : (a : Answer) (u : Receiver) (lent left : EventLists) (events : List ℕ) (differences : List ℤ) (places : ℕ) → events ≡ left.0
      → differences ≡ left.1 → places ≡ shorter lent → outcome a u left ≡ block_in s xs places lent → outcome a u (events, differences) ≡ block_of s xs lent
  unfolding block_of
  block_left a u lent left events differences places e d p h =
      (λ i. outcome a u (e i, d i)) ∙ h ∙ ap (λ (n : ℕ). block_in s xs n lent) p

  -- ---- a block with indices

  -- the same with an index beside each event
  abbrev pub indexed : EventLists × List ℕ → Outcome Receiver (EventLists × List ℕ)
  indexed = accepted_in (both_in two_lists one_list) (state_after s xs) (indexed_after s xs)

  module _ (lent : EventLists) (ix : List ℕ) where
    abbrev places : ℕ
    places = shortest (lent, ix)

    -- no test holds
    module _ (k : Readable places) where
      -- the block read, with its indices
      with_indices : (a : Answer) (u : Receiver) (left : EventLists) (told : List ℕ) → outcome a u left ≡ read lent
          → told ≡ sets ix 0 (indices (indexed_after s xs)) → outcome a u (left, told) ≡ indexed (lent, ix)
      with_indices a u left told e t i =
          record {
            number = (e i).number;
            count = (ap (λ (o : Outcome Receiver EventLists). o.count) e ∙ sym told-count) i;
            state = (e i).state;
            lent = (stored i, noted i);
          }
        where
          stored : left ≡ two_lists.filled (values (indexed_after s xs)) lent
          stored =
              ap (λ (o : Outcome Receiver EventLists). o.lent) e
              ∙ ap (λ (l : List (ℕ × ℤ)). two_lists.filled l lent) (sym told_values)

          noted : told ≡ over (indices (indexed_after s xs)) ix
          noted =
              t
              ∙ sets-front (indices (indexed_after s xs)) ix
              (omega (arith, length-map (indexed_after s xs) (λ (p : (ℕ × ℤ) × ℕ). p.1), told-count, measured-few s xs k.ranged, k.room))

    -- what the code gives is the call with indices
    pub indexed_in : (a : Answer) (u : Receiver) (left : EventLists) (told : List ℕ) → outcome a u left ≡ block_in s xs places lent
        → told ≡ indices_in s xs places ix → outcome a u (left, told) ≡ indexed_of s xs (lent, ix)
    unfolding indexed_of
    indexed_in a u left told e t = go (first_of (block_tests s xs places)) (block-known places) e t
      where
        go : (n : ℕ) → (n ≡ 0 → Readable places)
            → outcome a u left ≡ cond (eqb n 0) (read lent) (refused n s lent)
            → told ≡ cond (eqb n 0) (sets ix 0 (indices (indexed_after s xs))) ix
            → outcome a u (left, told) ≡ cond (eqb n 0) (indexed (lent, ix)) (refused n s (lent, ix))
        go zero k e t = with_indices (k refl) a u left told e t
        go (suc n) k e t =
            let e' : outcome a u left ≡ refused (suc n) s lent = rw (eqb-suc-zero n) at e in
            let t' : told ≡ ix = rw (eqb-suc-zero n) at t in
            rw (eqb-suc-zero n) (λ i. record { number = (e' i).number; count = (e' i).count; state = (e' i).state; lent = ((e' i).lent, t' i) })

    -- left in the lists as they were lent
    pub indexed_left : (a : Answer) (u : Receiver) (left : EventLists) (told events : List ℕ) (differences : List ℤ) (indices : List ℕ) (n : ℕ)
        → events ≡ left.0 → differences ≡ left.1 → indices ≡ told → n ≡ places → outcome a u left ≡ block_in s xs n lent → told ≡ indices_in s xs n ix
        → outcome a u ((events, differences), indices) ≡ indexed_of s xs (lent, ix)
    indexed_left a u left told events differences indices n e d k p h t =
        (λ i. outcome a u ((e i, d i), k i))
        ∙ indexed_in a u left told (h ∙ ap (λ (m : ℕ). block_in s xs m lent) p) (t ∙ ap (λ (m : ℕ). indices_in s xs m ix) p)
