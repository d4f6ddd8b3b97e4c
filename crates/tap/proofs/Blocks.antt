-- An accepted block of a tap: what each receiver wrote to its own lists, and that these merged are the tap's events with their differences.
-- Assumes nothing.
use mathlib.Core.Path.{◌≡◌, refl, sym, ap, ap₂, ◌∙◌}
use mathlib.Core.Bool.{true}
use mathlib.Core.List.{List, [], ◌∷◌}
use mathlib.Mathlib.Data.Bool.Basic.{and_elim_left, and_elim_right}
use Prim.Native.Nat.{ℕ, suc, ◌+◌, ◌<◌, ◌≤◌}
use native.Mathlib.Omega.{arith}
use lib.IntN.{ℤ}
use lib.ListN.{length, take, drop, length-map}
use lib.Seq.{sets, take-append_seam}
use Rattle.std.specs.Prelude.{Ok, Err}
use Rattle.integers.specs.All.{All, none, more}
use Rattle.integers.proofs.Lists.{sets-front}
use Rattle.calls.specs.declared.Refusal.{Refusal}
use Rattle.calls.specs.Refusals.{number_of, first_of}
use Rattle.calls.specs.Outcome.{Outcome, as_answer, outcome, refused, is_accepted, over, accepted_in}
use Rattle.calls.specs.Runs.{after}
use Rattle.calls.proofs.Refusals.{not-refused, answer_refused, refused_or}
use Rattle.calls.proofs.Indexed.{values, indices}
use Rattle.tones.specs.Bands.{is_pair}
use Rattle.tones.proofs.Laws.{band-digit, pair-known}
use Rattle.control.specs.Rules.{is_event}
use Rattle.control.proofs.Events.{event_case}
use Rattle.receiver.specs.declared.Receiver.{Receiver}
use Rattle.receiver.specs.Step as receiver
use Rattle.receiver.specs.Calls as calls
use Rattle.receiver.specs.Calls.{EventLists, two_lists, shorter, shortest}
use Rattle.receiver.proofs.Counting.{measured-numbers, measured-few}
use Rattle.receiver.proofs.Events.{events-known}
use Rattle.receiver.proofs.Calls.{Passed, tests_known, tests_0, Readable, indexed, told_values, told-count}
use Rattle.receiver.proofs.Indexed.{indexed-number}
use Rattle.tap.specs.declared.Tap.{Tap}
use Rattle.tap.specs.Step.{measured_in, after_sample, state_after, measured_after}
use Rattle.tap.specs.Calls.{in_range, places_for, block_tests, block_of}
use Rattle.tap.specs.AsCoded.{merged, banded, AreEvents, listed, merged_events, numbers_of, differences_of}
use Rattle.tap.proofs.Merging.{length_merged}
use Rattle.tap.proofs.Order.{in_order}

-- ---- events

-- every event is below 1,000, so that its band can be told
below : (n : ℕ) → is_event n ≡ true → n < 1000
below = event_case (λ (n : ℕ). n < 1000) (λ n l. omega arith) (omega arith) (omega arith) (omega arith) (omega arith)

pub small : (ns : List ℕ) → All (λ n. is_event n ≡ true) ns → All (λ n. n < 1000) ns
small [] none = none
small (n ∷ ns) (more e es) = more (below n e) (small ns es)

-- put together from their three sides, they are what they were, with their band
listed_all : (band : ℕ) (es : List ((ℕ × ℤ) × ℕ)) → listed band (numbers_of (values es)) (differences_of (values es)) (indices es) ≡ banded band es
listed_all band [] = refl
listed_all band (e ∷ es) = ap (λ (l : List ((ℕ × ℤ) × ℕ)). (measured_in band e.0, e.1) ∷ l) (listed_all band es)

-- ---- one receiver, which has as many places as a block can need

abbrev pub Given : Type 0
Given = Outcome Receiver (EventLists × List ℕ)

-- what it gave: the numbers, the differences and the indices at the front of its lists
abbrev pub numbers : Given → List ℕ
numbers o = take o.count o.lent.0.0

abbrev pub differences : Given → List ℤ
differences o = take o.count o.lent.0.1

abbrev pub told : Given → List ℕ
told o = take o.count o.lent.1

-- it read the block xs, and was lent lists with as many places as a block can need
pub record IsHeard (s : Receiver) (xs : List ℤ) (o : Given) : Type 0 where
  pub own : EventLists × List ℕ
  pub enough : shortest own ≡ calls.most_events
  pub read : o ≡ calls.indexed_of s xs own

module _ {s : Receiver} {xs : List ℤ} {o : Given} (h : IsHeard s xs o) where
  pub read_number : o.number ≡ first_of (calls.block_tests s xs calls.most_events)
  read_number =
      ap (λ (p : Given). p.number) h.read
      ∙ indexed-number s (record { samples = xs; lent = h.own.0; indices = h.own.1 })
      ∙ ap (λ (n : ℕ). first_of (calls.block_tests s xs n)) h.enough

  module _ (k : Readable s xs calls.most_events) where
    abbrev all : List ((ℕ × ℤ) × ℕ)
    all = receiver.indexed_after s xs

    whole : o ≡ indexed s xs h.own
    unfolding calls.indexed_of
    whole =
        h.read
        ∙ not-refused (calls.block_tests s xs (shortest h.own)) s h.own (indexed s xs h.own)
        (tests_0 (calls.in_range s) xs (calls.places_for (length xs)) (shortest h.own)
        (record { ranged = k.ranged; few = k.few; sound = k.sound; room = omega (arith, k.room, h.enough) }))

    pub read_count : o.count ≡ length all
    read_count = ap (λ (p : Given). p.count) whole

    pub read-state : o.state ≡ receiver.state_after s xs
    read-state = ap (λ (p : Given). p.state) whole

    -- the front of a list that is filled with as many as the count
    front : {A : Type 0} (new lent : List A) {now : List A} → length new ≡ length all → now ≡ over new lent → take o.count now ≡ new
    front new lent l f = ap₂ take (read_count ∙ sym l) f ∙ take-append_seam new (drop (length new) lent)

    events-long : length (values all) ≡ length all
    events-long = length-map all (λ (p : (ℕ × ℤ) × ℕ). p.0)

    numbers-long : length (numbers_of (values all)) ≡ length all
    numbers-long = length-map (values all) (λ (p : ℕ × ℤ). p.0) ∙ events-long

    differences-long : length (differences_of (values all)) ≡ length all
    differences-long = length-map (values all) (λ (p : ℕ × ℤ). p.1) ∙ events-long

    indices-long : length (indices all) ≡ length all
    indices-long = length-map all (λ (p : (ℕ × ℤ) × ℕ). p.1)

    read-numbers : numbers o ≡ numbers_of (values all)
    read-numbers = front (numbers_of (values all)) h.own.0.0 numbers-long (ap (λ (p : Given). p.lent.0.0) whole)

    read-differences : differences o ≡ differences_of (values all)
    read-differences = front (differences_of (values all)) h.own.0.1 differences-long (ap (λ (p : Given). p.lent.0.1) whole)

    read_told : told o ≡ indices all
    read_told = front (indices all) h.own.1 indices-long (ap (λ (p : Given). p.lent.1) whole)

    -- put together they are the events
    pub read-listed : (band : ℕ) → listed band (numbers o) (differences o) (told o) ≡ banded band all
    read-listed band = (λ i. listed band (read-numbers i) (read-differences i) (read_told i)) ∙ listed_all band all

    pub read-few : o.count ≤ calls.places_for (length xs)
    read-few = omega (arith, read_count, told-count s xs, measured-few s xs k.ranged)

    pub read_bound : o.count ≤ calls.most_events
    read_bound = omega (arith, read-few, k.room)

    pub read-lists : AreEvents (numbers o) (differences o) (told o)
    read-lists =
        record {
          measured = ap length read-numbers ∙ numbers-long ∙ sym (ap length read-differences ∙ differences-long);
          told = ap length read-numbers ∙ numbers-long ∙ sym (ap length read_told ∙ indices-long);
          small = rw (read-numbers, told_values s xs, measured-numbers s xs) (small (receiver.events_after s xs) (events-known s xs k.ranged));
        }

-- ---- both

-- the ranges of a tap
pub record InRange (t : Tap) : Type 0 where
  pub first : calls.in_range t.first ≡ true
  pub second : calls.in_range t.second ≡ true
  pub pair : is_pair t.first.band t.second.band ≡ true

pub in_range_lem : (t : Tap) → in_range t ≡ true → InRange t
unfolding in_range
in_range_lem t h =
    let h' = and_elim_right (calls.in_range t.first) _ h in
    record {
      first = and_elim_left (calls.in_range t.first) _ h;
      second = and_elim_left (calls.in_range t.second) _ h';
      pair = and_elim_right (calls.in_range t.second) _ h';
    }

pub both_after : (t : Tap) (xs : List ℤ)
    → state_after t xs ≡ record { first = receiver.state_after t.first xs; second = receiver.state_after t.second xs }
unfolding after after_sample
both_after t [] = refl
both_after t (x ∷ xs) = both_after (after_sample t x) xs

module _ (t : Tap) (xs : List ℤ) where
  -- no test holds
  pub record BothReadable (places : ℕ) : Type 0 where
    pub passed : Passed (in_range t) xs (places_for (length xs)) places
    pub first : Readable t.first xs calls.most_events
    pub second : Readable t.second xs calls.most_events
    pub pair : is_pair t.first.band t.second.band ≡ true

  pub both_known : (places : ℕ) → first_of (block_tests t xs places) ≡ 0 → BothReadable places
  both_known places e =
      let k : Passed (in_range t) xs (places_for (length xs)) places = tests_known (in_range t) xs (places_for (length xs)) places e in
      let r : InRange t = in_range_lem t k.ranged in
      let room : calls.places_for (length xs) ≤ calls.most_events = omega (arith, k.few) in
      record {
        passed = k;
        first = record { ranged = r.first; few = k.few; sound = k.sound; room = room };
        second = record { ranged = r.second; few = k.few; sound = k.sound; room = room };
        pair = r.pair;
      }

  -- 1,000 times either band and an event is a 16-bit number
  pub bands-few : {places : ℕ} → BothReadable places → (t.first.band ≤ 60) × (t.second.band ≤ 60)
  bands-few k =
      let known = pair-known t.first.band t.second.band k.pair in
      (omega (arith, band-digit t.first.band known.0), omega (arith, band-digit t.second.band known.1))

  abbrev one : List ((ℕ × ℤ) × ℕ)
  one = receiver.indexed_after t.first xs

  abbrev two : List ((ℕ × ℤ) × ℕ)
  two = receiver.indexed_after t.second xs

  pub both_count : length (measured_after t xs) ≡ length one + length two
  both_count =
      let l : List ((ℕ × ℤ) × ℕ) = banded t.first.band one in
      let m : List ((ℕ × ℤ) × ℕ) = banded t.second.band two in
      sym (ap length (in_order 0 t xs))
      ∙ length-map (merged l m) (λ (e : (ℕ × ℤ) × ℕ). e.0)
      ∙ length_merged l m
      ∙ ap₂ (λ (i j : ℕ). i + j) (length-map one (λ (e : (ℕ × ℤ) × ℕ). (measured_in t.first.band e.0, e.1)))
      (length-map two (λ (e : (ℕ × ℤ) × ℕ). (measured_in t.second.band e.0, e.1)))

  -- what it gives if no test holds
  abbrev read : EventLists → Outcome Tap EventLists
  read = accepted_in two_lists (state_after t xs) (measured_after t xs)

  module _ (lent : EventLists) where
    pub both_0 : BothReadable (shorter lent) → block_of t xs lent ≡ read lent
    unfolding block_of
    both_0 k =
        not-refused (block_tests t xs (shorter lent)) t lent (read lent)
        (tests_0 (in_range t) xs (places_for (length xs)) (shorter lent) k.passed)

    pub both_accepted : Passed (in_range t) xs (places_for (length xs)) (shorter lent) → is_accepted (block_of t xs lent) ≡ true
    both_accepted k = ap is_accepted (both_0 (both_known (shorter lent) (tests_0 (in_range t) xs (places_for (length xs)) (shorter lent) k)))

    -- what holds of every refusal and of an accepted call holds of a call
    pub both_case : (P : Outcome Tap EventLists → Type 0) → ((n : ℕ) → P (refused (suc n) t lent))
        → (BothReadable (shorter lent) → P (read lent)) → P (block_of t xs lent)
    unfolding block_of
    both_case P refuses reads =
        refused_or (block_tests t xs (shorter lent)) t lent (read lent) P refuses (λ e. reads (both_known (shorter lent) e))

    -- what the code gives with a refusal
    pub both_refused : (r : Refusal) → number_of r ≡ first_of (block_tests t xs (shorter lent)) → outcome (as_answer (Err r)) t lent ≡ block_of t xs lent
    unfolding block_of
    both_refused = answer_refused (block_tests t xs (shorter lent)) t lent (read lent)

    -- what it has read: a and b are what the receivers gave
    module _ (k : BothReadable (shorter lent)) {a b : Given} (ha : IsHeard t.first xs a) (hb : IsHeard t.second xs b) where
      -- the events merged, with their differences
      abbrev pub together : List (ℕ × ℤ)
      together = merged_events (listed t.first.band (numbers a) (differences a) (told a)) (listed t.second.band (numbers b) (differences b) (told b))

      together_all : together ≡ measured_after t xs
      together_all =
          ap₂ (λ (l m : List ((ℕ × ℤ) × ℕ)). values (merged l m)) (read-listed ha k.first t.first.band)
          (read-listed hb k.second t.second.band)
          ∙ in_order 0 t xs

      pub both_room : length together ≤ shorter lent
      both_room =
          omega (
            arith,
            ap length together_all,
            both_count,
            read_count ha k.first,
            read-few ha k.first,
            read_count hb k.second,
            read-few hb k.second,
            k.passed.room,
          )

      pub both_read : (count : ℕ) (out : List ℕ) (beside : List ℤ) → count ≡ length together
          → out ≡ sets lent.0 0 (numbers_of together) → beside ≡ sets lent.1 0 (differences_of together)
          → outcome (as_answer (Ok count)) (record { first = a.state; second = b.state }) (out, beside) ≡ block_of t xs lent
      both_read count out beside ec eo eb' =
          (λ i. record { number = 0; count = (ec ∙ ap length together_all) i; state = moved i; lent = (stored i, noted i) })
          ∙ sym (both_0 k)
        where
          moved : record { first = a.state; second = b.state } ≡ state_after t xs
          moved =
              (λ i. record { first = read-state ha k.first i; second = read-state hb k.second i })
              ∙ sym (both_after t xs)

          room : length (measured_after t xs) ≤ shorter lent
          room = omega (arith, both_room, ap length together_all)

          stored : out ≡ over (numbers_of (measured_after t xs)) lent.0
          stored =
              eo
              ∙ ap (λ (l : List (ℕ × ℤ)). sets lent.0 0 (numbers_of l)) together_all
              ∙ sets-front (numbers_of (measured_after t xs)) lent.0 (omega (arith, room, length-map (measured_after t xs) (λ (p : ℕ × ℤ). p.0)))

          noted : beside ≡ over (differences_of (measured_after t xs)) lent.1
          noted =
              eb'
              ∙ ap (λ (l : List (ℕ × ℤ)). sets lent.1 0 (differences_of l)) together_all
              ∙ sets-front (differences_of (measured_after t xs)) lent.1 (omega (arith, room, length-map (measured_after t xs) (λ (p : ℕ × ℤ). p.1)))
