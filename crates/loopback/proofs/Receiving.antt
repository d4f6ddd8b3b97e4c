-- A list of samples that is read block by block: what the call on a block leaves, what holds on the way, and what is left at the end. From how
-- a run over samples falls into two parts, and the filling of the lists of events and of differences.
-- Assumes nothing.
use mathlib.Core.Path.{◌≡◌, refl, sym, ap, ◌∙◌}
use mathlib.Core.Bool.{true}
use mathlib.Core.List.{List, [], ◌++◌, map, map-append}
use mathlib.Mathlib.Data.Bool.Basic.{and_elim_left, and_elim_right}
use Prim.Native.Nat.{ℕ, ◌+◌, ◌≤◌}
use native.Mathlib.Nat.{zero-add}
use native.Mathlib.Omega.{arith}
use lib.IntN.{ℤ, pos}
use lib.ListN.{length, take, drop, replicate, length-append, length-map, length-replicate}
use lib.Seq.{sets, take_at}
use Rattle.std.specs.Prelude.{Result, Ok}
use Rattle.calls.specs.declared.Refusal.{Refusal}
use Rattle.calls.specs.Outcome.{Outcome, outcome, as_answer, over}
use Rattle.calls.proofs.Refusals.{outcome-ok}
use Rattle.calls.proofs.Runs.{run_laws}
use Rattle.calls.proofs.Filling.{Filling, filling_start, filling_more, filling_end}
use Rattle.tones.specs.Samples.{most_samples, are_samples}
use Rattle.tones.proofs.Samples.{samples_append}
use Rattle.receiver.specs.declared.Receiver.{Receiver}
use Rattle.receiver.specs.Step.{after_sample, measured_at, state_after, measured_after}
use Rattle.receiver.specs.Calls.{EventLists, most_events, in_range, block_of}
use Rattle.receiver.specs.AsCoded.{numbers_of, differences_of}
use Rattle.receiver.proofs.Calls.{block_0, read}
use Rattle.receiver.proofs.Ranges.{state_kept}

-- ---- the call on a block, with places for the events of the longest one

abbrev places : EventLists
places = (replicate most_events 0, replicate most_events (pos 0))

module _ (s : Receiver) (xs : List ℤ) where
  abbrev all_told : List (ℕ × ℤ)
  all_told = measured_after s xs

  -- it is accepted with the count n: the lists begin with the events and their differences
  pub record Told (n : ℕ) (next : Receiver) (left : EventLists) : Type 0 where
    pub state : next ≡ state_after s xs
    pub count : n ≡ length all_told
    pub events : take n left.0 ≡ numbers_of all_told
    pub differences : take n left.1 ≡ differences_of all_told
    pub events_part : n ≡ length (take n left.0)
    pub differences_part : n ≡ length (take n left.1)

  module _ (r : Result ℕ Refusal) (next : Receiver) (left : EventLists) (ranged : in_range s ≡ true) (few : length xs ≤ most_samples)
      (sound : are_samples xs ≡ true) (given : outcome (as_answer r) next left ≡ block_of s xs places) where
    accepted : outcome (as_answer r) next left ≡ read s xs places
    accepted =
        given
        ∙ block_0 s xs places ranged few sound
        (omega (arith, length-replicate {A = ℕ} most_events 0, length-replicate {A = ℤ} most_events (pos 0), few))

    pub block_ok : r ≡ Ok (length all_told)
    block_ok = outcome-ok r next left (read s xs places) accepted refl

    -- one of the two lists has its side of the events at its front
    side : {A : Type 0} (f : ℕ × ℤ → A) (old now : List A) → now ≡ over (map f all_told) old → take (length all_told) now ≡ map f all_told
    side f old now e =
        ap (take (length all_told)) e ∙ take_at (map f all_told) (drop (length (map f all_told)) old) (length all_told) (length-map all_told f)

    events_left : take (length all_told) left.0 ≡ numbers_of all_told
    events_left = side (λ (e : ℕ × ℤ). e.0) places.0 left.0 (ap (λ (o : Outcome Receiver EventLists). o.lent.0) accepted)

    differences_left : take (length all_told) left.1 ≡ differences_of all_told
    differences_left = side (λ (e : ℕ × ℤ). e.1) places.1 left.1 (ap (λ (o : Outcome Receiver EventLists). o.lent.1) accepted)

    pub block_told : (n : ℕ) → r ≡ Ok n → Told n next left
    block_told n e =
        let same : n ≡ length all_told = cc (e, block_ok) in
        rw same record {
          state = ap (λ (o : Outcome Receiver EventLists). o.state) accepted;
          count = refl;
          events = events_left;
          differences = differences_left;
          events_part = sym (ap length events_left ∙ length-map all_told (λ (e : ℕ × ℤ). e.0));
          differences_part = sym (ap length differences_left ∙ length-map all_told (λ (e : ℕ × ℤ). e.1));
        }

-- ---- block by block

-- The samples xs are read from s on, and the events and their differences go to the two lists `lent`. All but `rest` are read: the state is r,
-- and the lists `now` hold `count` of each.
pub record InBlocks (s : Receiver) (xs : List ℤ) (lent : EventLists) (r : Receiver) (rest : List ℤ) (count : ℕ) (now : EventLists) : Type 0 where
  pub ranged : in_range r ≡ true
  pub sound : are_samples rest ≡ true
  pub counted : count + length (measured_after r rest) ≡ length (measured_after s xs)
  pub events : Filling lent.0 0 (numbers_of (measured_after s xs)) now.0 count (numbers_of (measured_after r rest))
  pub differences : Filling lent.1 0 (differences_of (measured_after s xs)) now.1 count (differences_of (measured_after r rest))

module _ (s : Receiver) (xs : List ℤ) (lent : EventLists) where
  pub reading_start : in_range s ≡ true → are_samples xs ≡ true → InBlocks s xs lent s xs 0 lent
  reading_start h a =
      record {
        ranged = h;
        sound = a;
        counted = zero-add (length (measured_after s xs));
        events = filling_start lent.0 0 (numbers_of (measured_after s xs));
        differences = filling_start lent.1 0 (differences_of (measured_after s xs));
      }

  -- what is still to come is a block and what is behind it
  module _ (r : Receiver) (block behind : List ℤ) (count : ℕ) (now : EventLists) (d : InBlocks s xs lent r (block ++ behind) count now) where
    abbrev front_told : List (ℕ × ℤ)
    front_told = measured_after r block

    abbrev later : List (ℕ × ℤ)
    later = measured_after (state_after r block) behind

    parts : measured_after r (block ++ behind) ≡ front_told ++ later
    parts = (run_laws after_sample measured_at).gives_append r block behind

    pub block_sound : are_samples block ≡ true
    block_sound = and_elim_left (are_samples block) (are_samples behind) (sym (samples_append block behind) ∙ d.sound)

    shares : length (measured_after r (block ++ behind)) ≡ length front_told + length later
    shares = ap length parts ∙ length-append front_told later

    pub block_room : length (measured_after s xs) ≤ length lent.0 → count + length front_told ≤ length now.0
    block_room room = omega (arith, shares, d.counted, d.events.long, room)

    -- one side of its events is put behind those before
    side_more : {A : Type 0} (f : ℕ × ℤ → A) {old new all : List A} → Filling old 0 all new count (map f (measured_after r (block ++ behind)))
        → Filling old 0 all (sets new count (map f front_told)) (count + length front_told) (map f later)
    side_more f e =
        rw (length-map front_told f) at (filling_more (map f front_told) (map f later) (rw (ap (map f) parts ∙ map-append f front_told later) at e))

    pub reading_more : InBlocks s xs lent (state_after r block) behind (count + length front_told)
        (sets now.0 count (numbers_of front_told), sets now.1 count (differences_of front_told))
    reading_more =
        record {
          ranged = state_kept r block d.ranged block_sound;
          sound = and_elim_right (are_samples block) (are_samples behind) (sym (samples_append block behind) ∙ d.sound);
          counted = omega (arith, shares, d.counted);
          events = side_more (λ (e : ℕ × ℤ). e.0) d.events;
          differences = side_more (λ (e : ℕ × ℤ). e.1) d.differences;
        }

  module _ (r : Receiver) (count : ℕ) (now : EventLists) (d : InBlocks s xs lent r [] count now) where
    nothing : measured_after r [] ≡ []
    nothing = (run_laws after_sample measured_at).gives_none r

    pub reading_count : count ≡ length (measured_after s xs)
    reading_count = omega (arith, d.counted, ap length nothing)

    side_end : {A : Type 0} (f : ℕ × ℤ → A) {old new all : List A} → Filling old 0 all new count (map f (measured_after r [])) → new ≡ sets old 0 all
    side_end f e = filling_end (rw nothing at e)

    pub events_end : now.0 ≡ sets lent.0 0 (numbers_of (measured_after s xs))
    events_end = side_end (λ (e : ℕ × ℤ). e.0) d.events

    pub differences_end : now.1 ≡ sets lent.1 0 (differences_of (measured_after s xs))
    differences_end = side_end (λ (e : ℕ × ℤ). e.1) d.differences
