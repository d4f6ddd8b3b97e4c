-- Numbers, counts, run and stage are those of the receiver without differences: call by call, and over lists of calls.
-- Assumes nothing.
use mathlib.Core.Path.{◌≡◌, refl, sym, ap, ap₂, ◌∙◌}
use mathlib.Core.Bool.{Bool, true, cond}
use mathlib.Core.List.{List, [], ◌∷◌, ◌++◌, map}
use mathlib.Mathlib.Data.Bool.Basic.{and_intro}
use Prim.Native.Nat.{ℕ, zero, suc}
use native.Mathlib.Omega.{arith}
use lib.Dec.{eqb, eqb-suc-zero}
use lib.IntN.{ℤ}
use lib.ListN.{length, take, drop, length-map}
use lib.Seq.{length-take-le, take_at, take-append_seam}
use Rattle.calls.specs.Refusals.{first_of}
use Rattle.calls.specs.Outcome.{refused, accepted, front}
use Rattle.calls.specs.Runs.{after, gives}
use Rattle.calls.specs.Lists as lists
use Rattle.receiver.specs.declared.Receiver.{Receiver}
use Rattle.receiver.specs.Step.{after_sample, events_at, state_after, events_after, measured_after}
use Rattle.receiver.specs.Calls.{in_range, places_for, tests_of, block_tests, shorter, block_of}
use Rattle.receiver.specs.Lists.{Call, call_of, events_read}
use Rattle.receiver.proofs.Ranges.{in_range_lem}
use Rattle.receiver.proofs.Windows.{control-sample}
use Rattle.receiver.proofs.Counting.{measured-numbers}
use Rattle.receiver.proofs.Calls.{read}
use Rattle.receiver.proofs.Lists.{one_reading}
use Rattle.differences.specs.Plain.{Plain, plain_of, plain_after, plain_events, plain_range, plain_block, plain_call_of, SameAs, Unsteered}

-- ---- samples

plain-sample : (s : Receiver) (x : ℤ) → plain_of (after_sample s x) ≡ plain_after (plain_of s) x
unfolding after_sample plain_after
plain-sample s x i = record { band = s.band; window = (after_sample s x).window; control = control-sample s x i }

plain-state : (s : Receiver) (xs : List ℤ) → plain_of (state_after s xs) ≡ after plain_after (plain_of s) xs
unfolding after
plain-state s [] = refl
plain-state s (x ∷ xs) = plain-state (after_sample s x) xs ∙ ap (λ (p : Plain). after plain_after p xs) (plain-sample s x)

plain-events : (s : Receiver) (xs : List ℤ) → events_after s xs ≡ gives plain_after plain_events (plain_of s) xs
unfolding gives events_at plain_events
plain-events s [] = refl
plain-events s (x ∷ xs) =
    ap (λ (l : List ℕ). events_at s x ++ l)
    (plain-events (after_sample s x) xs ∙ ap (λ (p : Plain). gives plain_after plain_events p xs) (plain-sample s x))

-- ---- a call

module _ (s : Receiver) (h : in_range s ≡ true) (c : Call) where
  abbrev xs : List ℤ
  xs = c.samples

  abbrev places : ℕ
  places = shorter c.lent

  abbrev one_list_lem : List ℕ
  one_list_lem = take places c.lent.0

  ranged : plain_range (plain_of s) ≡ true
  ranged = let r = in_range_lem s h in and_intro r.band (and_intro r.window r.control)

  long : length one_list_lem ≡ places
  long = length-take-le places c.lent.0 (omega arith)

  -- the same tests hold
  tests_same : first_of (tests_of (plain_range (plain_of s)) xs (places_for (length xs)) (length one_list_lem)) ≡ first_of (block_tests s xs places)
  tests_same = ap₂ (λ (r : Bool) (n : ℕ). first_of (tests_of r xs (places_for (length xs)) n)) (ranged ∙ sym h) long

  -- refused with n, or accepted if n is 0
  either : (n : ℕ)
      → SameAs (cond (eqb n 0) (accepted (after plain_after (plain_of s) xs) (gives plain_after plain_events (plain_of s) xs) one_list_lem) (refused n (plain_of s) one_list_lem))
      (cond (eqb n 0) (read s xs c.lent) (refused n s c.lent))
  either zero =
      let told : List (ℕ × ℤ) = measured_after s xs in
      let numbers : map (λ (e : ℕ × ℤ). e.0) told ≡ gives plain_after plain_events (plain_of s) xs = measured-numbers s xs ∙ plain-events s xs in
      let sides = length-map told (λ (e : ℕ × ℤ). e.0) in
      record {
        number = refl;
        count = sym sides ∙ ap length numbers;
        state = plain-state s xs;
        events =
            take_at (map (λ (e : ℕ × ℤ). e.0) told) _ (length told) sides
            ∙ numbers
            ∙ sym (take-append_seam (gives plain_after plain_events (plain_of s) xs) (drop (length (gives plain_after plain_events (plain_of s) xs)) one_list_lem));
      }
  either (suc n) = rw (eqb-suc-zero n) (record { number = refl; count = refl; state = refl; events = refl })

  same_as : SameAs (plain_call_of (plain_of s) c) (call_of s c)
  unfolding plain_block block_of
  same_as = rw tests_same (either (first_of (block_tests s xs places)))

-- ---- lists of calls

kept : (s : Receiver) (c : Call) → in_range s ≡ true → in_range (call_of s c).state ≡ true
unfolding after
kept s c = (one_reading s (c ∷ [])).range

plain-calls : (s : Receiver) → in_range s ≡ true → (calls : List Call)
    → (events_read s calls ≡ lists.joined plain_call_of (λ o c. front o) (plain_of s) calls)
    × (plain_of (lists.state_after call_of s calls) ≡ lists.state_after plain_call_of (plain_of s) calls)
unfolding after gives
plain-calls s h [] = (refl, refl)
plain-calls s h (c ∷ calls) =
    let one = same_as s h c in
    let rest = plain-calls (call_of s c).state (kept s c h) calls in (
      (λ i.
          cond (eqb (one.number i) 0) (one.events i) []
          ++ (rest.0 ∙ ap (λ (p : Plain). lists.joined plain_call_of (λ o c. front o) p calls) one.state) i),
      rest.1 ∙ ap (λ (p : Plain). lists.state_after plain_call_of p calls) one.state,
    )

pub unsteered : (s : Receiver) → in_range s ≡ true → (calls : List Call) → Unsteered s calls
unsteered s h calls =
    let both = plain-calls s h calls in
    record { each = same_as s h; events = both.0; state = both.1 }
