-- Over lists of a tap's calls, refused ones among them, each receiver gives what it gives alone. From the laws of a part and of lists of calls.
-- Assumes nothing.
use mathlib.Core.Path.{◌≡◌, refl, sym, ap, ap₂, ◌∙◌}
use mathlib.Core.Bool.{true, cond}
use mathlib.Core.List.{List, [], ◌∷◌, ◌++◌}
use Prim.Native.Nat.{ℕ, ◌≤◌}
use native.Mathlib.Omega.{arith}
use lib.Dec.{eqb-suc-zero}
use lib.IntN.{ℤ}
use lib.ListN.{length, take, length-map}
use lib.Seq.{take_at}
use Rattle.calls.specs.Outcome.{Outcome, is_accepted, front_in}
use Rattle.calls.specs.Runs.{after, gives}
use Rattle.calls.specs.Lists as lists
use Rattle.calls.proofs.Runs.{RunLaws, run_laws}
use Rattle.calls.proofs.Simulation as simulated
use Rattle.calls.proofs.Simulation.{each_append}
use Rattle.calls.proofs.Lists.{taken, IsRun, refused-run, accepted-run, joined_picked, joined-front}
use Rattle.receiver.specs.declared.Receiver.{Receiver}
use Rattle.receiver.specs.Step as receiver
use Rattle.receiver.specs.Calls.{EventLists, two_lists}
use Rattle.receiver.proofs.Counting as counting
use Rattle.receiver.proofs.Calls.{two_keep, told-count}
use Rattle.receiver.proofs.Windows.{band-after}
use Rattle.tap.specs.declared.Tap.{Tap}
use Rattle.tap.specs.Step.{after_sample, events_at, measured_at, state_after, events_after, measured_after}
use Rattle.tap.specs.Calls.{in_range, places_for}
use Rattle.tap.specs.Lists.{Call, call_of, samples_read, events_read, measured_read, of_band, measured_of_band, Alone, BothDirections}
use Rattle.tap.specs.AsCoded.{numbers_of}
use Rattle.tap.proofs.Measured.{measured-numbers, numbers_of_band}
use Rattle.tap.proofs.Blocks.{in_range_lem, both_case, both_count}
use Rattle.tap.proofs.Parts.{IsPart, first_part, second_part, range_kept, part_after, part_events}

-- ---- the tap itself: reading samples is a run over them, and each call is one

tap_laws : RunLaws state_after measured_after
tap_laws = run_laws after_sample measured_at

tap_runs : (t : Tap) (c : Call) → IsRun two_keep tap_laws c.samples t (call_of t c)
tap_runs t c =
    both_case t c.samples c.lent (IsRun two_keep tap_laws c.samples t)
    (λ n. refused-run two_keep tap_laws n t c.samples c.lent)
    (λ k. accepted-run two_keep tap_laws t c.samples c.lent)

measured_order : (t : Tap) (cs : List Call) → measured_read t cs ≡ measured_after t (samples_read t cs)
measured_order = joined-front two_keep tap_laws call_of (λ c. c.samples) tap_runs

-- of the first list alone, what stands at its front are the numbers
call-numbers : (t : Tap) (c : Call)
    → cond (is_accepted (call_of t c)) (take (call_of t c).count (call_of t c).lent.0) [] ≡ events_after t (taken (call_of t c) c.samples)
call-numbers t c =
    both_case t c.samples c.lent
    (λ (o : Outcome Tap EventLists). cond (is_accepted o) (take o.count o.lent.0) [] ≡ events_after t (taken o c.samples))
    (λ n. rw (eqb-suc-zero n) (sym ((run_laws after_sample events_at).gives_none t)))
    (λ k.
    let told : List (ℕ × ℤ) = measured_after t c.samples in
    take_at (numbers_of told) _ (length told) (length-map told (λ (e : ℕ × ℤ). e.0)) ∙ measured-numbers t c.samples)

in_order : (t : Tap) (cs : List Call) → events_read t cs ≡ events_after t (samples_read t cs)
in_order =
    joined_picked call_of (λ (c : Call). c.samples) (run_laws after_sample events_at) (λ t c. (tap_runs t c).moves)
    (λ (o : Outcome Tap EventLists). take o.count o.lent.0) call-numbers

-- ---- a part

module _ {part : Tap → Receiver} (is : IsPart part) where
  -- what a call does to it, and shows of it
  record Runs (t : Tap) (c : Call) (o : Outcome Tap EventLists) : Type 0 where
    moves : part o.state ≡ receiver.state_after (part t) (taken o c.samples)
    shows : measured_of_band (part t).band (cond (is_accepted o) (front_in two_lists o) []) ≡ receiver.measured_after (part t) (taken o c.samples)

  runs : (t : Tap) (c : Call) → Runs t c (call_of t c)
  unfolding after gives
  runs t c =
      both_case t c.samples c.lent (Runs t c)
      (λ n. record { moves = rw (eqb-suc-zero n) refl; shows = rw (eqb-suc-zero n) refl })
      (λ k.
      record {
        moves = part_after is t c.samples;
        shows =
            ap (measured_of_band (part t).band) (two_keep.back (measured_after t c.samples) c.lent)
            ∙ part_events is t c.samples k.passed.ranged k.passed.sound;
      })

  alone_measured : (t : Tap) (cs : List Call) → measured_of_band (part t).band (measured_read t cs) ≡ receiver.measured_after (part t) (samples_read t cs)
  unfolding gives
  alone_measured t [] = refl
  alone_measured t (c ∷ cs) =
      let o : Outcome Tap EventLists = call_of t c in
      let r = runs t c in
      let read : List ℤ = taken o c.samples in
      let same : (part o.state).band ≡ (part t).band = ap (λ (s : Receiver). s.band) r.moves ∙ band-after (part t) read in
      each_append _ (cond (is_accepted o) (front_in two_lists o) []) (measured_read o.state cs)
      ∙ ap₂ (λ (l m : List (ℕ × ℤ)). l ++ m) r.shows
      (ap (λ (b : ℕ). measured_of_band b (measured_read o.state cs)) (sym same)
      ∙ alone_measured o.state cs
      ∙ ap (λ (s : Receiver). receiver.measured_after s (samples_read o.state cs)) r.moves)
      ∙ sym ((run_laws receiver.after_sample receiver.measured_at).gives_append (part t) read (samples_read o.state cs))

  -- the numbers of these
  alone_events : (t : Tap) (cs : List Call) → of_band (part t).band (events_read t cs) ≡ receiver.events_after (part t) (samples_read t cs)
  alone_events t cs =
      let numbers : events_read t cs ≡ numbers_of (measured_read t cs) =
      in_order t cs ∙ sym (ap numbers_of (measured_order t cs) ∙ measured-numbers t (samples_read t cs)) in
      ap (of_band (part t).band) numbers
      ∙ sym (numbers_of_band (part t).band (measured_read t cs))
      ∙ ap numbers_of (alone_measured t cs)
      ∙ counting.measured-numbers (part t) (samples_read t cs)

  alone_state : (t : Tap) (cs : List Call) → part (lists.state_after call_of t cs) ≡ receiver.state_after (part t) (samples_read t cs)
  alone_state =
      simulated.part_after (λ t c. (call_of t c).state) (run_laws receiver.after_sample receiver.measured_at) part (λ t c. taken (call_of t c) c.samples)
      (λ t c. (runs t c).moves)

  alone : (t : Tap) (cs : List Call) → Alone part t cs
  alone t cs = record { events = alone_events t cs; measured = alone_measured t cs; state = alone_state t cs }

-- ---- both

call_kept : (t : Tap) (c : Call) → in_range t ≡ true → in_range (call_of t c).state ≡ true
call_kept t c h =
    both_case t c.samples c.lent (λ (o : Outcome Tap EventLists). in_range o.state ≡ true)
    (λ n. h) (λ k. range_kept t c.samples h k.passed.sound)

calls_kept : (t : Tap) (cs : List Call) → in_range t ≡ true → in_range (lists.state_after call_of t cs) ≡ true
unfolding after
calls_kept t [] h = h
calls_kept t (c ∷ cs) h = calls_kept (call_of t c).state cs (call_kept t c h)

tap_few : (t : Tap) (xs : List ℤ) → in_range t ≡ true → length (events_after t xs) ≤ places_for (length xs)
tap_few t xs h =
    let r = in_range_lem t h in
    omega (
      arith,
      ap length (measured-numbers t xs),
      length-map (measured_after t xs) (λ (e : ℕ × ℤ). e.0),
      both_count t xs,
      told-count t.first xs,
      counting.measured-few t.first xs r.first,
      told-count t.second xs,
      counting.measured-few t.second xs r.second,
    )

pub both_directions : (t : Tap) (calls : List Call) → BothDirections t calls
both_directions t calls =
    record {
      first = alone first_part t calls;
      second = alone second_part t calls;
      order = in_order t calls;
      measured_order = measured_order t calls;
      range = calls_kept t calls;
      few = λ h. rw (in_order t calls) (tap_few t (samples_read t calls) h);
    }
