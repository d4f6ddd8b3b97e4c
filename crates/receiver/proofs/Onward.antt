-- From one place in a list of decisions to another: how a search goes on, what it comes to, and how a wait does. From the laws of places
-- and of stretches of decisions.
-- Assumes nothing.
use Rattle.std.proofs.Common.{rules}
use mathlib.Core.Path.{◌≡◌, refl, sym, ap, ◌∙◌}
use mathlib.Core.Bool.{Bool, true, false, cond, beq}
use mathlib.Core.List.{List, [], ◌∷◌, ◌++◌}
use Prim.Native.Nat.{ℕ, ◌+◌, ◌-◌, ◌<◌, ◌≤◌, min}
use native.Mathlib.Omega.{arith}
use borrow.Author.Tests.{leb-false}
use lib.Dec.{leb}
use lib.IntN.{ℤ}
use lib.ListN.{length}
use lib.Seq.{slice, slice_empty, length-slice}
use Rattle.std.specs.Prelude.{Option}
use Rattle.integers.proofs.Tests.{cond-split, lt_or_le}
use Rattle.calls.specs.Runs.{with_index}
use Rattle.control.specs.declared.Decision.{Decision}
use Rattle.control.specs.declared.Next.{Next}
use Rattle.control.specs.declared.Stage.{Stage}
use Rattle.control.specs.declared.Stage.TheVariants.{Waiting}
use Rattle.control.specs.Ranges.{is_stage}
use Rattle.control.specs.Rules.{quiet, next_of}
use Rattle.control.specs.AsCoded.{is_found, wait_over, run_over, NoneFound}
use Rattle.control.proofs.Rules.{wait_parts, IsSearch}
use Rattle.control.proofs.Ranges.{wait_low, stage_wait, stage-slot}
use Rattle.control.proofs.Stretches.{run-low, found_other, none_short, none_more, none_last}
use Rattle.quality.specs.declared.Measured.{Measured}
use Rattle.quality.specs.Quality.{least_with, takes_bit}
use Rattle.quality.specs.AsCoded.{measured_by}
use Rattle.quality.proofs.Stretches.{behind, numbers_with, slot-behind, Leads, lead_more, waits, searches}
use Rattle.receiver.specs.declared.place.Place.{Place}
use Rattle.receiver.specs.declared.seek.Sought.{Sought}
use Rattle.receiver.specs.declared.scan.Turn.{Turn}
use Rattle.receiver.specs.declared.filling.Told.{Told}
use Rattle.receiver.specs.declared.scan.Standing.{Standing}
use Rattle.receiver.specs.Weighed.{judged}
use Rattle.receiver.specs.Lent.{told_by}
use Rattle.receiver.specs.AsCoded.{IsPlace, run_before, run_at, state_at, exactly, moved_to, skipped, Seeks, missed_at, quiet_at, sought_to, Onward}
use Rattle.receiver.proofs.Places.{decision_more, place_exact, run_exact, known-first, place_moved, place-more, run_on, run_more, run_bad, run-most}

-- what a slot comes to, by what it does to the stage and to the smallest difference, at the place `to`
abbrev slot_to : Next → Measured → Option Told → Place → Turn
slot_to n m told to = record { to = record { place = to; stage = n.stage; smallest = m.smallest }; told = told }

module _ (ds : List Decision) (p : Place) where
  -- before decision i none has ended a search
  pub record Seeking (space : Bool) (i since : ℕ) : Type 0 where
    pub later : p.next ≤ i
    pub place : IsPlace ds (moved_to p i since)
    pub none : NoneFound space (run_at ds p) (slice p.next i ds)

  module _ (v : IsPlace ds p) where
    -- ---- a search

    module _ (space : Bool) where
      -- none ends it before the run can be 32
      seek_over : (i : ℕ) → p.next < i → i ≤ length ds → i ≤ p.known + (31 - p.ran) → Seeking space i i
      seek_over i h l f =
          record {
            later = omega arith;
            place = place_moved ds p v i (omega arith) l;
            none =
                none_short space (run_at ds p) (slice p.next i ds)
                (omega (arith, run-most ds p v p.next (known-first ds p v) v.inside, length-slice p.next i ds l, known-first ds p v));
          }

      pub seek_start : (first : Place) → first ≡ skipped p → first.next ≤ length ds → Seeking space first.next first.since
      unfolding NoneFound
      seek_start first e =
          rw e
          (cond-split (λ (q : Place). q.next ≤ length ds → Seeking space q.next q.since) (leb (p.known + (31 - p.ran)) p.next) _ _
          (λ t l. record { later = omega arith; place = v; none = rw (slice_empty p.next ds) tt })
          (λ t l. seek_over (p.known + (31 - p.ran)) (leb-false _ _ t) l (omega arith)))

      -- it is not ended so far
      pub seek_missed : (i since : ℕ) → p.next < i → Seeking space i since → Seeks ds p space (missed_at (moved_to p i since))
      seek_missed i since h s =
          let e : i ≡ i - 1 + 1 = omega arith in
          let l : i - 1 < length ds = omega (arith, s.place.inside) in
          let b : slice p.next i ds ≡ slice p.next (i - 1) ds ++ judged ds (i - 1) ∷ [] =
          ap (λ (n : ℕ). slice p.next n ds) e ∙ decision_more ds p.next (i - 1) (omega arith) l in
          let n = none_last space (judged ds (i - 1)) (run_at ds p) (slice p.next (i - 1) ds) (rw b at s.none) in
          record {
            later = h;
            place = s.place;
            run = refl;
            none = n.0;
            last = sym n.1 ∙ ap (λ (r : ℕ). is_found space r (judged ds (i - 1))) (ap (run_over (run_at ds p)) (sym b) ∙ run_on ds p v i s.later);
          }

      -- it is not ended before the end: by the decisions up to there or, if it ends before the run can be 32, by none
      pub seek_none : (first : Place) → first ≡ skipped p → (end : ℕ) → p.next < end → end ≤ length ds
          → (first.next ≤ end → Seeking space end first.since) → Seeks ds p space (missed_at (moved_to p end (min first.since end)))
      seek_none first e end h l sought =
          lt_or_le end first.next
          (rw e
          (cond-split (λ (q : Place). end < q.next → Seeks ds p space (missed_at (moved_to p end (min q.since end)))) (leb (p.known + (31 - p.ran)) p.next) _ _
          (λ t m. absurd (omega arith))
          (λ t m.
          let f : min (p.known + (31 - p.ran)) end ≡ end = omega arith in
          rw f (seek_missed end end h (seek_over end h l (omega arith))))))
          (λ m.
          let s = sought m in
          let f : min first.since end ≡ first.since = omega (arith, s.place.passed) in
          rw f (seek_missed end first.since h s))

      module _ (i since : ℕ) (s : Seeking space i since) (l : i < length ds) where
        known_i : p.known ≤ i
        known_i = omega (arith, known-first ds p v, s.later)

        none_i : NoneFound space (run_at ds p) (slice p.next (i + 1 - 1) ds)
        none_i = search rules

        -- another tone
        pub seek_other : (judged ds i).good ≡ true → beq (judged ds i).space space ≡ false → Seeking space (i + 1) since
        seek_other g t =
            record {
              later = omega (arith, s.later);
              place = place-more ds p v i since s.place l g;
              none =
                  rw (decision_more ds p.next i s.later l)
                  (none_more space (judged ds i) (run_at ds p) (slice p.next i ds) s.none (found_other space (run_over (run_at ds p) (slice p.next i ds ++ judged ds i ∷ [])) (judged ds i) t));
            }

        -- no good level
        pub seek_bad : (judged ds i).good ≡ false → Seeks ds p space (missed_at (exactly (i + 1) 0))
        seek_bad g =
            record {
              later = omega (arith, s.later);
              place = place_exact ds (i + 1) 0 (omega arith) (omega arith);
              run = run_exact ds (i + 1) 0 ∙ sym (run_bad ds p v i known_i l g);
              none = none_i;
              last = sym (ap (λ (n : ℕ). is_found space n (judged ds (i + 1 - 1))) (run_exact ds (i + 1) 0));
            }

        -- the tone: the run decides
        pub seek_tone : (run : ℕ) → run ≡ run_before ds p (i + 1)
            → Seeks ds p space (record { place = exactly (i + 1) run; found = is_found space run (judged ds i) })
        seek_tone run e =
            let f : i + 1 - 1 ≡ i = omega arith in
            record {
              later = omega (arith, s.later);
              place = place_exact ds (i + 1) run (omega arith) (rw e (run-low p.ran (slice p.known (i + 1) ds) v.low));
              run = run_exact ds (i + 1) run ∙ e;
              none = none_i;
              last = rw f (ap (λ (n : ℕ). is_found space n (judged ds i)) (sym (run_exact ds (i + 1) run)));
            }

-- ---- from the place on

module _ (ds : List Decision) (from : Standing) where
  abbrev p : Place
  p = from.place

  -- the slot of a wait is taken at i, with a good level or without one
  pub record SlotTaken (i : ℕ) (n : Next) (m : Measured) (told : Option Told) : Type 0 where
    pub good : (judged ds i).good ≡ true → Onward ds from (slot_to n m told (moved_to p (i + 1) i))
    pub bad : (judged ds i).good ≡ false → Onward ds from (slot_to n m told (exactly (i + 1) 0))

  -- the decisions from the place to i lead to this stage and this difference, with these events
  abbrev Led : ℕ → Stage → Option ℤ → List ((ℕ × ℤ) × ℕ) → Type 0
  Led i = Leads p.next (state_at ds from) (slice p.next i ds) (run_before ds p i)

  module _ (v : IsPlace ds p) where
    led_more : (i : ℕ) {s : Stage} {r : Option ℤ} → p.next ≤ i → i < length ds → Led i s r [] → (n : Next)
        → n ≡ next_of s (run_before ds p (i + 1)) (judged ds i)
        → Led (i + 1) n.stage (behind s r (judged ds i).difference n.stage)
        (with_index i (numbers_with (least_with r (judged ds i).difference) n.event))
    led_more i h l a n e =
        let r = run_more ds p v i (omega (arith, known-first ds p v)) l in
        let j : p.next + length (slice p.next i ds) ≡ i = omega (arith, length-slice p.next i ds (omega arith)) in
        rw (decision_more ds p.next i h l, r) (rw j at (lead_more (judged ds i) n (rw r at e) a))

    onward_led : (t : Turn) → p.next < t.to.place.next → IsPlace ds t.to.place → run_at ds t.to.place ≡ run_before ds p t.to.place.next
        → Led t.to.place.next t.to.stage t.to.smallest (with_index (t.to.place.next - 1) (told_by t.told)) → Onward ds from t
    onward_led t h w e a = search rules

    -- what a search comes to
    pub search_onward : {space : Bool} {next : Stage} → IsSearch space from.stage next → takes_bit from.stage ≡ false → (s : Sought)
        → Seeks ds p space s → Onward ds from (sought_to s from next)
    search_onward {space} {next} f none s k =
        let i : ℕ = s.place.next - 1 in
        let e : s.place.next - 1 + 1 ≡ s.place.next = omega (arith, k.later) in
        let h : p.next ≤ s.place.next - 1 = omega (arith, k.later) in
        let l : s.place.next - 1 < length ds = omega (arith, k.later, k.place.inside) in
        let a : Led i from.stage from.smallest [] =
        rw (run_on ds p v i h) at (searches f none from.smallest p.next (run_at ds p) (slice p.next i ds) k.none) in
        onward_led (sought_to s from next) k.later k.place k.run
        (rw (e, none) at
        (led_more i h l a (quiet (cond s.found next from.stage))
        (ap (λ (b : Bool). quiet (cond b next from.stage)) (k.last ∙ ap (λ (r : ℕ). is_found space r (judged ds i)) (k.run ∙ ap (run_before ds p) (sym e)))
        ∙ sym (f.step (run_before ds p (i + 1)) (judged ds i)))))

    -- ---- a wait

    module _ (wait slot byte : ℕ) (w : from.stage ≡ Waiting wait slot byte) (k : is_stage from.stage ≡ true) where
      waiting : is_stage (Waiting wait slot byte) ≡ true
      waiting = rw w at k

      led_wait : (i : ℕ) → p.next ≤ i → i - p.next < wait → i ≤ length ds
          → Led i (Waiting (wait - (i - p.next)) slot byte) from.smallest []
      led_wait i h b l =
          let n : length (slice p.next i ds) ≡ i - p.next = length-slice p.next i ds l in
          rw w (rw (n, run_on ds p v i h) at (waits p.next (run_at ds p) wait slot byte from.smallest (slice p.next i ds) (rw n b)))

      -- it goes on to i
      pub wait_on : (i left : ℕ) → p.next < i → i - p.next < wait → i ≤ length ds → left ≡ wait - (i - p.next)
          → Onward ds from (quiet_at (record { place = moved_to p i i; stage = Waiting left slot byte; smallest = from.smallest }))
      wait_on i left h b l e = rw e (onward_led _ h (place_moved ds p v i (omega arith) l) refl (led_wait i (omega arith) b l))

      -- the slot is taken at i
      module _ (i : ℕ) (e : i ≡ p.next + wait - 1) (l : i < length ds) (n : Next) (en : n ≡ wait_over slot byte (judged ds i))
          (m : Measured) (em : m ≡ measured_by slot from.smallest (judged ds i).difference n.stage)
          (told : Option Told) (et : told_by told ≡ numbers_with m.difference n.event) where
        low : 1 ≤ wait
        low = wait_low wait slot (stage_wait wait slot byte waiting)

        later_on : p.next ≤ i
        later_on = omega (arith, low)

        led_slot : Led (i + 1) n.stage m.smallest (with_index (i + 1 - 1) (told_by told))
        led_slot =
            let one : wait - (i - p.next) ≡ 1 = omega (arith, low) in
            let last : i + 1 - 1 ≡ i = omega arith in
            rw (et, last, em, slot-behind slot byte from.smallest (judged ds i).difference n.stage)
            (rw one at
            (led_more i later_on l (led_wait i later_on (omega (arith, low)) (omega arith)) n
            (en ∙ sym (wait_parts (run_before ds p (i + 1)) (judged ds i) (wait - (i - p.next)) slot byte one (stage-slot wait slot byte waiting)))))

        pub slot-taken : SlotTaken i n m told
        slot-taken =
            record {
              good = λ g.
                  onward_led _ (omega (arith, later_on))
                  (place-more ds p v i i (place_moved ds p v i later_on (omega arith)) l g) refl led_slot;
              bad = λ g.
                  onward_led _ (omega (arith, later_on)) (place_exact ds (i + 1) 0 (omega arith) (omega arith))
                  (run_exact ds (i + 1) 0 ∙ sym (run_bad ds p v i (omega (arith, later_on, known-first ds p v)) l g)) led_slot;
            }
