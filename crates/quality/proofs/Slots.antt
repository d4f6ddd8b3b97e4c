-- The difference of each event is the smallest over the slots of its own character. The proof goes along the list, with what holds before
-- each decision: which decision takes slot 1, and that the smallest so far is that of the slots since.
-- Assumes nothing.
use mathlib.Core.Path.{◌≡◌, refl, sym, ap, ap₂, ◌∙◌}
use mathlib.Core.Bool.{Bool, true, false, cond, not, ◌&&◌}
use mathlib.Core.List.{List, [], ◌∷◌, map, head-eq_of_cons-eq, tail-eq_of_cons-eq}
use Prim.Native.Nat.{ℕ, zero, suc, ◌+◌, ◌-◌, ◌*◌, ◌<◌, ◌≤◌}
use native.Mathlib.Numerals.{add-one}
use native.Mathlib.Omega.{arith}
use borrow.Author.Tests.{eq-eqb, ne_eqb, eqb-true, eqb-false}
use lib.Dec.{eqb}
use lib.IntN.{ℤ}
use lib.ListN.{length, get_or, take, drop, length-drop}
use lib.Seq.{take-suc, drop-cons}
use Rattle.std.specs.Prelude.{Option, Some, None}
use Rattle.integers.specs.All.{All, none, more}
use Rattle.integers.proofs.All.{all_append}
use Rattle.integers.proofs.Tests.{cond_case, cond-split, lt_or_le}
use Rattle.std.proofs.Common.{rules}
use Rattle.calls.specs.Runs.{after, indexed, with_index}
use Rattle.calls.proofs.Runs.{run_laws}
use Rattle.control.specs.declared.Decision.{Decision}
use Rattle.control.specs.declared.event.Event.{Event}
use Rattle.control.specs.declared.event.Event.TheVariants.{Character, NoStop, CarrierLost, DoubtfulBit}
use Rattle.control.specs.declared.Next.{Next}
use Rattle.control.specs.declared.Stage.{Stage}
use Rattle.control.specs.declared.Stage.TheVariants.{Searching, Waiting, Held}
use Rattle.control.specs.Ranges.{is_stage, is_control}
use Rattle.control.specs.Rules.{break_begun, event_number, numbers, quiet, report, hold_break, run_after, ends_break, taken, next_of, moved_by, control_after, reported}
use Rattle.control.proofs.Rules.{taken_case}
use Rattle.control.proofs.Ranges.{wait_low, slot-most, stage_wait, stage-slot, control_stage, control_kept}
use Rattle.quality.specs.declared.Tracked.{Tracked}
use Rattle.quality.specs.Quality.{least_with, is_gathering, takes_bit, kept_in, tracked_after, measured, track, measures_from}
use Rattle.quality.specs.Slots.{least_of, TakesSlot, Differences, AtStop, OwnSlots, EventsOwn}

-- ---- the smallest

-- of f 0 to f (n - 1), and none for 0
abbrev least_before : (ℕ → ℤ) → ℕ → Option ℤ
least_before f zero = None
least_before f (suc n) = Some (least_of f n)

-- with f n
least_more : (f : ℕ → ℤ) (n : ℕ) → least_with (least_before f n) (f n) ≡ least_of f n
least_more f zero = refl
least_more f (suc n) = refl

module _ (s : Tracked) (difference : ℕ → ℤ) (ds : List Decision) (same : Differences difference ds) where
  -- before decision i
  abbrev here : ℕ → Tracked
  here i = track s (take i ds)

  -- what is claimed of an event
  abbrev Own : (ℕ × ℤ) × ℕ → Type 0
  Own = OwnSlots s difference ds

  -- the difference at slot j + 1, where decision `first` takes slot 1
  abbrev slot_from : ℕ → ℕ → ℤ
  slot_from first j = difference (first + 32 * j)

  -- ---- before decision n

  -- Waiting for a slot, the decision `first` takes slot 1, or will take it; the slots before this one are taken, and q is their smallest.
  record Under (n wait slot : ℕ) (q : Option ℤ) : Type 0 where
    first : ℕ
    place : n + wait + 32 ≡ first + 32 * slot + 1
    takes : (j : ℕ) → j + 1 < slot → TakesSlot s ds (j + 1) (first + 32 * j)
    least : q ≡ least_before (slot_from first) (slot - 1)

  -- at each stage
  abbrev Before : ℕ → Stage → Option ℤ → Type 0
  Before n Searching q = q ≡ None
  Before n (Waiting wait slot byte) q = Under n wait slot q
  Before n Held q = q ≡ None

  -- slot 1 is not taken yet
  first-ahead : (n wait slot : ℕ) {q : Option ℤ} → 1 ≤ wait → slot ≤ 1 → q ≡ None → Under n wait slot q
  first-ahead n wait slot w l e =
      let z : slot - 1 ≡ 0 = omega arith in
      record {
        first = n + wait + 31 - 32 * slot;
        place = omega arith;
        takes = λ j h. absurd (omega arith);
        least = e ∙ rw z;
      }

  -- ---- one decision

  module _ (n : ℕ) (d : Decision) (q : Option ℤ) (inside : n < length ds) (this : difference n ≡ d.difference) where
    -- the smallest with its difference
    abbrev now : ℤ
    now = least_with q d.difference

    -- what it comes to holds before the next decision, and its event is as claimed
    record Goes (takes : Bool) (x : Next) : Type 0 where
      keeps : Before (n + 1) x.stage (cond takes (kept_in x.stage now) q)
      tells : All Own (with_index n (map (λ (m : ℕ). (m, now)) (numbers x.event)))

    -- a slot is taken
    module _ (slot byte : ℕ) (most : slot ≤ 9) (stands : (here n).control.stage ≡ Waiting 1 slot byte) (u : Under n 1 slot q) where
      start_none : slot ≡ 0 → q ≡ None
      start_none z = u.least ∙ rw z

      -- a data or stop slot
      module _ (nz : slot ≡ 0 → ⊥) where
        takes-this : (j : ℕ) → j < slot → TakesSlot s ds (j + 1) (u.first + 32 * j)
        takes-this j h =
            lt_or_le (j + 1) slot (u.takes j)
            (λ l.
            let e : slot ≡ j + 1 = omega arith in
            let p : n ≡ u.first + 32 * j = omega (arith, u.place) in
            record { byte = byte; waits = rw (← p, ← e) stands })

        least_this : now ≡ least_of (slot_from u.first) (slot - 1)
        least_this =
            let p : n ≡ u.first + 32 * (slot - 1) = omega (arith, u.place, nz) in
            ap₂ least_with u.least (sym this ∙ ap difference p) ∙ least_more (slot_from u.first) (slot - 1)

        own : (m : ℕ) → AtStop m slot → Own ((m, now), n)
        own m whole =
            record {
              first = u.first;
              slot = slot;
              low = omega (arith, nz);
              high = most;
              takes = takes-this;
              told = omega (arith, u.place, nz);
              inside = inside;
              smallest = least_this;
              whole = whole;
            }

        -- the character goes on, or it ends with an event
        goes_on : Under (n + 1) 32 (slot + 1) (Some now)
        goes_on =
            let e : suc (slot - 1) ≡ slot + 1 - 1 = omega (arith, nz) in
            record {
              first = u.first;
              place = omega (arith, u.place);
              takes = λ j h. takes-this j (omega arith);
              least = ap Some least_this ∙ ap (least_before (slot_from u.first)) e;
            }

        goes_report : (event : Event) → AtStop (event_number event) slot → Goes (not (eqb slot 0)) (report event)
        goes_report event whole = rw (ne_eqb slot 0 nz) (record { keeps = refl; tells = more (own (event_number event) whole) none })

        goes_break : AtStop break_begun slot → Goes (not (eqb slot 0)) hold_break
        goes_break whole = rw (ne_eqb slot 0 nz) (record { keeps = refl; tells = more (own break_begun whole) none })

      taken_goes : Goes (not (eqb slot 0)) (taken slot byte d)
      taken_goes =
          taken_case (Goes (not (eqb slot 0))) slot byte d
          (record {
            start = λ z. rw (eq-eqb slot 0 z) (record { keeps = first-ahead (n + 1) 32 1 (omega arith) (omega arith) (start_none z); tells = none });
            no_start = λ z. rw (eq-eqb slot 0 z) (record { keeps = start_none z; tells = none });
            level_lost = λ nz. goes_report nz CarrierLost (λ f g. absurd (f refl));
            bit = λ nz l bit b. rw (ne_eqb slot 0 nz) (record { keeps = goes_on nz; tells = none });
            doubt = λ nz g e. goes_report nz DoubtfulBit (λ f g. absurd (g refl));
            break = λ l g e z. goes_break (λ z. omega arith) (λ f g. omega (arith, most));
            no_stop_told = λ l. goes_report (λ z. omega arith) NoStop (λ f g. omega (arith, most));
            character = λ l. goes_report (λ z. omega arith) (Character byte) (λ f g. omega (arith, most));
          })

    next_goes : (stage : Stage) (run : ℕ) → is_stage stage ≡ true → (here n).control.stage ≡ stage → Before n stage q
        → Goes (takes_bit stage) (next_of stage run d)
    unfolding next_of
    next_goes Searching run h e b =
        cond_case (λ (t : Stage). Goes false (quiet t)) (eqb run 32 && d.space) _ _
        (record { keeps = first-ahead (n + 1) 16 0 (omega arith) (omega arith) b; tells = none })
        (record { keeps = b; tells = none })
    next_goes (Waiting wait slot byte) run h e u =
        cond-split (Goes (eqb (wait - 1) 0 && not (eqb slot 0))) (eqb (wait - 1) 0) _ _
        (λ z.
        let o : wait - 1 ≡ 0 = eqb-true (wait - 1) 0 z in
        let one : wait ≡ 1 = omega (arith, wait_low wait slot (stage_wait wait slot byte h)) in
        rw z
        (taken_goes slot byte (slot-most slot byte (stage-slot wait slot byte h)) (e ∙ ap (λ (w : ℕ). Waiting w slot byte) one) (rw (sym one) u)))
        (λ z.
        let nz : wait - 1 ≡ 0 → ⊥ = eqb-false (wait - 1) 0 z in
        rw z (record { keeps = record { first = u.first; place = omega (arith, u.place, nz); takes = u.takes; least = u.least }; tells = none }))
    next_goes Held run h e b =
        cond_case (λ (t : Stage). Goes false (quiet t)) (ends_break run d) _ _ (record { keeps = b; tells = none }) (record { keeps = b; tells = none })

  -- ---- along the list

  module _ (n : ℕ) (t : Tracked) (d : Decision) (inside : n < length ds) (this : get_or ds n d ≡ d) (stands : here n ≡ t) where
    next : here (n + 1) ≡ tracked_after t d
    unfolding after
    next =
        ap here (add-one n)
        ∙ ap (track s) (take-suc ds n d inside)
        ∙ (run_laws tracked_after measured).after_append s (take n ds) (get_or ds n d ∷ [])
        ∙ ap₂ tracked_after stands this

    its_difference : difference n ≡ d.difference
    its_difference = same d n inside ∙ ap (λ (u : Decision). u.difference) this

    module _ (h : is_control t.control ≡ true) (b : Before n t.control.stage t.smallest) where
      goes : let stage : Stage = t.control.stage in
          Goes n d t.smallest inside its_difference (takes_bit stage) (next_of stage (run_after t.control.run d.good) d)
      goes =
          next_goes n d t.smallest inside its_difference t.control.stage (run_after t.control.run d.good) (control_stage t.control h)
          (ap (λ (u : Tracked). u.control.stage) stands) b

      told : All Own (with_index n (measured t d))
      unfolding measured reported moved_by
      told = goes.tells

      then : Before (n + 1) (tracked_after t d).control.stage (tracked_after t d).smallest
      unfolding tracked_after control_after moved_by
      then = goes.keeps

  -- from decision n on, before which t stands
  along : (n : ℕ) (t : Tracked) (rest : List Decision) → here n ≡ t → drop n ds ≡ rest → is_control t.control ≡ true
      → Before n t.control.stage t.smallest → All Own (measures_from n t rest)
  unfolding indexed tracked_after
  along n t [] stands e h b = none
  along n t (d ∷ rest) stands e h b =
      all_append (told n t d inside this stands h b)
      (along (n + 1) (tracked_after t d) rest (next n t d inside this stands) left (control_kept t.control d h) (then n t d inside this stands h b))
    where
      inside : n < length ds
      inside = let l : length (drop n ds) ≡ suc (length rest) = ap length e in omega (arith, l, length-drop n ds)

      cut : d ∷ rest ≡ get_or ds n d ∷ drop (suc n) ds
      cut = sym e ∙ drop-cons ds n d inside

      this : get_or ds n d ≡ d
      this = sym (head-eq_of_cons-eq cut)

      left : drop (n + 1) ds ≡ rest
      left = ap (λ (k : ℕ). drop k ds) (add-one n) ∙ sym (tail-eq_of_cons-eq cut)

pub events-own : (s : Tracked) (difference : ℕ → ℤ) (ds : List Decision) → EventsOwn s difference ds
unfolding after
events-own s difference ds f same =
    along s difference ds same 0 s ds refl refl f.in_range (start s.control.stage (control_stage s.control f.in_range) f.ahead)
  where
    start : (stage : Stage) → is_stage stage ≡ true → is_gathering stage ≡ false → Before s difference ds same 0 stage s.smallest
    start Searching h g = f.none
    start (Waiting wait slot byte) h g =
        first-ahead s difference ds same 0 wait slot (wait_low wait slot (stage_wait wait slot byte h))
        (let most : slot ≤ 9 = slot-most slot byte (stage-slot wait slot byte h) in search rules) f.none
    start Held h g = f.none
