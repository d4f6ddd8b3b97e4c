-- The reading of a block's windows from place to place: what holds at each place, and at the end. From the laws of places and those of lists
-- that are filled.
-- Assumes nothing.
use Rattle.std.proofs.Common.{rules}
use mathlib.Core.Path.{◌≡◌, sym, ap, ◌∙◌}
use mathlib.Core.Bool.{true}
use mathlib.Core.List.{List, [], ◌++◌, map, map-append}
use Prim.Native.Nat.{ℕ, ◌+◌, ◌-◌, ◌≤◌, zero-le}
use native.Mathlib.Omega.{arith}
use Rattle.std.proofs.Common.{take-append-drop}
use lib.IntN.{ℤ}
use lib.ListN.{length, take, drop, length-append, length-map}
use lib.Seq.{sets, length-sets, take_all, slice, length-take-le}
use Rattle.integers.proofs.Lists.{slice-join, sets_append}
use Rattle.calls.specs.Runs.{after, indexed, with_index}
use Rattle.calls.proofs.Runs.{run_laws}
use Rattle.calls.proofs.Indexed.{indexed_append}
use Rattle.control.specs.declared.Decision.{Decision}
use Rattle.control.specs.Ranges.{is_control}
use Rattle.control.proofs.Ranges.{control-run, follow_kept}
use Rattle.quality.specs.declared.Tracked.{Tracked}
use Rattle.quality.specs.Quality.{tracked_after, measured, track, measures_from}
use Rattle.quality.proofs.Laws.{control_part}
use Rattle.receiver.specs.declared.place.Place.{Place}
use Rattle.receiver.specs.declared.filling.Lists.{Lists}
use Rattle.receiver.specs.declared.scan.Standing.{Standing}
use Rattle.receiver.specs.declared.scan.Turn.{Turn}
use Rattle.receiver.specs.Lent.{told_by, numbers_told, differences_told, Put}
use Rattle.receiver.specs.AsCoded.{IsPlace, state_at, exactly, Onward}
use Rattle.receiver.proofs.Places.{place_exact, run_exact}

-- ---- lists that are filled

pub put_none : (l : Lists) → Put l l []
put_none l = search rules

-- one side of events put behind others
side_more : {A : Type 0} (f : (ℕ × ℤ) × ℕ → A) (xs ys : List ((ℕ × ℤ) × ℕ)) (l m n : List A) (i j : ℕ) → j ≡ i + length xs
    → m ≡ sets l i (map f xs) → n ≡ sets m j (map f ys) → n ≡ sets l i (map f (xs ++ ys))
side_more f xs ys l m n i j e a b =
    b
    ∙ ap (λ (k : ℕ). sets m k (map f ys)) (e ∙ ap (λ (k : ℕ). i + k) (sym (length-map xs f)))
    ∙ ap (λ (u : List _). sets u (i + length (map f xs)) (map f ys)) a
    ∙ sym (sets_append l i (map f xs) (map f ys))
    ∙ ap (sets l i) (sym (map-append f xs ys))

pub put_more : {l m n : Lists} {xs ys : List ((ℕ × ℤ) × ℕ)} → Put l m xs → Put m n ys → Put l n (xs ++ ys)
put_more {l} {m} {n} {xs} {ys} a b =
    record {
      count = omega (arith, a.count, b.count, length-append xs ys);
      events = side_more (λ (e : (ℕ × ℤ) × ℕ). e.0.0) xs ys _ _ _ _ _ a.count a.events b.events;
      differences = side_more (λ (e : (ℕ × ℤ) × ℕ). e.0.1) xs ys _ _ _ _ _ a.count a.differences b.differences;
      indices = side_more (λ (e : (ℕ × ℤ) × ℕ). e.1) xs ys _ _ _ _ _ a.count a.indices b.indices;
      same =
          record {
            events = b.same.events ∙ a.same.events;
            differences = b.same.differences ∙ a.same.differences;
            indices = b.same.indices ∙ a.same.indices;
          };
    }

-- ---- from place to place

module _ (ds : List Decision) (c : Tracked) where
  -- what the first n decisions lead to, and the events that they bring
  abbrev track_to : ℕ → Tracked
  track_to n = track c (take n ds)

  abbrev told_to : ℕ → List ((ℕ × ℤ) × ℕ)
  told_to n = measures_from 0 c (take n ds)

  -- the reading has come to `at`, and the events so far are put to the lists
  pub record Scanning (start now : Lists) (at : Standing) : Type 0 where
    pub place : IsPlace ds at.place
    pub reached : state_at ds at ≡ track_to at.place.next
    pub told : Put start now (told_to at.place.next)

  pub scanning_start : is_control c.control ≡ true → (l : Lists) (place : Place) → place ≡ exactly 0 c.control.run
      → Scanning l l (record { place = place; stage = c.control.stage; smallest = c.smallest })
  unfolding after indexed
  scanning_start h l place e =
      let run : ℕ = c.control.run in
      rw e
      (record {
        place = place_exact ds 0 run zero-le (control-run c.control h);
        reached = λ i. record { control = record { run = run_exact ds 0 run i; stage = c.control.stage }; smallest = c.smallest };
        told = put_none l;
      })

  -- ---- at a place

  module _ {start now : Lists} {at : Standing} (s : Scanning start now at) where
    abbrev n : ℕ
    n = at.place.next

    front_long : length (take n ds) ≡ n
    front_long = length-take-le n ds s.place.inside

    pub scanning_control : is_control c.control ≡ true → is_control (state_at ds at).control ≡ true
    scanning_control h =
        ap (λ (u : Tracked). is_control u.control) s.reached ∙ ap is_control (control_part c (take n ds)) ∙ follow_kept c.control (take n ds) h

    -- ---- read on

    module _ (t : Turn) (o : Onward ds at t) where
      abbrev m : ℕ
      m = t.to.place.next

      abbrev gone : List Decision
      gone = slice n m ds

      abbrev new : List ((ℕ × ℤ) × ℕ)
      new = with_index (m - 1) (told_by t.told)

      front_more : take m ds ≡ take n ds ++ gone
      front_more = slice-join ds 0 n m zero-le (omega (arith, o.later)) s.place.inside

      track_more : track_to m ≡ state_at ds t.to
      track_more =
          ap (track c) front_more
          ∙ (run_laws tracked_after measured).after_append c (take n ds) gone
          ∙ ap (λ (u : Tracked). track u gone) (sym s.reached)
          ∙ o.state

      told_more : told_to m ≡ told_to n ++ new
      told_more =
          let at_n : 0 + length (take n ds) ≡ n = omega (arith, front_long) in
          ap (measures_from 0 c) front_more
          ∙ indexed_append tracked_after measured 0 c (take n ds) gone
          ∙ (λ i. told_to n ++ measures_from (at_n i) (sym s.reached i) gone)
          ∙ ap (λ (l : List ((ℕ × ℤ) × ℕ)). told_to n ++ l) o.events

      pub scanning_more : {then : Lists} → Put now then new → Scanning start then t.to
      scanning_more a = record { place = o.place; reached = sym track_more; told = rw told_more (put_more s.told a) }

      -- the events of the turn are among all
      new_long : now.count + length (told_by t.told) ≤ start.count + length (measures_from 0 c ds)
      new_long =
          let rest : List ((ℕ × ℤ) × ℕ) = measures_from (0 + length (take m ds)) (track_to m) (drop m ds) in
          let all : measures_from 0 c ds ≡ told_to m ++ rest =
          ap (measures_from 0 c) (sym (take-append-drop m ds)) ∙ indexed_append tracked_after measured 0 c (take m ds) (drop m ds) in
          omega (
            arith,
            s.told.count,
            ap length all,
            length-append (told_to m) rest,
            ap length told_more,
            length-append (told_to n) new,
            length-map {B = (ℕ × ℤ) × ℕ} (told_by t.told) (λ e. (e, m - 1)),
          )

      pub scanning_room : start.count + length (measures_from 0 c ds) ≤ length start.events.now
          → now.count + length (told_by t.told) ≤ length now.events.now
      scanning_room h = omega (arith, new_long, ap length s.told.events, length-sets start.events.now start.count (numbers_told (told_to n)))

      pub scanning_room_differences : start.count + length (measures_from 0 c ds) ≤ length start.differences.now
          → now.count + length (told_by t.told) ≤ length now.differences.now
      scanning_room_differences h =
          omega (arith, new_long, ap length s.told.differences, length-sets start.differences.now start.count (differences_told (told_to n)))

    -- ---- no window is left

    module _ (h : length ds ≤ n) where
      all_gone : take n ds ≡ ds
      all_gone = take_all n ds h

      pub scanning_reached : state_at ds at ≡ track c ds
      scanning_reached = s.reached ∙ ap (track c) all_gone

      pub scanning_told : Put start now (measures_from 0 c ds)
      scanning_told = rw all_gone at s.told
