-- The slots of an event by the recording: from what `quality` says of lists of decisions, and the decisions of a list of samples.
-- Assumes nothing.
use mathlib.Core.Path.{◌≡◌, refl, sym, ap, ◌∙◌, subst}
use mathlib.Core.Bool.{true}
use mathlib.Core.List.{List, [], ◌∷◌, ◌++◌}
use Prim.Native.Nat.{ℕ, zero, suc, ◌+◌, ◌*◌}
use native.Mathlib.Omega.{arith}
use lib.IntN.{ℤ, pos}
use lib.ListN.{length, take, drop, length-append, length-take}
use lib.Seq.{take-nil, take-append-add, take-take}
use Rattle.integers.specs.All.{All, none, more}
use Rattle.integers.proofs.Tests.{lt_or_le}
use Rattle.calls.proofs.Indexed.{indexed_values}
use Rattle.tones.specs.Bands.{is_band, tones_of}
use Rattle.control.specs.declared.Decision.{Decision}
use Rattle.weighing.proofs.Laws.{apart-ℕ}
use Rattle.quality.specs.declared.Tracked.{Tracked}
use Rattle.quality.specs.Quality.{track, measures_from}
use Rattle.quality.specs.Slots as slots
use Rattle.quality.proofs.Slots.{events-own}
use Rattle.receiver.specs.declared.Receiver.{Receiver}
use Rattle.receiver.specs.Energy.{energyℕ, decision_of}
use Rattle.receiver.specs.Windows.{decisions}
use Rattle.receiver.specs.Step.{tracked_of, after_sample, measured_at, state_after, indexed_after}
use Rattle.receiver.specs.Calls.{fresh}
use Rattle.receiver.specs.Lists.{Call, samples_read}
use Rattle.receiver.proofs.Energies.{decision_ℕ}
use Rattle.receiver.proofs.Ranges.{in_range_lem, fresh_kept}
use Rattle.receiver.proofs.Windows.{decisions-none, decisions-more, decisions-at, length-decisions, decisions_over, by_windows}
use Rattle.receiver.proofs.Lists.{one_reading}
use Rattle.differences.specs.Differences.{window_at, difference_at, TakenAt, OfItsSlots, OwnSlots}

-- the decisions of the first 31 + n samples are the first n
decisions-take : (decide : List ℤ → Decision) (n : ℕ) (zs : List ℤ) → decisions decide (take (31 + n) zs) ≡ take n (decisions decide zs)
decisions-take decide zero zs = decisions-none decide (take 31 zs) (omega (arith, length-take 31 zs))
decisions-take decide (suc n) [] = ap (decisions decide) (take-nil (31 + suc n)) ∙ no_window ∙ sym (ap (take (suc n)) no_window)
  where
    no_window : decisions decide [] ≡ []
    no_window = decisions-none decide [] (omega arith)
decisions-take decide (suc n) (z ∷ zs) =
    let e : 31 + suc n ≡ suc (31 + n) = omega arith in
    ap (λ (k : ℕ). decisions decide (take k (z ∷ zs))) e
    ∙ lt_or_le (length zs) 31
    (λ h.
    decisions-none decide (z ∷ take (31 + n) zs) (omega (arith, length-take (31 + n) zs))
    ∙ sym (ap (take (suc n)) (decisions-none decide (z ∷ zs) (omega arith))))
    (λ h.
    decisions-more decide (z ∷ take (31 + n) zs) (omega (arith, length-take (31 + n) zs))
    ∙ ap (λ (w : List ℤ). decide (z ∷ w) ∷ decisions decide (take (31 + n) zs)) (take-take 31 (31 + n) zs (omega arith))
    ∙ ap (λ (ds : List Decision). decide (take 32 (z ∷ zs)) ∷ ds) (decisions-take decide n zs)
    ∙ ap (take (suc n)) (sym (decisions-more decide (z ∷ zs) (omega arith))))

-- ---- samples that a fresh receiver reads

module _ (band : ℕ) (known : is_band band ≡ true) (xs : List ℤ) where
  abbrev s : Receiver
  s = fresh band

  abbrev ds : List Decision
  ds = decisions_over s xs

  abbrev old : List ℤ
  old = drop 1 s.window

  long : length ds ≡ length xs
  long = omega (arith, length-decisions (decision_of (tones_of band)) (old ++ xs), length-append old xs)

  -- the state after the first i samples is that after the first i decisions
  state-at : (i : ℕ) → tracked_of (state_after s (take i xs)) ≡ track (tracked_of s) (take i ds)
  state-at i =
      (by_windows s (take i xs) refl).tracked
      ∙ ap (λ (zs : List ℤ). track (tracked_of s) (decisions (decision_of (tones_of band)) zs)) (sym (take-append-add old xs i))
      ∙ ap (track (tracked_of s)) (decisions-take (decision_of (tones_of band)) i (old ++ xs))

  -- the difference of decision i is that of the window which ends with sample i
  difference_at_lem : slots.Differences (λ i. pos (difference_at band xs i)) ds
  difference_at_lem d i h =
      let w : List ℤ = window_at band xs i in
      sym
      (ap (λ (u : Decision). u.difference)
      (decisions-at (decision_of (tones_of band)) i (old ++ xs) d (omega (arith, long, length-append old xs)) ∙ decision_ℕ (tones_of band) w)
      ∙ apart-ℕ (energyℕ w (tones_of band).space) (energyℕ w (tones_of band).mark))

  none-taken : slots.NoneTaken (tracked_of s)
  none-taken = record { in_range = (in_range_lem s (fresh_kept band known)).control; none = refl; ahead = refl }

  taken_at : (slot i : ℕ) → slots.TakesSlot (tracked_of s) ds slot i → TakenAt band xs slot i
  taken_at slot i t = record { byte = t.byte; waits = ap (λ (u : Tracked). u.control.stage) (state-at i) ∙ t.waits }

  own : (e : (ℕ × ℤ) × ℕ) → slots.OwnSlots (tracked_of s) (λ i. pos (difference_at band xs i)) ds e → OfItsSlots band xs e
  own e o =
      record {
        first = o.first;
        slots = o.slot;
        some = o.low;
        most = o.high;
        taken = λ j l. taken_at (j + 1) (o.first + 32 * j) (o.takes j l);
        last = o.told;
        inside = omega (arith, o.inside, long);
        smallest = o.smallest;
        whole = o.whole;
      }

  all_own : (es : List ((ℕ × ℤ) × ℕ)) → All (slots.OwnSlots (tracked_of s) (λ i. pos (difference_at band xs i)) ds) es → All (OfItsSlots band xs) es
  all_own [] none = none
  all_own (e ∷ es) (more o os) = more (own e o) (all_own es os)

  pub of_its_slots : All (OfItsSlots band xs) (indexed_after s xs)
  of_its_slots =
      subst (All (OfItsSlots band xs)) (sym ((by_windows s xs refl).indexed 0))
      (all_own (measures_from 0 (tracked_of s) ds) (events-own (tracked_of s) (λ i. pos (difference_at band xs i)) ds none-taken difference_at_lem))

-- ---- lists of calls

pub own_slots : (band : ℕ) → is_band band ≡ true → (calls : List Call) → OwnSlots band calls
own_slots band known calls =
    let xs : List ℤ = samples_read (fresh band) calls in
    record {
      read = (one_reading (fresh band) calls).measured ∙ sym (indexed_values after_sample measured_at 0 (fresh band) xs);
      own = of_its_slots band known xs;
    }
