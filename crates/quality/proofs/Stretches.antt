-- Stretches of decisions of which most do not count, with the smallest difference and the events' differences: a wait, of which the last
-- decision takes the slot, and a search that none of the decisions ends. From the rules of `control`.
-- Assumes nothing.
use mathlib.Core.Path.{◌≡◌, refl, sym, ap, ◌∙◌}
use mathlib.Core.Bool.{Bool, true, false, cond, not}
use mathlib.Core.List.{List, [], ◌∷◌, ◌++◌, map, append-nil}
use Prim.Native.Nat.{ℕ, suc, ◌+◌, ◌-◌, ◌<◌}
use native.Mathlib.Omega.{arith}
use borrow.Author.Tests.{ne_eqb}
use lib.Dec.{eqb}
use lib.IntN.{ℤ}
use lib.ListN.{length}
use Rattle.std.specs.Prelude.{Option}
use Rattle.calls.specs.Runs.{after, indexed, with_index}
use Rattle.calls.proofs.Runs.{run_laws}
use Rattle.calls.proofs.Indexed.{indexed_append}
use Rattle.control.specs.declared.Asked.{Asked}
use Rattle.control.specs.declared.Asked.TheVariants.{Tone, Slot}
use Rattle.control.specs.declared.Decision.{Decision}
use Rattle.control.specs.declared.event.Event.{Event}
use Rattle.control.specs.declared.Next.{Next}
use Rattle.control.specs.declared.Stage.{Stage}
use Rattle.control.specs.declared.Stage.TheVariants.{Searching, Waiting, Held}
use Rattle.control.specs.declared.Control.{Control}
use Rattle.control.specs.Rules.{numbers, quiet, run_after, next_of}
use Rattle.control.specs.AsCoded.{asked_by, run_over, NoneFound}
use Rattle.control.proofs.Rules.{wait_more, IsSearch, control-after, events-reported}
use Rattle.quality.specs.declared.Tracked.{Tracked}
use Rattle.quality.specs.Quality.{least_with, takes_bit, kept_in, tracked_after, measured, track, measures_from}

-- ---- one decision

-- the smallest difference behind a decision with the difference d, which leads from one stage to another
abbrev pub behind : Stage → Option ℤ → ℤ → Stage → Option ℤ
behind stage q d next = cond (takes_bit stage) (kept_in next (least_with q d)) q

-- the numbers of an event, with the difference that it carries
abbrev pub numbers_with : ℤ → Option Event → List (ℕ × ℤ)
numbers_with d e = map (λ n. (n, d)) (numbers e)

-- a state by its parts
abbrev pub tracked : ℕ → Stage → Option ℤ → Tracked
tracked run stage q = record { control = record { run = run; stage = stage }; smallest = q }

module _ (s : Tracked) (d : Decision) (run : ℕ) (n : Next) (er : run ≡ run_after s.control.run d.good)
    (en : n ≡ next_of s.control.stage run d) where
  tracked_after_lem : tracked_after s d ≡ tracked run n.stage (behind s.control.stage s.smallest d.difference n.stage)
  unfolding tracked_after
  tracked_after_lem =
      ap (λ (c : Control). record { control = c; smallest = behind s.control.stage s.smallest d.difference c.stage })
      (control-after s.control d run n er en)

  measured-told : measured s d ≡ numbers_with (least_with s.smallest d.difference) n.event
  unfolding measured
  measured-told = ap (map (λ (m : ℕ). (m, least_with s.smallest d.difference))) (events-reported s.control d run n er en)

-- no slot is taken in a wait that goes on, and none where a stage asks for a tone
waits_on : (wait slot byte : ℕ) → 1 < wait → takes_bit (Waiting wait slot byte) ≡ false
waits_on wait slot byte h = rw (ne_eqb (wait - 1) 0 (λ e. omega arith))

abbrev pub NoSlot : Stage → Asked → Type 0
NoSlot stage (Tone space next) = takes_bit stage ≡ false
NoSlot stage (Slot wait slot byte) = Unit

no_slot-by : (stage : Stage) → NoSlot stage (asked_by stage)
no_slot-by Searching = refl
no_slot-by (Waiting wait slot byte) = tt
no_slot-by Held = refl

pub no_slot : (stage : Stage) (a : Asked) → a ≡ asked_by stage → NoSlot stage a
no_slot stage a e = rw e (no_slot-by stage)

-- what the code says of a slot that is taken
pub slot-behind : (slot byte : ℕ) (q : Option ℤ) (d : ℤ) (next : Stage)
    → cond (eqb slot 0) q (kept_in next (least_with q d)) ≡ behind (Waiting 1 slot byte) q d next
slot-behind slot byte q d next = go (eqb slot 0)
  where
    go : (b : Bool) → cond b q (kept_in next (least_with q d)) ≡ cond (not b) (kept_in next (least_with q d)) q
    go true = refl
    go false = refl

-- ---- where a list of decisions leads

-- from s to a run, a stage and a smallest difference, with these events, where the first decision has the index k
pub record Leads (k : ℕ) (s : Tracked) (ds : List Decision) (run : ℕ) (stage : Stage) (q : Option ℤ) (events : List ((ℕ × ℤ) × ℕ)) : Type 0 where
  pub state : track s ds ≡ tracked run stage q
  pub told : measures_from k s ds ≡ events

-- one decision behind others that tell nothing
module _ {k : ℕ} {s : Tracked} {ds : List Decision} {run : ℕ} {stage : Stage} {q : Option ℤ} where
  pub lead_more : (d : Decision) (n : Next) → n ≡ next_of stage (run_after run d.good) d → Leads k s ds run stage q []
      → Leads k s (ds ++ d ∷ []) (run_after run d.good) n.stage (behind stage q d.difference n.stage)
      (with_index (k + length ds) (numbers_with (least_with q d.difference) n.event))
  unfolding after indexed
  lead_more d n en l =
      let here : Tracked = tracked run stage q in
      let run' : ℕ = run_after run d.good in
      record {
        state =
            (run_laws tracked_after measured).after_append s ds (d ∷ [])
            ∙ ap (λ (u : Tracked). tracked_after u d) l.state
            ∙ tracked_after_lem here d run' n refl en;
        told =
            indexed_append tracked_after measured k s ds (d ∷ [])
            ∙ (λ i. l.told i ++ (with_index (k + length ds) (measured (l.state i) d) ++ []))
            ∙ append-nil (with_index (k + length ds) (measured here d))
            ∙ ap (with_index (k + length ds)) (measured-told here d run' n refl en);
      }

-- one decision before others, which takes no data or stop slot and tells nothing
module _ (k run : ℕ) (stage : Stage) (none : takes_bit stage ≡ false) (q : Option ℤ) (stage' : Stage) (d : Decision) (ds : List Decision)
    (e : next_of stage (run_after run d.good) d ≡ quiet stage') where
  lead_next : {run'' : ℕ} {stage'' : Stage} {q'' : Option ℤ} {events : List ((ℕ × ℤ) × ℕ)}
      → Leads (k + 1) (tracked (run_after run d.good) stage' q) ds run'' stage'' q'' events → Leads k (tracked run stage q) (d ∷ ds) run'' stage'' q'' events
  unfolding after indexed
  lead_next l =
      let here : Tracked = tracked run stage q in
      let run' : ℕ = run_after run d.good in
      let one : tracked_after here d ≡ tracked run' stage' q =
      tracked_after_lem here d run' (quiet stage') refl (sym e)
      ∙ ap (λ (b : Bool). tracked run' stage' (cond b (kept_in stage' (least_with q d.difference)) q)) none in
      record {
        state = ap (λ (u : Tracked). track u ds) one ∙ l.state;
        told =
            (λ i. with_index k (measured-told here d run' (quiet stage') refl (sym e) i) ++ measures_from (k + 1) (one i) ds)
            ∙ l.told;
      }

-- a wait, before its last decision
pub waits : (k run wait slot byte : ℕ) (q : Option ℤ) (ds : List Decision) → length ds < wait
    → Leads k (tracked run (Waiting wait slot byte) q) ds (run_over run ds) (Waiting (wait - length ds) slot byte) q []
unfolding after indexed
waits k run wait slot byte q [] h =
    let e : wait - 0 ≡ wait = omega arith in
    rw e (record { state = refl; told = refl })
waits k run wait slot byte q (d ∷ ds) h =
    let e : wait - suc (length ds) ≡ wait - 1 - length ds = omega arith in
    rw e
    (lead_next k run (Waiting wait slot byte) (waits_on wait slot byte (omega arith)) q (Waiting (wait - 1) slot byte) d ds
    (wait_more (run_after run d.good) d wait slot byte (omega arith))
    (waits (k + 1) (run_after run d.good) (wait - 1) slot byte q ds (omega arith)))

-- a search that none of them ends
module _ {space : Bool} {stage next : Stage} (s : IsSearch space stage next) (none : takes_bit stage ≡ false) (q : Option ℤ) where
  pub searches : (k run : ℕ) (ds : List Decision) → NoneFound space run ds → Leads k (tracked run stage q) ds (run_over run ds) stage q []
  unfolding after indexed NoneFound
  searches k run [] h = record { state = refl; told = refl }
  searches k run (d ∷ ds) h =
      lead_next k run stage none q stage d ds (s.step (run_after run d.good) d ∙ rw h.0) (searches (k + 1) (run_after run d.good) ds h.1)
