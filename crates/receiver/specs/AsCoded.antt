-- A block as the code reads it, which judges only the windows that something asks for: the decisions of its windows, places among them with
-- what is known of the run there, and how a search or a wait goes on from one place to another. Nothing here, in Weighed or in Lent has to be
-- believed to read the contracts of the public calls. The definitions are ours.
-- Assumes nothing.
use Rattle.std.specs.Prelude.{◌≡◌, Bool, false, true, cond, List, map, ℕ, ◌+◌, ◌-◌, ◌<◌, ◌≤◌, leb, eqb, ℤ, length, None}
use Rattle.std.proofs.lemmas.List.Edits.{sets}
use Rattle.std.proofs.Math.Seq.{slice}
use Rattle.calls.specs.Refusals.{first_of}
use Rattle.calls.specs.Outcome.{Outcome, unless_refused, accepted_in}
use Rattle.calls.specs.Runs.{with_index}
use Rattle.control.specs.declared.Decision.{Decision}
use Rattle.control.specs.declared.Stage.{Stage}
use Rattle.control.specs.declared.Control.{Control}
use Rattle.control.specs.AsCoded.{is_found, run_over, NoneFound}
use Rattle.quality.specs.declared.Tracked.{Tracked}
use Rattle.quality.specs.Quality.{track, measures_from}
use Rattle.receiver.specs.declared.place.Place.{Place}
use Rattle.receiver.specs.declared.source.Source.{Source}
use Rattle.receiver.specs.declared.seek.Sought.{Sought}
use Rattle.receiver.specs.declared.scan.Turn.{Turn}
use Rattle.receiver.specs.declared.scan.Standing.{Standing}
use Rattle.receiver.specs.declared.Receiver.{Receiver}
use Rattle.receiver.specs.Step.{state_after, measured_after, indexed_after}
use Rattle.receiver.specs.Calls.{EventLists, two_lists, block_tests}
use Rattle.receiver.specs.Windows.{decisions}
use Rattle.receiver.specs.Weighed.{decision_by, recorded, judged}
use Rattle.receiver.specs.Lent.{told_by}

-- ---- the windows of a block

-- their decisions; window i ends with sample i
abbrev pub decisions_in : Source → List Decision
decisions_in s = decisions (decision_by s.bank) (recorded s.head s.samples.now)

-- ---- places

-- what is known at a place
pub record IsPlace (ds : List Decision) (p : Place) : Type 0 where
  pub based : p.known ≤ p.since
  pub passed : p.since ≤ p.next
  pub inside : p.next ≤ length ds
  pub low : p.ran ≤ 32
  pub level : (i : ℕ) → p.since ≤ i → i < p.next → (judged ds i).good ≡ true

-- the run before decision i, by what is known at the place, and the run at the place
abbrev pub run_before : List Decision → Place → ℕ → ℕ
run_before ds p i = run_over p.ran (slice p.known i ds)

abbrev pub run_at : List Decision → Place → ℕ
run_at ds p = run_before ds p p.next

abbrev pub control_at : List Decision → Place → Stage → Control
control_at ds p stage = record { run = run_at ds p; stage = stage }

abbrev pub state_at : List Decision → Standing → Tracked
state_at ds at = record { control = control_at ds at.place at.stage; smallest = at.smallest }

-- before decision i, where the run is known
abbrev pub exactly : ℕ → ℕ → Place
exactly i run = record { next = i; known = i; ran = run; since = i }

-- before decision i, where the run is known as at p
abbrev pub moved_to : Place → ℕ → ℕ → Place
moved_to p i since = record { next = i; known = p.known; ran = p.ran; since = since }

-- at the first decision from p on after which the run can be 32
abbrev pub skipped : Place → Place
skipped p = let first : ℕ = p.known + (31 - p.ran) in cond (leb first p.next) p (moved_to p first first)

-- ---- from one place to another

-- A search for a tone went on from the place p: none of the decisions before the last one ends it, and `found` says whether the last does.
pub record Seeks (ds : List Decision) (p : Place) (space : Bool) (s : Sought) : Type 0 where
  pub later : p.next < s.place.next
  pub place : IsPlace ds s.place
  pub run : run_at ds s.place ≡ run_before ds p s.place.next
  pub none : NoneFound space (run_at ds p) (slice p.next (s.place.next - 1) ds)
  pub last : s.found ≡ is_found space (run_at ds s.place) (judged ds (s.place.next - 1))

abbrev pub missed_at : Place → Sought
missed_at p = record { place = p; found = false }

-- a turn that tells nothing
abbrev pub quiet_at : Standing → Turn
quiet_at to = record { to = to; told = None }

-- what a search comes to: the stage `next` if it is found, and else it goes on; the difference stays as it is, and nothing is told
abbrev pub sought_to : Sought → Standing → Stage → Turn
sought_to s from next =
    quiet_at (record { place = s.place; stage = cond s.found next from.stage; smallest = from.smallest })

-- Reading on comes to where t stands, and brings what t tells, with the last decision.
pub record Onward (ds : List Decision) (from : Standing) (t : Turn) : Type 0 where
  pub later : from.place.next < t.to.place.next
  pub place : IsPlace ds t.to.place
  pub state : track (state_at ds from) (slice from.place.next t.to.place.next ds) ≡ state_at ds t.to
  pub events : measures_from from.place.next (state_at ds from) (slice from.place.next t.to.place.next ds)
      ≡ with_index (t.to.place.next - 1) (told_by t.told)

-- ---- what is told

-- the numbers of events and their differences
abbrev pub numbers_of : List (ℕ × ℤ) → List ℕ
numbers_of = map (λ (e : ℕ × ℤ). e.0)

abbrev pub differences_of : List (ℕ × ℤ) → List ℤ
differences_of = map (λ (e : ℕ × ℤ). e.1)

-- ---- a call

-- a block call in which so many places of the lists count
abbrev pub block_in : Receiver → List ℤ → ℕ → EventLists → Outcome Receiver EventLists
block_in s xs places lent =
    unless_refused (block_tests s xs places) s lent (accepted_in two_lists (state_after s xs) (measured_after s xs) lent)

-- the list of indices that it leaves
abbrev pub indices_in : Receiver → List ℤ → ℕ → List ℕ → List ℕ
indices_in s xs places ix =
    cond (eqb (first_of (block_tests s xs places)) 0) (sets ix 0 (map (λ (e : (ℕ × ℤ) × ℕ). e.1) (indexed_after s xs))) ix
