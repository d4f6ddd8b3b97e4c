-- One decision moves run and stage: the form in which every later proof uses the step rule. From the case laws of `control`.
-- Assumes nothing.
use mathlib.Core.Path.{◌≡◌, refl, sym, ap, ◌∙◌, subst}
use mathlib.Core.Bool.{true}
use mathlib.Core.List.{List, ◌∷◌, ◌++◌}
use Prim.Native.Nat.{ℕ, suc}
use native.Mathlib.Nat.{le_refl}
use native.Mathlib.Numerals.{sub-one}
use native.Mathlib.Omega.{arith}
use Rattle.control.specs.declared.Decision.{Decision}
use Rattle.control.specs.declared.event.Event.TheVariants.{Character}
use Rattle.control.specs.declared.Next.{Next}
use Rattle.control.specs.declared.Stage.{Stage}
use Rattle.control.specs.declared.Stage.TheVariants.{Searching, Waiting}
use Rattle.control.specs.declared.Control.{Control}
use Rattle.control.specs.Rules.{numbers, quiet, report, run_after, bit_of, next_of, control_after, reported}
use Rattle.control.proofs.Rules.{control-after, events-reported, search_found, search_mark, wait_more, wait_taken, run_full, stop_mark}
use Rattle.margin.specs.Windows.{is_space}

abbrev pub at : ℕ → Stage → Control
at run stage = record { run = run; stage = stage }

-- a good level that reads a bit: all that is asked of a decision but at a data or stop slot
pub record Reads (d : Decision) (bit : ℕ) : Type 0 where
  pub good : d.good ≡ true
  pub space : d.space ≡ is_space bit

-- a good level with a bit that is not doubtful, for these slots
pub record Clear (d : Decision) (bit : ℕ) : Type 0 where
  pub good : d.good ≡ true
  pub weighed : d.bit ≡ bit_of bit

-- what holds of a state and of the events that are still to come
abbrev pub Invariant : Type 1
Invariant = Control → List ℕ → Type 0

-- The decision d takes s to a state with P, and of the events X that are still to come it leaves `due`.
pub record Moves (P : Invariant) (s : Control) (d : Decision) (X : List ℕ) : Type 0 where
  pub due : List ℕ
  pub split : X ≡ reported s d ++ due
  pub holds : P (control_after s d) due

-- it takes every state with P to one with Q
abbrev pub Keeps : Invariant → Decision → Invariant → Type 0
Keeps P d Q = (s : Control) (X : List ℕ) → P s X → Moves Q s d X

pub moves : {P : Invariant} (s : Control) (d : Decision) (run : ℕ) (n : Next) {X : List ℕ} (due : List ℕ)
    → run ≡ run_after s.run d.good → next_of s.stage run d ≡ n → X ≡ numbers n.event ++ due → P (at run n.stage) due
    → Moves P s d X
moves {P} s d run n due er en e p =
    record {
      due = due;
      split = e ∙ ap (λ (l : List ℕ). l ++ due) (sym (events-reported s d run n er (sym en)));
      holds = subst (λ (c : Control). P c due) (sym (control-after s d run n er (sym en))) p;
    }

-- a state with P has Q
pub moves_on : {P Q : Invariant} {s : Control} {d : Decision} {X : List ℕ} → ((c : Control) (Y : List ℕ) → P c Y → Q c Y)
    → Moves P s d X → Moves Q s d X
moves_on {s = s} {d = d} f m = record { due = m.due; split = m.split; holds = f (control_after s d) m.due m.holds }

-- without an event
pub quietly : {P : Invariant} (d : Decision) {run : ℕ} (stage next : Stage) {X : List ℕ}
    → next_of stage (run_after run d.good) d ≡ quiet next → P (at (run_after run d.good) next) X → Moves P (at run stage) d X
quietly d {run} stage next {X} q p = moves (at run stage) d (run_after run d.good) (quiet next) X refl q refl p

-- it waits on, whatever is decided
pub waits : {P : Invariant} (d : Decision) {run : ℕ} (after : ℕ) → after ≡ run_after run d.good → (wait slot byte : ℕ) {X : List ℕ}
    → P (at after (Waiting (suc wait) slot byte)) X → Moves P (at run (Waiting (suc (suc wait)) slot byte)) d X
waits d {run} after e wait slot byte {X} p =
    moves (at run (Waiting (suc (suc wait)) slot byte)) d after (quiet (Waiting (suc wait) slot byte)) X e
    (wait_more after d (suc (suc wait)) slot byte (omega arith) ∙ ap (λ (n : ℕ). quiet (Waiting n slot byte)) (sub-one (suc (suc wait)))) refl p

-- ---- with a full run and a good level

pub full : (d : Decision) → d.good ≡ true → 32 ≡ run_after 32 d.good
full d g = rw g (sym (run_full 32 (le_refl 32)))

pub goes : {P : Invariant} (d : Decision) → d.good ≡ true → (stage : Stage) (n : Next) (due : List ℕ)
    → next_of stage 32 d ≡ n → P (at 32 n.stage) due → Moves P (at 32 stage) d (numbers n.event ++ due)
goes d g stage n due q p = moves (at 32 stage) d 32 n due (full d g) q refl p

-- a mark keeps the search going, space ends it, and a mark as the stop bit gives the byte
pub searches : {P : Invariant} (d : Decision) → Reads d 1 → {X : List ℕ} → P (at 32 Searching) X → Moves P (at 32 Searching) d X
searches d r {X} p = goes d r.good Searching (quiet Searching) X (search_mark 32 d r.space) p

pub finds : {P : Invariant} (d : Decision) → Reads d 0 → {X : List ℕ} → P (at 32 (Waiting 16 0 0)) X → Moves P (at 32 Searching) d X
finds d r {X} p = goes d r.good Searching (quiet (Waiting 16 0 0)) X (search_found 32 d refl r.space) p

pub stops : {P : Invariant} (d : Decision) → Clear d 1 → (byte : ℕ) {X : List ℕ} → P (at 32 Searching) X
    → Moves P (at 32 (Waiting 1 9 byte)) d (byte ∷ X)
stops d r byte {X} p =
    goes d r.good (Waiting 1 9 byte) (report (Character byte)) X
    (wait_taken 32 d 1 9 byte refl ∙ stop_mark byte d 9 (λ z. omega arith) r.good (omega arith) r.weighed) p
