-- The numbers of a state stand for that state, and a stage out of its range is refused. And what a block call on numbers gives, from what
-- an entry of the receiver gives.
-- Assumes nothing.
use mathlib.Core.Path.{◌≡◌, refl, ap, ◌∙◌}
use mathlib.Core.Bool.{false, and-false}
use mathlib.Core.List.{List}
use Prim.Native.Nat.{ℕ, ◌≤◌}
use native.Mathlib.Omega.{arith}
use borrow.Author.Tests.{ne_eqb}
use lib.Dec.{eqb}
use lib.IntN.{ℤ}
use Rattle.std.specs.Prelude.{Option, Some, None}
use Rattle.calls.specs.declared.Answered.{Answered}
use Rattle.calls.specs.Outcome.{Outcome, answer_of, as_answer, outcome, refused}
use Rattle.control.specs.declared.Stage.{Stage}
use Rattle.control.specs.declared.Stage.TheVariants.{Searching, Waiting, Held}
use Rattle.control.specs.Ranges.{is_stage, is_control}
use Rattle.quality.specs.Quality.{is_kept}
use Rattle.receiver.specs.declared.Receiver.{Receiver}
use Rattle.receiver.specs.Calls.{in_range, EventLists, block_of}
use Rattle.receiving.specs.declared.State.{State}
use Rattle.receiving.specs.declared.Block.{Block}
use Rattle.receiving.specs.Numbers.{stage_numbers, stage_of, difference_numbers, difference_of, numbers_of, receiver_of, reading_numbers, outcome_numbers, block_numbers}

-- what one call gives, the next one takes for the same state
stage-stored : (s : Stage) → (let n = stage_numbers s in stage_of n.0 n.1 n.2 n.3) ≡ s
stage-stored Searching = refl
stage-stored (Waiting wait slot byte) = refl
stage-stored Held = refl

difference_stored : (q : Option ℤ) → (let d = difference_numbers q in difference_of d.0 d.1) ≡ q
difference_stored None = refl
difference_stored (Some least) = refl

pub state-stored : (s : Receiver) → receiver_of (numbers_of s) ≡ s
state-stored s i =
    record {
      band = s.band;
      window = s.window;
      run = s.run;
      stage = stage-stored s.stage i;
      smallest = difference_stored s.smallest i;
    }

-- a stage number above 2 is refused with 2, and the state comes back as it was handed
pub stage-refused : (n : State) (xs : List ℤ) (lent : EventLists) → 3 ≤ n.stage → block_numbers n xs lent ≡ refused 2 n lent
unfolding block_of in_range is_control is_stage
stage-refused n xs lent h =
    let other : (k : ℕ) → k ≤ 2 → eqb n.stage k ≡ false = λ k l. ne_eqb n.stage k (λ e. omega arith) in
    simp (other 0 (omega arith), other 1 (omega arith), other 2 (omega arith), and-false)

-- so is a number above 1 for whether there is a difference
pub difference_refused : (n : State) (xs : List ℤ) (lent : EventLists) → 2 ≤ n.measured → block_numbers n xs lent ≡ refused 2 n lent
unfolding block_of in_range is_kept
difference_refused n xs lent h =
    let other : (k : ℕ) → k ≤ 1 → eqb n.measured k ≡ false = λ k l. ne_eqb n.measured k (λ e. omega arith) in
    simp (other 0 (omega arith), other 1 (omega arith), and-false)

-- An entry is called with the state of the numbers n and gives r; what is handed back of r is the call on n.
module _ {L : Type 0} (n : State) (call : Receiver → Outcome Receiver L) (r : Answered Receiver ℕ) {s : Receiver} {now : L} {b : Block} where
  pub stored : s ≡ receiver_of n → outcome (as_answer r.answer) r.state now ≡ call s → b ≡ reading_numbers r n
      → outcome (answer_of b.number b.count) b.receiver now ≡ outcome_numbers n (call (receiver_of n))
  stored made read kept =
      ap (λ (k : Block). outcome (answer_of k.number k.count) k.receiver now) kept ∙ ap (outcome_numbers n) (read ∙ ap call made)
