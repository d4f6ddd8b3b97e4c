-- A receiver's state as numbers, in a form that is ours (decision 22), and the calls on them: the specification, "Reader, step by step"
-- and "Refused calls".
-- Assumes nothing.
use Rattle.std.specs.Prelude.{cond, List, ℕ, eqb, ℤ, pos, negsuc, Option, Some, None}
use Rattle.calls.specs.declared.Answer.{Answer}
use Rattle.calls.specs.declared.Answered.{Answered}
use Rattle.calls.specs.Outcome as calls
use Rattle.calls.specs.Outcome.{Outcome, as_answer}
use Rattle.control.specs.declared.Stage.{Stage}
use Rattle.control.specs.declared.Stage.TheVariants.{Searching, Waiting, Held}
use Rattle.receiver.specs.declared.Receiver.{Receiver}
use Rattle.receiver.specs.Calls.{EventLists, block_of, indexed_of}
use Rattle.receiving.specs.declared.State.{State}
use Rattle.receiving.specs.declared.Opening.{Opening}
use Rattle.receiving.specs.declared.Block.{Block}

-- ---- a stage

-- the numbers of a stage: its own, and those of a wait, a slot and a byte
abbrev pub stage_numbers : Stage → ℕ × ℕ × ℕ × ℕ
stage_numbers Searching = (0, 0, 0, 0)
stage_numbers (Waiting wait slot byte) = (1, wait, slot, byte)
stage_numbers Held = (2, 0, 0, 0)

-- the stage of numbers: 0 is searching, 1 waiting and 2 a held break; any other is taken as a wait of 0, which is out of the ranges
abbrev pub stage_of : (stage wait slot byte : ℕ) → Stage
stage_of stage wait slot byte =
    cond (eqb stage 0) Searching (cond (eqb stage 1) (Waiting wait slot byte) (cond (eqb stage 2) Held (Waiting 0 0 0)))

-- ---- a smallest difference

-- its numbers: whether there is one, and which
abbrev pub difference_numbers : Option ℤ → ℕ × ℤ
difference_numbers None = (0, pos 0)
difference_numbers (Some least) = (1, least)

-- the difference of numbers: 0 is none and 1 the number beside it; any other is taken as -1, which is out of the ranges
abbrev pub difference_of : ℕ → ℤ → Option ℤ
difference_of measured smallest = cond (eqb measured 0) None (cond (eqb measured 1) (Some smallest) (Some (negsuc 0)))

-- ---- a state

abbrev pub receiver_of : State → Receiver
receiver_of s =
    record {
      band = s.band;
      window = s.window;
      run = s.run;
      stage = stage_of s.stage s.wait s.slot s.byte;
      smallest = difference_of s.measured s.smallest;
    }

abbrev pub numbers_of : Receiver → State
numbers_of r =
    let n = stage_numbers r.stage in
    let d = difference_numbers r.smallest in
    record {
      band = r.band;
      window = r.window;
      run = r.run;
      stage = n.0;
      wait = n.1;
      slot = n.2;
      byte = n.3;
      measured = d.0;
      smallest = d.1;
    }

-- ---- the calls

-- what an opening answers
abbrev pub opened_numbers : calls.Opening Receiver → Opening
opened_numbers o = record { number = o.number; receiver = numbers_of o.state }

-- the state that a block call with this number hands back: the numbers of the next one if it is accepted, and those handed if not
abbrev pub next_numbers : ℕ → Receiver → State → State
next_numbers number next handed = cond (eqb number 0) (numbers_of next) handed

-- what is handed back of a reading, and of an outcome
abbrev pub reading_numbers : Answered Receiver ℕ → State → Block
reading_numbers r handed =
    let a : Answer = as_answer r.answer in
    record { receiver = next_numbers a.number r.state handed; number = a.number; count = a.count }

abbrev pub outcome_numbers : {L : Type 0} → State → Outcome Receiver L → Outcome State L
outcome_numbers handed o =
    record { number = o.number; count = o.count; state = next_numbers o.number o.state handed; lent = o.lent }

-- a block call on the numbers of a state
abbrev pub block_numbers : State → List ℤ → EventLists → Outcome State EventLists
block_numbers handed xs lent = outcome_numbers handed (block_of (receiver_of handed) xs lent)

-- the same with indices
abbrev pub indexed_numbers : State → List ℤ → EventLists × List ℕ → Outcome State (EventLists × List ℕ)
indexed_numbers handed xs lent = outcome_numbers handed (indexed_of (receiver_of handed) xs lent)
