-- A tap's state as the numbers of its receivers (decision 22), and the calls on them: the specification, "Both directions on one tap" and
-- "Refused calls".
-- Assumes nothing.
use Rattle.std.specs.Prelude.{cond, List, ℕ, eqb, ℤ}
use Rattle.calls.specs.declared.Answer.{Answer}
use Rattle.calls.specs.declared.Answered.{Answered}
use Rattle.calls.specs.Outcome.{Opening, Outcome, as_answer}
use Rattle.receiver.specs.Calls.{EventLists}
use Rattle.receiving.specs.Numbers.{receiver_of, numbers_of}
use Rattle.tap.specs.declared.Tap.{Tap}
use Rattle.tap.specs.Calls.{block_of}
use Rattle.tapping.specs.declared.Taps.{Taps}
use Rattle.tapping.specs.declared.TapOpening.{TapOpening}
use Rattle.tapping.specs.declared.TapBlock.{TapBlock}

-- ---- a state

abbrev pub tap_of : Taps → Tap
tap_of n = record { first = receiver_of n.first; second = receiver_of n.second }

abbrev pub tap_numbers : Tap → Taps
tap_numbers t = record { first = numbers_of t.first; second = numbers_of t.second }

-- ---- an opening

abbrev pub opened_numbers : Opening Tap → TapOpening
opened_numbers o = record { number = o.number; tap = tap_numbers o.state }

-- ---- a block call

-- the state that a call with this number hands back: the numbers of the next one if it is accepted, and those handed if not
abbrev pub next_numbers : ℕ → Tap → Taps → Taps
next_numbers number next handed = cond (eqb number 0) (tap_numbers next) handed

-- what is handed back of a reading
abbrev pub reading_numbers : Answered Tap ℕ → Taps → TapBlock
reading_numbers r handed =
    let a : Answer = as_answer r.answer in
    record { tap = next_numbers a.number r.state handed; number = a.number; count = a.count }

abbrev pub outcome_numbers : Taps → Outcome Tap EventLists → Outcome Taps EventLists
outcome_numbers handed o =
    record { number = o.number; count = o.count; state = next_numbers o.number o.state handed; lent = o.lent }

-- a block call on the numbers of a state
abbrev pub block_numbers : Taps → List ℤ → EventLists → Outcome Taps EventLists
block_numbers handed xs lent = outcome_numbers handed (block_of (tap_of handed) xs lent)
