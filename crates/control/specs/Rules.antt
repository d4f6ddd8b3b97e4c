-- What a decision does to run and stage, and its event: the specification, "Reader, step by step", rules 3 to 6, as decision 17 reads
-- them, "A held break key" and "Doubtful bits".
-- Assumes nothing.
use Rattle.std.specs.Prelude.{◌≡◌, Bool, false, cond, not, ◌&&◌, ◌||◌, List, [], ◌∷◌, ℕ, zero, suc, ◌+◌, ◌-◌, ◌*◌, ◌^◌, min, ltb, leb, eqb, Option, Some, None, Result, MatchResult}
use Rattle.calls.specs.Runs.{after, gives}
use Rattle.control.specs.declared.Bit.{Bit}
use Rattle.control.specs.declared.Bit.TheVariants.{Mark, Space, Doubtful}
use Rattle.control.specs.declared.Decision.{Decision}
use Rattle.control.specs.declared.Stage.{Stage}
use Rattle.control.specs.declared.Stage.TheVariants.{Searching, Waiting, Held}
use Rattle.control.specs.declared.event.Event.{Event}
use Rattle.control.specs.declared.event.Event.TheVariants.{Character, NoStop, CarrierLost, Break, DoubtfulBit}
use Rattle.control.specs.declared.event.NoEvent.{NoEvent}
use Rattle.control.specs.declared.Next.{Next}
use Rattle.control.specs.declared.Control.{Control}
use Rattle.control.specs.declared.Moved.{Moved}

-- ---- events

-- an event's number is below 256 for a character, 256 for one without a stop bit, 257 for a lost carrier, 258 for a break, and 259 for a
-- doubtful bit
abbrev pub no_stop : ℕ
no_stop = 256

abbrev pub carrier_lost : ℕ
carrier_lost = 257

abbrev pub break_begun : ℕ
break_begun = 258

abbrev pub bit_doubtful : ℕ
bit_doubtful = 259

-- the number of every event is one of these (proofs/Events)
unfoldable pub is_event : ℕ → Bool
is_event n = ltb n 256 || (eqb n no_stop || (eqb n carrier_lost || (eqb n break_begun || eqb n bit_doubtful)))

abbrev pub event_number : Event → ℕ
event_number (Character byte) = byte
event_number NoStop = no_stop
event_number CarrierLost = carrier_lost
event_number Break = break_begun
event_number DoubtfulBit = bit_doubtful

-- the event with this number, or the number, where no event has it
abbrev pub HasNumber : ℕ → Result Event NoEvent → Type 0
HasNumber n r = MatchResult r (λ event. event_number event ≡ n) (λ e. (e.0 ≡ n) × (is_event n ≡ false))

-- the numbers of an event, if there is one
abbrev pub numbers : Option Event → List ℕ
numbers None = []
numbers (Some event) = event_number event ∷ []

-- a stage without an event, an event after which the receiver searches, and a break, which is held
abbrev pub quiet : Stage → Next
quiet stage = record { stage = stage; event = None }

abbrev pub report : Event → Next
report event = record { stage = Searching; event = Some event }

abbrev pub hold_break : Next
hold_break = record { stage = Held; event = Some Break }

-- ---- rule 3: while the level is good the run grows by 1, to 32 at most; else it becomes 0

abbrev pub run_after : ℕ → Bool → ℕ
run_after run good = cond good (min (run + 1) 32) 0

-- ---- rule 4: searching, with run 32 and space above mark it waits 16 for slot 0

abbrev pub searched : ℕ → Decision → Stage
searched run d = cond (eqb run 32 && d.space) (Waiting 16 0 0) Searching

-- ---- rule 5: a slot is taken

-- start: good level and space above mark, then wait 32 for slot 1; otherwise search, no event
abbrev pub start_taken : Decision → Next
start_taken d = cond (d.good && d.space) (quiet (Waiting 32 1 0)) (quiet Searching)

-- a bit as a number: 0 is space, and 1 mark
abbrev pub bit_of : ℕ → Bit
bit_of zero = Space
bit_of (suc bit) = Mark

-- data: 2^(slot - 1) times the bit is added to the byte, and it waits 32 for the next slot
abbrev pub gathered : ℕ → ℕ → ℕ → Next
gathered slot byte bit = quiet (Waiting 32 (slot + 1) (byte + 2 ^ (slot - 1) * bit))

-- stop, with space: if the byte is 0 it is a break, and else 256 and search
abbrev pub stop_missed : ℕ → Next
stop_missed byte = cond (eqb byte 0) hold_break (report NoStop)

-- data, 1 to 8, and stop, 9, by the bit: a doubtful one gives 259 and search; a data bit is gathered; at the stop mark gives the byte, and
-- search, and space see above
abbrev pub bit_taken : ℕ → ℕ → Bit → Next
bit_taken slot byte Doubtful = report DoubtfulBit
bit_taken slot byte Mark = cond (leb slot 8) (gathered slot byte 1) (report (Character byte))
bit_taken slot byte Space = cond (leb slot 8) (gathered slot byte 0) (stop_missed byte)

-- by its number: 0 the start; data and stop: level not good gives 257 and search, and else the bit is taken
unfoldable pub taken : ℕ → ℕ → Decision → Next
taken slot byte d =
    cond (eqb slot 0) (start_taken d) (cond (not d.good) (report CarrierLost) (bit_taken slot byte d.bit))

-- ---- rule 6: a break is held until the run is 32 and mark is at least space; then it searches, from the next sample on

-- the sample ends a break
abbrev pub ends_break : ℕ → Decision → Bool
ends_break run d = eqb run 32 && not d.space

abbrev pub held : ℕ → Decision → Stage
held run d = cond (ends_break run d) Searching Held

-- ---- rules 4 to 6: the stage after a sample, from the run after it and the decision

-- waiting: the wait falls by 1, and at 0 the slot is taken
unfoldable pub next_of : Stage → ℕ → Decision → Next
next_of Searching run d = quiet (searched run d)
next_of (Waiting wait slot byte) run d = cond (eqb (wait - 1) 0) (taken slot byte d) (quiet (Waiting (wait - 1) slot byte))
next_of Held run d = quiet (held run d)

-- ---- rules 3 to 6: what a sample does, by the decision at its window

-- the run, and from the run after the sample the stage and the event
unfoldable pub moved_by : Control → Decision → Moved
moved_by c d =
    let run : ℕ = run_after c.run d.good in
    let n : Next = next_of c.stage run d in
    record { control = record { run = run; stage = n.stage }; event = n.event }

-- what the code gives for a run and a stage out of their ranges, of which the specification says nothing
abbrev pub unmoved : Control → Moved
unmoved c = record { control = c; event = None }

-- ---- decisions

-- run and stage after one
unfoldable pub control_after : Control → Decision → Control
control_after c d = (moved_by c d).control

-- its events, one at most
unfoldable pub reported : Control → Decision → List ℕ
reported c d = numbers (moved_by c d).event

-- run and stage after a list of them, and the events in order
abbrev pub follow : Control → List Decision → Control
follow = after control_after

abbrev pub reports : Control → List Decision → List ℕ
reports = gives control_after reported
