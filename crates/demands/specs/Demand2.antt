-- Demand 2: the rules are the rules. Each sample is the whole number nearest to 6,000 times the sine at the sum of all steps so far, and
-- the receiver gives exactly the events of the step rule, each with its difference. Decision 15; the specification, "Tones and sine",
-- "Transmitter", "Reader, step by step" and "Quality beside each character".
-- Assumes nothing.
use Rattle.std.specs.Prelude.{◌≡◌, true, List, ℕ, ◌≤◌, ℤ}
use Rattle.sine.specs.Sine.{IsSine, SineRule, S}
use Rattle.tones.specs.Bands.{is_band}
use Rattle.transmitter.specs.declared.Transmitter.{Transmitter}
use Rattle.transmitter.specs.Examples.{Examples}
use Rattle.transmitter.specs.Lists as sending
use Rattle.receiver.specs.declared.Receiver.{Receiver}
use Rattle.receiver.specs.Calls.{in_range, EventLists}
use Rattle.receiver.specs.Lists as reading
use Rattle.receiving.specs.Numbers.{numbers_of, receiver_of}
use Rattle.differences.specs.Plain.{Unsteered}
use Rattle.differences.specs.Differences.{OwnSlots}
use Rattle.tap.specs.declared.Tap.{Tap}
use Rattle.tap.specs.Lists as tapping
use Rattle.tapping.specs.Numbers.{tap_numbers, tap_of}

pub record Demand2 : Type 0 where
  -- S has the rule of the sine; at each phase of the first quarter the rule admits S and nothing else, and no other function has it
  pub sine : SineRule S
  pub nearest : (p : ℕ) (e : ℤ) → p ≤ 480 → IsSine p e → e ≡ S p
  pub only : (f : ℕ → ℤ) → SineRule f → (p : ℕ) → f p ≡ S p
  -- over every list of idle and characters calls, refused ones among them, sample i is S at the sum of all steps before it
  pub samples : (s : Transmitter) (calls : List sending.Call) → sending.Continuous s calls
  -- over every list of block calls likewise, the events are those of the step rule over all samples read
  pub events : (s : Receiver) (calls : List reading.Call) → reading.OneReading s calls
  pub joined_blocks : (s : Receiver) (one two : reading.Call) (lent : EventLists) → reading.TwoBlocks s one two lent
  -- with indices, each is that of the sample which brings the event
  pub indices : (s : Receiver) (calls : List reading.IndexedCall) → reading.IndexedReading s calls
  -- the differences leave numbers, counts, run and stage as they are without them, and each is the smallest over its event's own slots
  pub unsteered : (s : Receiver) → in_range s ≡ true → (calls : List reading.Call) → Unsteered s calls
  pub own_slots : (band : ℕ) → is_band band ≡ true → (calls : List reading.Call) → OwnSlots band calls
  -- over every list of a tap's calls, each receiver gives what it gives alone, and the events of both stand in the order of samples
  pub both_directions : (t : Tap) (calls : List tapping.Call) → tapping.BothDirections t calls
  -- what a caller in another language holds of a state between two calls is that state
  pub stored : (s : Receiver) → receiver_of (numbers_of s) ≡ s
  pub tap_stored : (t : Tap) → tap_of (tap_numbers t) ≡ t
  -- the starred examples
  pub examples : Examples
