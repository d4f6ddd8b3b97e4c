-- Lists of a tap's calls: over the accepted blocks each band's events and state are those that its receiver would give by itself. The
-- specification, "Both directions on one tap".
-- Assumes nothing.
use Rattle.std.specs.Prelude.{◌≡◌, true, cond, List, [], ◌∷◌, ℕ, ◌-◌, ◌*◌, ◌/◌, ◌≤◌, eqb, ℤ, length, take}
use Rattle.calls.specs.Outcome.{Outcome, front_in}
use Rattle.calls.specs.Lists as lists
use Rattle.receiver.specs.declared.Receiver.{Receiver}
use Rattle.receiver.specs.Step as receiver
use Rattle.receiver.specs.Calls.{EventLists, two_lists}
use Rattle.tap.specs.declared.Tap.{Tap}
use Rattle.tap.specs.Step.{events_after, measured_after}
use Rattle.tap.specs.Calls.{in_range, places_for, block_of}

-- a call with what it is handed: the samples, and the lent lists as they stand on entry
pub record Call : Type 0 where
  pub samples : List ℤ
  pub lent : EventLists

abbrev pub call_of : Tap → Call → Outcome Tap EventLists
call_of t c = block_of t c.samples c.lent

-- the accepted blocks, joined in order
abbrev pub samples_read : Tap → List Call → List ℤ
samples_read = lists.joined call_of (λ o c. c.samples)

-- the numbers of the events of the accepted calls, as they stood on return, joined in order
abbrev pub events_read : Tap → List Call → List ℕ
events_read = lists.joined call_of (λ o c. take o.count o.lent.0)

-- the same, each with its difference
abbrev pub measured_read : Tap → List Call → List (ℕ × ℤ)
measured_read = lists.joined call_of (λ o c. front_in two_lists o)

-- the events of one band, without its thousands
abbrev pub of_band : ℕ → List ℕ → List ℕ
of_band band = lists.each (λ n. cond (eqb (n / 1000) band) ((n - 1000 * band) ∷ []) [])

-- the same, each with its difference
abbrev pub measured_of_band : ℕ → List (ℕ × ℤ) → List (ℕ × ℤ)
measured_of_band band = lists.each (λ e. cond (eqb (e.0 / 1000) band) ((e.0 - 1000 * band, e.1) ∷ []) [])

-- One of the receivers, `part`: the events of its band, and its state, are what it gives alone over all samples that the tap has read.
pub record Alone (part : Tap → Receiver) (t : Tap) (calls : List Call) : Type 0 where
  pub events : of_band (part t).band (events_read t calls) ≡ receiver.events_after (part t) (samples_read t calls)
  pub measured : measured_of_band (part t).band (measured_read t calls) ≡ receiver.measured_after (part t) (samples_read t calls)
  pub state : part (lists.state_after call_of t calls) ≡ receiver.state_after (part t) (samples_read t calls)

-- However the samples are cut into blocks, and whatever refused calls stand between them.
pub record BothDirections (t : Tap) (calls : List Call) : Type 0 where
  pub first : Alone (λ u. u.first) t calls
  pub second : Alone (λ u. u.second) t calls
  -- the events of both stand in the order of samples, of one sample the first's before the second's
  pub order : events_read t calls ≡ events_after t (samples_read t calls)
  pub measured_order : measured_read t calls ≡ measured_after t (samples_read t calls)
  -- a state in its ranges stays in them, and n samples bring at most 2 (n / 48 + 1) events
  pub range : in_range t ≡ true → in_range (lists.state_after call_of t calls) ≡ true
  pub few : in_range t ≡ true → length (events_read t calls) ≤ places_for (length (samples_read t calls))
