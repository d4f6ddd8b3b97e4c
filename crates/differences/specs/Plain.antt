-- The receiver as it is without differences, which has one lent list: the specification, "Reader, step by step" and "Refused calls". What
-- it gives is what the numbers of the events, the counts, run and stage are with them.
-- Assumes nothing.
use Rattle.std.specs.Prelude.{◌≡◌, Bool, ◌&&◌, List, ℕ, ℤ, length, take}
use Rattle.calls.specs.Outcome.{Outcome, unless_refused, accepted, front}
use Rattle.calls.specs.Runs.{after, gives}
use Rattle.calls.specs.Lists as lists
use Rattle.tones.specs.Bands.{is_band, tones_of}
use Rattle.tones.specs.Samples.{are_samples}
use Rattle.control.specs.declared.Control.{Control}
use Rattle.control.specs.declared.Decision.{Decision}
use Rattle.control.specs.Ranges.{is_control}
use Rattle.control.specs.Rules.{control_after, reported}
use Rattle.receiver.specs.declared.Receiver.{Receiver}
use Rattle.receiver.specs.Energy.{decision_of}
use Rattle.receiver.specs.Step.{control_of, entered}
use Rattle.receiver.specs.Calls.{places_for, tests_of, EventLists, shorter}
use Rattle.receiver.specs.Lists.{Call, call_of, events_read}

-- ---- the state, and a sample

pub record Plain : Type 0 where
  pub band : ℕ
  pub window : List ℤ
  pub control : Control

-- a state without its difference
abbrev pub plain_of : Receiver → Plain
plain_of s = record { band = s.band; window = s.window; control = control_of s }

abbrev pub decision_in : Plain → ℤ → Decision
decision_in p x = decision_of (tones_of p.band) (entered p.window x)

unfoldable pub plain_after : Plain → ℤ → Plain
plain_after p x = record { band = p.band; window = entered p.window x; control = control_after p.control (decision_in p x) }

unfoldable pub plain_events : Plain → ℤ → List ℕ
plain_events p x = reported p.control (decision_in p x)

-- ---- a block

abbrev pub plain_range : Plain → Bool
plain_range p = is_band p.band && (are_samples p.window && is_control p.control)

unfoldable pub plain_block : Plain → List ℤ → List ℕ → Outcome Plain (List ℕ)
plain_block p xs lent =
    unless_refused (tests_of (plain_range p) xs (places_for (length xs)) (length lent)) p lent
    (accepted (after plain_after p xs) (gives plain_after plain_events p xs) lent)

-- the call that lends one list, with as many places as the shorter of two has
abbrev pub plain_call_of : Plain → Call → Outcome Plain (List ℕ)
plain_call_of p c = plain_block p c.samples (take (shorter c.lent) c.lent.0)

-- ---- what differences leave as it was

-- an outcome has the number, the count, the state but for the difference, and the numbers of the events
pub record SameAs (plain : Outcome Plain (List ℕ)) (o : Outcome Receiver EventLists) : Type 0 where
  pub number : o.number ≡ plain.number
  pub count : o.count ≡ plain.count
  pub state : plain_of o.state ≡ plain.state
  pub events : take o.count o.lent.0 ≡ front plain

-- From a state in its ranges each call, and every list of calls, refused ones among them, gives what the receiver without differences gives.
pub record Unsteered (s : Receiver) (calls : List Call) : Type 0 where
  pub each : (c : Call) → SameAs (plain_call_of (plain_of s) c) (call_of s c)
  pub events : events_read s calls ≡ lists.joined plain_call_of (λ o c. front o) (plain_of s) calls
  pub state : plain_of (lists.state_after call_of s calls) ≡ lists.state_after plain_call_of (plain_of s) calls
