-- What a sample, and a list of samples, does to a tap: the specification, "Both directions on one tap" and "Quality beside each character".
-- Assumes nothing.
use Rattle.std.specs.Prelude.{List, ◌++◌, map, ℕ, ◌+◌, ◌*◌, ℤ}
use Rattle.calls.specs.Runs.{after, gives}
use Rattle.receiver.specs.Step as receiver
use Rattle.tap.specs.declared.Tap.{Tap}

-- an event in one 16-bit number: 1,000 times its band plus its number
abbrev pub in_band : ℕ → ℕ → ℕ
in_band band n = 1000 * band + n

-- the same of an event with its difference, which stays as it is
abbrev pub measured_in : ℕ → ℕ × ℤ → ℕ × ℤ
measured_in band e = (in_band band e.0, e.1)

-- ---- one sample

-- it goes into both receivers
unfoldable pub after_sample : Tap → ℤ → Tap
after_sample t x = record { first = receiver.after_sample t.first x; second = receiver.after_sample t.second x }

-- the first receiver's events, and then the second's, each with its band
unfoldable pub events_at : Tap → ℤ → List ℕ
events_at t x =
    map (in_band t.first.band) (receiver.events_at t.first x) ++ map (in_band t.second.band) (receiver.events_at t.second x)

-- these, each with its difference
unfoldable pub measured_at : Tap → ℤ → List (ℕ × ℤ)
measured_at t x =
    map (measured_in t.first.band) (receiver.measured_at t.first x) ++ map (measured_in t.second.band) (receiver.measured_at t.second x)

-- ---- a list of samples: the state after it, and the events in order, their numbers alone and each with its difference

abbrev pub state_after : Tap → List ℤ → Tap
state_after = after after_sample

abbrev pub events_after : Tap → List ℤ → List ℕ
events_after = gives after_sample events_at

abbrev pub measured_after : Tap → List ℤ → List (ℕ × ℤ)
measured_after = gives after_sample measured_at
