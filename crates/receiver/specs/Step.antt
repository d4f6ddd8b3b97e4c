-- The step rule: what one sample, and a list of samples, does to a receiver: the specification, "Reader, step by step" and "Quality beside
-- each character". What a decision does to run and stage, its rules 3 to 6, stands in `control`, and to the smallest difference in `quality`.
-- Assumes nothing.
use Rattle.std.specs.Prelude.{List, [], ◌∷◌, ◌++◌, ℕ, ℤ, drop}
use Rattle.calls.specs.Runs.{after, gives, indexed}
use Rattle.tones.specs.Bands.{tones_of}
use Rattle.control.specs.declared.Decision.{Decision}
use Rattle.control.specs.declared.Control.{Control}
use Rattle.control.specs.Rules.{reported}
use Rattle.quality.specs.declared.Tracked.{Tracked}
use Rattle.quality.specs.Quality.{tracked_after, measured}
use Rattle.receiver.specs.declared.Receiver.{Receiver}
use Rattle.receiver.specs.Energy.{decision_of}

-- ---- one sample

abbrev pub control_of : Receiver → Control
control_of s = record { run = s.run; stage = s.stage }

-- with the smallest difference
abbrev pub tracked_of : Receiver → Tracked
tracked_of s = record { control = control_of s; smallest = s.smallest }

-- rule 1: the sample enters the window and the oldest leaves
abbrev pub entered : List ℤ → ℤ → List ℤ
entered window x = drop 1 window ++ (x ∷ [])

-- the decision at the window that the sample x completes
abbrev pub decision_at : Receiver → ℤ → Decision
decision_at s x = decision_of (tones_of s.band) (entered s.window x)

-- the state after the sample x
unfoldable pub after_sample : Receiver → ℤ → Receiver
after_sample s x =
    let c : Tracked = tracked_after (tracked_of s) (decision_at s x) in
    record { band = s.band; window = entered s.window x; run = c.control.run; stage = c.control.stage; smallest = c.smallest }

-- the numbers of its events
unfoldable pub events_at : Receiver → ℤ → List ℕ
events_at s x = reported (control_of s) (decision_at s x)

-- its events, each with its difference
unfoldable pub measured_at : Receiver → ℤ → List (ℕ × ℤ)
measured_at s x = measured (tracked_of s) (decision_at s x)

-- ---- a list of samples: the state after it, and the events in order, their numbers alone and each with its difference

abbrev pub state_after : Receiver → List ℤ → Receiver
state_after = after after_sample

abbrev pub events_after : Receiver → List ℤ → List ℕ
events_after = gives after_sample events_at

abbrev pub measured_after : Receiver → List ℤ → List (ℕ × ℤ)
measured_after = gives after_sample measured_at

-- these, each with the index of the sample that brings it; the first sample of the list has the index 0
abbrev pub indexed_after : Receiver → List ℤ → List ((ℕ × ℤ) × ℕ)
indexed_after = indexed after_sample measured_at 0
