-- The smallest difference of the two energies, and the events with theirs: the specification, "Quality beside each character". It is a
-- machine beside run and stage: it sees what a decision does to them, and the decision's difference.
-- Assumes nothing.
use Rattle.std.specs.Prelude.{Bool, false, cond, not, ◌&&◌, List, map, ℕ, ◌-◌, leb, eqb, ℤ, pos, Option, Some, None}
use Rattle.std.specs.Int.Signed.{lt_z, le_z}
use Rattle.calls.specs.Runs.{after, gives, indexed}
use Rattle.control.specs.declared.Decision.{Decision}
use Rattle.control.specs.declared.Stage.{Stage}
use Rattle.control.specs.declared.Stage.TheVariants.{Searching, Waiting, Held}
use Rattle.control.specs.declared.Control.{Control}
use Rattle.control.specs.Rules.{control_after, reported}
use Rattle.quality.specs.declared.Tracked.{Tracked}

-- ---- the smallest difference

-- of those so far and one more
abbrev pub least_with : Option ℤ → ℤ → ℤ
least_with None d = d
least_with (Some least) d = cond (lt_z d least) d least

-- present while waiting for slots 2 to 9
abbrev pub is_gathering : Stage → Bool
is_gathering Searching = false
is_gathering (Waiting wait slot byte) = leb 2 slot && leb slot 9
is_gathering Held = false

-- its range beside a stage: present exactly then, and never negative
unfoldable pub is_kept : Stage → Option ℤ → Bool
is_kept stage None = not (is_gathering stage)
is_kept stage (Some least) = is_gathering stage && le_z (pos 0) least

-- ---- one sample

-- with it a data or stop slot is taken; the start slot does not count
abbrev pub takes_bit : Stage → Bool
takes_bit Searching = false
takes_bit (Waiting wait slot byte) = eqb (wait - 1) 0 && not (eqb slot 0)
takes_bit Held = false

-- what is kept behind such a slot: the character goes on where the stage waits, and elsewhere there is none
abbrev pub kept_in : Stage → ℤ → Option ℤ
kept_in Searching least = None
kept_in (Waiting wait slot byte) least = Some least
kept_in Held least = None

-- run and stage move as they do without it; the difference counts where a data or stop slot is taken, and else stays as it was
unfoldable pub tracked_after : Tracked → Decision → Tracked
tracked_after s d =
    let c : Control = control_after s.control d in
    record {
      control = c;
      smallest = cond (takes_bit s.control.stage) (kept_in c.stage (least_with s.smallest d.difference)) s.smallest;
    }

-- its events, one at most, each with the smallest difference up to and including its own slot
unfoldable pub measured : Tracked → Decision → List (ℕ × ℤ)
measured s d = map (λ n. (n, least_with s.smallest d.difference)) (reported s.control d)

-- ---- lists of decisions

abbrev pub track : Tracked → List Decision → Tracked
track = after tracked_after

abbrev pub measures : Tracked → List Decision → List (ℕ × ℤ)
measures = gives tracked_after measured

-- these, each with the index of its decision, where the first decision has the index k
abbrev pub measures_from : ℕ → Tracked → List Decision → List ((ℕ × ℤ) × ℕ)
measures_from = indexed tracked_after measured
