-- How often decisions can bring an event. What has elapsed at a stage grows by at most 1 with each, and an event needs 48 of it and
-- starts again at none: two events are at least 49 decisions apart.
-- Assumes nothing.
use mathlib.Core.Path.{◌≡◌}
use mathlib.Core.Bool.{true, cond}
use Prim.Native.Nat.{ℕ, ◌+◌, ◌-◌, ◌*◌, ◌≤◌}
use lib.Dec.{eqb}
use lib.ListN.{length}
use Rattle.std.proofs.Common.{rules}
use Rattle.control.specs.declared.Decision.{Decision}
use Rattle.control.specs.declared.Next.{Next}
use Rattle.control.specs.declared.Stage.{Stage}
use Rattle.control.specs.declared.Stage.TheVariants.{Searching, Waiting, Held}
use Rattle.control.specs.declared.Control.{Control}
use Rattle.control.specs.Ranges.{is_stage}
use Rattle.control.specs.Rules.{numbers, run_after, taken, next_of, moved_by, control_after, reported}

-- 49 less the samples that are still to come before there can be an event
abbrev pub elapsed : Stage → ℕ
elapsed Searching = 0
elapsed (Waiting wait slot byte) = cond (eqb slot 0) (17 - wait) (49 - wait)
elapsed Held = 0

-- from a stage at which p has elapsed
abbrev Slow : ℕ → Next → Type 0
Slow p n = 49 * length (numbers n.event) + elapsed n.stage ≤ p + 1

next_slow : (stage : Stage) (run : ℕ) (d : Decision) → Slow (elapsed stage) (next_of stage run d)
unfolding next_of taken
next_slow Searching run d = search rules
next_slow (Waiting wait slot byte) run d = search rules
next_slow Held run d = search rules

pub control_slow : (c : Control) (d : Decision) → 49 * length (reported c d) + elapsed (control_after c d).stage ≤ elapsed c.stage + 1
unfolding control_after reported moved_by
control_slow c d = next_slow c.stage (run_after c.run d.good) d

-- in its ranges a stage has at most 48
pub elapsed_most : (stage : Stage) → is_stage stage ≡ true → elapsed stage ≤ 48
unfolding is_stage
elapsed_most Searching h = search rules
elapsed_most (Waiting wait slot byte) h = search rules
elapsed_most Held h = search rules
