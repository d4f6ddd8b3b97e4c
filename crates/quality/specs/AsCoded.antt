-- What the code says of one slot. Nothing here has to be believed to read the contracts of the receiver's calls. The definitions are ours.
-- Assumes nothing.
use Rattle.std.specs.Prelude.{cond, ℕ, eqb, ℤ, Option}
use Rattle.control.specs.declared.Stage.{Stage}
use Rattle.quality.specs.declared.Measured.{Measured}
use Rattle.quality.specs.Quality.{least_with, kept_in}

-- a slot is taken with the difference d, and leads to the stage `next`
abbrev pub measured_by : ℕ → Option ℤ → ℤ → Stage → Measured
measured_by slot q d next = record { smallest = cond (eqb slot 0) q (kept_in next (least_with q d)); difference = least_with q d }
