-- The ranges of run and stage: the specification, "Reader, step by step". Its `moment` is our slot: 0 the start bit, 1 to 8 the data
-- bits, 9 the stop bit.
-- Assumes nothing.
use Rattle.std.specs.Prelude.{Bool, true, cond, ◌&&◌, ℕ, ◌-◌, ◌^◌, ltb, leb, eqb}
use Rattle.control.specs.declared.Control.{Control}
use Rattle.control.specs.declared.Stage.{Stage}
use Rattle.control.specs.declared.Stage.TheVariants.{Searching, Waiting, Held}

-- at slot 0 the wait is 1 to 16, otherwise 1 to 32
abbrev pub is_wait : ℕ → ℕ → Bool
is_wait wait slot = leb 1 wait && leb wait (cond (eqb slot 0) 16 32)

-- a slot is 0 to 9, and the byte gathered before it is 0 for slots below 2 and below 2^(slot - 1) above
unfoldable pub is_slot : ℕ → ℕ → Bool
is_slot slot byte = leb slot 9 && cond (ltb slot 2) (eqb byte 0) (ltb byte (2 ^ (slot - 1)))

-- searching and a held break have no field; waiting has a wait, a slot and a byte
unfoldable pub is_stage : Stage → Bool
is_stage Searching = true
is_stage (Waiting wait slot byte) = is_wait wait slot && is_slot slot byte
is_stage Held = true

-- a run is 0 to 32
unfoldable pub is_control : Control → Bool
is_control c = leb c.run 32 && is_stage c.stage
