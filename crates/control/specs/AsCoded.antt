-- The rules in the parts that the code has, for a reading that does not judge every window. Nothing here has to be believed to read the
-- contracts of `moved_by` and of the receiver's calls. The definitions are ours; proofs/Rules and proofs/Stretches have them from the rules.
-- Assumes nothing.
use Rattle.std.specs.Prelude.{◌≡◌, Bool, true, false, cond, ◌&&◌, List, [], ◌∷◌, ℕ, ◌+◌, ◌-◌, ◌^◌, eqb}
use Rattle.std.specs.Bool.{beq}
use Rattle.calls.specs.Runs.{after}
use Rattle.control.specs.declared.Bit.{Bit}
use Rattle.control.specs.declared.Bit.TheVariants.{Mark, Space, Doubtful}
use Rattle.control.specs.declared.Decision.{Decision}
use Rattle.control.specs.declared.Stage.{Stage}
use Rattle.control.specs.declared.Stage.TheVariants.{Searching, Waiting, Held}
use Rattle.control.specs.declared.Asked.{Asked}
use Rattle.control.specs.declared.Asked.TheVariants.{Tone, Slot}
use Rattle.control.specs.declared.Next.{Next}
use Rattle.control.specs.Ranges.{is_slot}
use Rattle.control.specs.Rules.{quiet, run_after, taken}

-- ---- one bit

abbrev pub is_doubt : Bit → Bool
is_doubt Mark = false
is_doubt Space = false
is_doubt Doubtful = true

abbrev pub is_mark : Bit → Bool
is_mark Mark = true
is_mark Space = false
is_mark Doubtful = false

-- the byte with the bit of a data slot
abbrev pub with_bit : ℕ → ℕ → Bit → ℕ
with_bit slot byte bit = cond (is_mark bit) (byte + 2 ^ (slot - 1)) byte

-- ---- one decision

-- a search ends with run 32 and space above mark, or not, as it asks
abbrev pub is_found : Bool → ℕ → Decision → Bool
is_found space run d = eqb run 32 && beq d.space space

-- what a stage asks for
abbrev pub asked_by : Stage → Asked
asked_by Searching = Tone true (Waiting 16 0 0)
asked_by (Waiting wait slot byte) = Slot wait slot byte
asked_by Held = Tone false Searching

-- what the wait for a slot ends in; a slot out of its ranges, of which the specification says nothing, is given up
abbrev pub wait_over : ℕ → ℕ → Decision → Next
wait_over slot byte d = cond (is_slot slot byte) (taken slot byte d) (quiet Searching)

-- ---- lists of decisions

-- the run after a list of them
abbrev pub run_over : ℕ → List Decision → ℕ
run_over = after (λ run d. run_after run d.good)

-- none of them ends the search
unfoldable pub NoneFound : Bool → ℕ → List Decision → Type 0
NoneFound space run [] = Unit
NoneFound space run (d ∷ ds) = (is_found space (run_after run d.good) d ≡ false) × NoneFound space (run_after run d.good) ds
