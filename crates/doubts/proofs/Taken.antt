-- Two laws that the documents name: how soon an event can come when a slot is taken, and doubt as natural numbers.
-- Assumes nothing.
use mathlib.Core.Path.{◌≡◌}
use mathlib.Core.Bool.{cond}
use Prim.Native.Nat.{ℕ, ◌+◌, ◌-◌, ◌*◌, ◌≤◌, max, min}
use lib.Dec.{ltb, eqb}
use lib.IntN.{pos}
use lib.ListN.{length}
use Rattle.std.proofs.Common.{rules}
use Rattle.control.specs.declared.Decision.{Decision}
use Rattle.control.specs.Rules.{numbers, taken}
use Rattle.control.proofs.Counting.{elapsed}
use Rattle.weighing.specs.Weighing.{is_doubtful}

-- an event needs 49 of what has elapsed, and a slot that is taken adds 1 to it
pub taken_slow : (wait slot byte : ℕ) (d : Decision) → wait ≤ 1
    → 49 * length (numbers (taken slot byte d).event) + elapsed (taken slot byte d).stage ≤ cond (eqb slot 0) (17 - wait) (49 - wait) + 1
unfolding taken
taken_slow wait slot byte d h = search rules

pub doubtful_ℕ : (space mark : ℕ) → is_doubtful (pos space) (pos mark) ≡ ltb (4 * max space mark) (5 * min space mark)
unfolding is_doubtful
doubtful_ℕ space mark = search rules
