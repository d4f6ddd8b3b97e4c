-- The fresh tap of a pair of bands, and what is known of an opening that is not refused.
-- Assumes nothing.
use mathlib.Core.Path.{◌≡◌}
use mathlib.Core.Bool.{true}
use mathlib.Mathlib.Data.Bool.Basic.{and_intro}
use Prim.Native.Nat.{ℕ}
use borrow.Author.Tests.{not-false}
use Rattle.integers.specs.All.{none, more}
use Rattle.calls.specs.Refusals.{first_of}
use Rattle.calls.proofs.Refusals.{NoneHolds, none-holds}
use Rattle.tones.specs.Bands.{is_pair}
use Rattle.tones.proofs.Laws.{pair-known}
use Rattle.receiver.proofs.Ranges as ranges
use Rattle.tap.specs.Calls.{fresh, open_tests, in_range}

-- the fresh tap of a pair is in its ranges
pub fresh_kept : (first second : ℕ) → is_pair first second ≡ true → in_range (fresh first second) ≡ true
unfolding in_range
fresh_kept first second h =
    let known = pair-known first second h in
    and_intro (ranges.fresh_kept first known.0) (and_intro (ranges.fresh_kept second known.1) h)

-- an opening that is not refused is of a pair
pub opened_pair : (first second : ℕ) → first_of (open_tests first second) ≡ 0 → is_pair first second ≡ true
opened_pair first second e = pick (none-holds (open_tests first second) (tt, (tt, tt)) e)
  where
    pick : NoneHolds (open_tests first second) → is_pair first second ≡ true
    pick (more known (more pair none)) = not-false (is_pair first second) pair
