-- `sine::table::quarter` meets its contract: one test that antt computes at each of the 481 entries of the code's own array.
-- Assumes nothing.
use mathlib.Core.Path.{◌≡◌, refl, ◌∙◌, sym}
use mathlib.Core.Bool.{Bool, true, ◌&&◌}
use mathlib.Core.List.{List}
use mathlib.Mathlib.Data.Bool.Basic.{and_elim_left, and_elim_right}
use Prim.Native.Nat.{ℕ}
use native.Mathlib.Omega.{arith}
use borrow.Author.Tests.{eqb-true}
use lib.Dec.{eqb}
use lib.IntN.{ℤ, pos}
use lib.ListN.{length, get_or}
use Rattle.integers.proofs.Tests.{eqZ, eqZ_true, passes, passes_at}
use Rattle.sine.specs.Sine.{nearest}
use Rattle.sine.specs.Fold.{HoldsQuarter}
use Rattle.sine.proofs.Laws.{S-nearest}
use Rattle.sine.proofs.table.quarter.Goals as goal

abbrev right : ℕ → ℤ → Bool
right k x = eqZ x (nearest k)

-- a list of 481 entries that passes the test holds S at each place
carried : (xs : List ℤ) → (eqb (length xs) 481 && passes right 0 xs) ≡ true → HoldsQuarter xs
carried xs t =
    let n : length xs ≡ 481 = eqb-true (length xs) 481 (and_elim_left (eqb (length xs) 481) (passes right 0 xs) t) in
    let all : passes right 0 xs ≡ true = and_elim_right (eqb (length xs) 481) (passes right 0 xs) t in
    record {
      at = λ k h. eqZ_true (get_or xs k (pos 0)) (nearest k) (passes_at right (pos 0) xs all k (omega arith)) ∙ sym (S-nearest k h);
    }

pub returns : goal.returns
unfolding nearest
returns c = carried _ refl
