-- A property of every entry: of two lists joined and of either of them, and of the entry at a place.
-- Assumes nothing.
use mathlib.Core.List.{List, [], ◌∷◌, ◌++◌}
use Prim.Native.Nat.{ℕ, zero, suc, ◌<◌}
use native.Mathlib.Omega.{arith}
use lib.ListN.{length, get_or}
use Rattle.integers.specs.All.{All, none, more}

module _ {A : Type 0} {P : A → Type 0} where
  pub all_append : {xs ys : List A} → All P xs → All P ys → All P (xs ++ ys)
  all_append none k = k
  all_append (more h r) k = more h (all_append r k)

  -- either of the two
  pub all_front : (xs ys : List A) → All P (xs ++ ys) → All P xs
  all_front [] ys k = none
  all_front (x ∷ xs) ys (more h r) = more h (all_front xs ys r)

  pub all_behind : (xs ys : List A) → All P (xs ++ ys) → All P ys
  all_behind [] ys k = k
  all_behind (x ∷ xs) ys (more h r) = all_behind xs ys r

  pub all_at : (xs : List A) (d : A) (k : ℕ) → k < length xs → All P xs → P (get_or xs k d)
  all_at [] d k l h = absurd (omega arith)
  all_at (x ∷ xs) d zero l (more h hs) = h
  all_at (x ∷ xs) d (suc k) l (more h hs) = all_at xs d k (omega arith) hs
