-- Sums over lists and over numbers. The definitions are ours: `total` serves the specification's sum of steps, `sum_to` the signed sums
-- of its reader, and `dot` the same sums as they are computed.
-- Assumes nothing.
use Rattle.std.specs.Prelude.{List, [], ◌∷◌, ℕ, zero, suc, ◌+◌, ◌≤◌, ℤ, pos, nat_abs, ◌+ℤ◌, ◌*ℤ◌, get_or}

-- the sum of a list of natural numbers
unfoldable pub total : List ℕ → ℕ
total [] = 0
total (n ∷ ns) = n + total ns

-- the sum of the sizes of a list of whole numbers, signs aside
unfoldable pub size : List ℤ → ℕ
size [] = 0
size (x ∷ xs) = nat_abs x + size xs

-- the sum of the products, place by place up to the end of the shorter list
unfoldable pub dot : List ℤ → List ℤ → ℤ
dot [] ws = pos 0
dot (x ∷ xs) [] = pos 0
dot (x ∷ xs) (w ∷ ws) = x *ℤ w +ℤ dot xs ws

-- f 0 + f 1 + .. + f (n - 1)
unfoldable pub sum_to : ℕ → (ℕ → ℤ) → ℤ
sum_to zero f = pos 0
sum_to (suc n) f = f 0 +ℤ sum_to n (λ k. f (suc k))

-- every number of the list is at most n in size
pub record Bounded (n : ℕ) (xs : List ℤ) : Type 0 where
  pub at : (k : ℕ) → nat_abs (get_or xs k (pos 0)) ≤ n
