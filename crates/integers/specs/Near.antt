-- A list with a number added at each place, and lists that are equal up to a bound at each place, as a recording is to the samples
-- sent: the specification, "Whole recordings".
-- Assumes nothing.
use Rattle.std.specs.Prelude.{List, [], ◌∷◌, ℕ, ◌≤◌, ℤ, nat_abs, ◌+ℤ◌, ◌-ℤ◌}

-- each number of the first list with the number of the second at its place added; where the second has none, as it was
unfoldable pub altered : List ℤ → List ℤ → List ℤ
altered [] ds = []
altered (x ∷ xs) [] = x ∷ xs
altered (x ∷ xs) (d ∷ ds) = (x +ℤ d) ∷ altered xs ds

-- the two lists are equally long, and at each place they differ by at most n
pub data Near (n : ℕ) : List ℤ → List ℤ → Type 0 where
  none : Near n [] []
  more : {x y : ℤ} {xs ys : List ℤ} → nat_abs (y -ℤ x) ≤ n → Near n xs ys → Near n (x ∷ xs) (y ∷ ys)
