-- The front of a text, by which the names lines of a sheet are known (the specification, "Sheet and programs"). The definition is ours.
-- Assumes nothing.
use Rattle.std.specs.Prelude.{Bool, true, false, ◌&&◌, List, [], ◌∷◌, ℕ, eqb}

-- a text begins with these bytes
unfoldable pub starts_with : List ℕ → List ℕ → Bool
starts_with [] text = true
starts_with (x ∷ xs) [] = false
starts_with (x ∷ xs) (y ∷ text) = eqb x y && starts_with xs text
