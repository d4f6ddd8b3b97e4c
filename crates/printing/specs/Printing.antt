-- What both programs print over the front of a caller's buffer, in ASCII codes: the specification, "Sheet and programs".
-- Assumes nothing.
use Rattle.std.specs.Prelude.{◌≡◌, List, [], ◌∷◌, ◌++◌, ℕ, ◌≤◌, length, take}
use Rattle.digits.specs.Numbers.{decimal}

-- ---- a refusal

-- the line `refused`; 10 is the line feed
abbrev pub refused_line : List ℕ
refused_line = 114 ∷ 101 ∷ 102 ∷ 117 ∷ 115 ∷ 101 ∷ 100 ∷ 10 ∷ []

-- that line, and a line with the number
unfoldable pub refusal_lines : ℕ → List ℕ
refusal_lines number = refused_line ++ (decimal number ++ (10 ∷ []))

-- ---- what a caller's buffer holds

-- the first `count` places are within the buffer, and are `count` many; it follows from the two equations, and with it a caller can lend
-- those places without a proof of its own
abbrev pub Front : ℕ → List ℕ → Type 0
Front count lent = (count ≤ length lent) × (count ≡ length (take count lent))
