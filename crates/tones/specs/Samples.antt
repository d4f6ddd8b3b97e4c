-- Ranges of numbers, and the range of a sample: the specification, "Reader, step by step".
-- Assumes nothing.
use Rattle.std.specs.Prelude.{Bool, true, ◌&&◌, List, [], ◌∷◌, ℕ, ℤ, pos, negsuc}
use Rattle.std.specs.Int.Signed.{le_z}

-- at least `low` and at most `high`
abbrev pub is_between : ℤ → ℤ → ℤ → Bool
is_between low high x = le_z low x && le_z x high

-- every number of the list is
unfoldable pub are_between : ℤ → ℤ → List ℤ → Bool
are_between low high [] = true
are_between low high (x ∷ xs) = is_between low high x && are_between low high xs

-- a sample is a signed number from -8191 to 8191; negsuc n is -(n + 1)
abbrev pub is_sample : ℤ → Bool
is_sample = is_between (negsuc 8190) (pos 8191)

-- the most samples of a block, and of a sheet: the specification, "Reader, step by step" and "Sheet and programs"
abbrev pub most_samples : ℕ
most_samples = 16384

abbrev pub are_samples : List ℤ → Bool
are_samples = are_between (negsuc 8190) (pos 8191)
