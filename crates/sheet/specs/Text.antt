-- The text of a sheet, in ASCII codes: the specification, "Sheet and programs".
-- Assumes nothing.
use Rattle.std.specs.Prelude.{List, [], ◌∷◌, ◌++◌, ℕ, suc, ◌+◌, ℤ, pos, negsuc}
use Rattle.calls.specs.Lists.{each}
use Rattle.digits.specs.Numbers.{decimal}

-- the line of one sample; 45 is the minus, 10 the line feed
unfoldable pub line_of : ℤ → List ℕ
line_of (pos n) = decimal n ++ (10 ∷ [])
line_of (negsuc n) = 45 ∷ decimal (suc n) ++ (10 ∷ [])

-- a line for each sample
abbrev pub lines_of : List ℤ → List ℕ
lines_of = each line_of

-- the line `band`
abbrev pub band_line : List ℕ
band_line = 98 ∷ 97 ∷ 110 ∷ 100 ∷ 10 ∷ []

-- the line `sample`
abbrev pub sample_line : List ℕ
sample_line = 115 ∷ 97 ∷ 109 ∷ 112 ∷ 108 ∷ 101 ∷ 10 ∷ []

-- the three lines above the samples, 14 bytes; the second is the band's digit
unfoldable pub head_of : ℕ → List ℕ
head_of digit = band_line ++ (digit ∷ 10 ∷ sample_line)

-- the sheet of a band of one digit; 48 is `0`
unfoldable pub sheet_of : ℕ → List ℤ → List ℕ
sheet_of band samples = head_of (48 + band) ++ lines_of samples
