-- Reading is the inverse of writing: the specification, "Sheet and programs".
-- Assumes nothing.
use Rattle.std.specs.Prelude.{◌≡◌, true, ◌↔◌, List, ℕ, ◌<◌, ℤ, nat_abs}
use Rattle.integers.specs.All.{All}
use Rattle.sheet.specs.Text.{sheet_of}
use Rattle.sheet.specs.Parse.{is_sheet, band_in, samples_of}

-- a text is taken, and read as a band and samples
pub record ReadsAs (text : List ℕ) (band : ℕ) (samples : List ℤ) : Type 0 where
  pub taken : is_sheet text ≡ true
  pub band_read : band_in text ≡ band
  pub samples_read : samples_of text ≡ samples

-- a text is the sheet of a band of one digit and samples of at most four
pub record IsSheetOf (text : List ℕ) (band : ℕ) (samples : List ℤ) : Type 0 where
  pub written : text ≡ sheet_of band samples
  pub digit : band < 10
  pub four : All (λ z. nat_abs z < 10000) samples

-- Every text that is taken is the sheet of what it is read as, and every sheet is read as what was written. So a text is the
-- sheet of at most one band and one list of samples.
abbrev pub Inverse : Type 0
Inverse = (text : List ℕ) (band : ℕ) (samples : List ℤ) → ReadsAs text band samples ↔ IsSheetOf text band samples
