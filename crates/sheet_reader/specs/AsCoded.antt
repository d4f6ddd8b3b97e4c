-- What the private functions of this crate ask and give. Nothing here needs to be believed to read the contract of `read`, which speaks of
-- `read_of` in the crate `sheet`.
-- Assumes nothing.
use Rattle.std.specs.Prelude.{◌≡◌, true, if◌then◌else◌, Option, Some, None, List, ℕ, ◌<◌, length, drop}
use Rattle.tones.specs.Samples.{are_samples}
use Rattle.sheet.specs.Parse.{line_after, samples_in, is_start, is_headed, band_in}
use Rattle.sheet_reader.specs.declared.reader.Seen.{Seen}
use Rattle.sheet.specs.declared.Line.{Line}
use Rattle.sheet.specs.declared.Line.TheVariants.{Start, Minus, Zero, Number}

-- a number of at most four digits
abbrev pub Small : Line → Type 0
Small Start = Unit
Small Minus = Unit
Small Zero = Unit
Small (Number negative size) = size < 10000

-- what a text with the three lines above the samples has: its band, and what stands behind the three lines
pub record IsHead (text : List ℕ) (band : ℕ) (lines : List ℕ) : Type 0 where
  pub headed : is_headed text ≡ true
  pub band_read : band ≡ band_in text
  pub behind : lines ≡ drop 14 text

-- a first look at the lines
abbrev pub seen_of : List ℕ → Option Seen
seen_of lines =
    if is_start (line_after (Some Start) lines) then
    Some (record { count = length (samples_in (Some Start) lines); sound = are_samples (samples_in (Some Start) lines) })
    else None
