-- A text read as a sheet, byte by byte: the specification, "Sheet and programs". `Inverse` says that this undoes `sheet_of`.
-- Assumes nothing.
use Rattle.std.specs.Prelude.{Bool, true, false, cond, ◌&&◌, Option, None, Some, List, [], ◌∷◌, ℕ, ◌+◌, ◌-◌, ◌*◌, ltb, eqb, ℤ, pos, neg_ℤ, get_or, drop}
use Rattle.std.specs.Option.{option_and_then, option_map_or}
use Rattle.calls.specs.Runs.{after, gives}
use Rattle.digits.specs.Numbers.{is_digit}
use Rattle.text.specs.Bytes.{starts_with}
use Rattle.sheet.specs.Text.{head_of}
use Rattle.sheet.specs.declared.Line.{Line}
use Rattle.sheet.specs.declared.Line.TheVariants.{Start, Minus, Zero, Number}

-- ---- the lines of samples: `0`, or an optional minus and 1 to 4 digits not beginning with 0

-- where the reading stands after one more byte, and None behind something that no line has; a fifth digit would stand behind a number of at
-- least 1,000
unfoldable pub next : Line → ℕ → Option Line
next Start byte =
    cond (eqb byte 45) (Some Minus) (cond (eqb byte 48) (Some Zero) (cond (is_digit byte) (Some (Number false (byte - 48))) None))
next Minus byte = cond (eqb byte 48) None (cond (is_digit byte) (Some (Number true (byte - 48))) None)
next Zero byte = cond (eqb byte 10) (Some Start) None
next (Number negative size) byte =
    cond (eqb byte 10) (Some Start)
    (cond (is_digit byte && ltb size 1000) (Some (Number negative (size * 10 + (byte - 48)))) None)

-- the sample of a line that ends here; 0 where none can end, since such a text is refused
unfoldable pub sample_of : Line → ℤ
sample_of Start = pos 0
sample_of Minus = pos 0
sample_of Zero = pos 0
sample_of (Number negative size) = cond negative (neg_ℤ (pos size)) (pos size)

-- a reading that stands behind something that no line has stays there
abbrev pub next_of : Option Line → ℕ → Option Line
next_of place byte = option_and_then (λ line. next line byte) place

-- each line feed ends a line
abbrev pub sample_at : Option Line → ℕ → List ℤ
sample_at place byte = cond (eqb byte 10) (option_map_or sample_of place (pos 0) ∷ []) []

-- where the reading stands behind a text
abbrev pub line_after : Option Line → List ℕ → Option Line
line_after = after next_of

-- the samples of the lines that end in it
abbrev pub samples_in : Option Line → List ℕ → List ℤ
samples_in = gives next_of sample_at

-- every line is ended, and there was nothing that no line has
unfoldable pub is_start : Option Line → Bool
is_start None = false
is_start (Some Start) = true
is_start (Some Minus) = false
is_start (Some Zero) = false
is_start (Some (Number negative size)) = false

-- ---- a whole text: the digit is byte 5, and the samples begin at byte 14

-- the three lines above the samples, with any digit
unfoldable pub is_headed : List ℕ → Bool
is_headed text = starts_with (head_of (get_or text 5 0)) text && is_digit (get_or text 5 0)

-- the text has the form of a sheet
unfoldable pub is_sheet : List ℕ → Bool
is_sheet text = is_headed text && is_start (line_after (Some Start) (drop 14 text))

-- its band's digit and its samples
abbrev pub band_in : List ℕ → ℕ
band_in text = get_or text 5 0 - 48

abbrev pub samples_of : List ℕ → List ℤ
samples_of text = samples_in (Some Start) (drop 14 text)
