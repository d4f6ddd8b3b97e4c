-- The sheet calls: the specification, "Sheet and programs" and "Refused calls". Each has its table of refusals, in the specification's order.
-- Assumes nothing.
use Rattle.std.specs.Prelude.{Bool, not, List, [], ◌∷◌, ℕ, ltb, ℤ, length}
use Rattle.calls.specs.Refusals.{Test, test}
use Rattle.calls.specs.Outcome.{Outcome, unless_refused, accepted}
use Rattle.tones.specs.Bands.{is_band}
use Rattle.tones.specs.Samples.{are_samples, most_samples}
use Rattle.sheet.specs.Text.{sheet_of}
use Rattle.sheet.specs.Parse.{is_sheet, band_in, samples_of}

-- the most bytes of a sheet: "Refused calls", number 6
abbrev pub most_bytes : ℕ
most_bytes = 65536

-- ---- reading; the outcome's state is the band, and 0 in a refusal

-- a text that is a sheet of `count` samples, all of them in range if `sound`
abbrev pub samples_tests : (band count : ℕ) (sound : Bool) (room : ℕ) → List Test
samples_tests band count sound room =
    test 1 (not (is_band band))
    ∷ test 3 (ltb most_samples count)
    ∷ test 5 (not sound)
    ∷ test 4 (ltb room count)
    ∷ []

-- any text: its length and its form come before these
abbrev pub read_tests : (text : List ℕ) (room : ℕ) → List Test
read_tests text room =
    test 6 (ltb most_bytes (length text))
    ∷ test 7 (not (is_sheet text))
    ∷ samples_tests (band_in text) (length (samples_of text)) (are_samples (samples_of text)) room

unfoldable pub read_of : List ℕ → List ℤ → Outcome ℕ (List ℤ)
read_of text lent = unless_refused (read_tests text (length lent)) 0 lent (accepted (band_in text) (samples_of text) lent)

-- ---- writing; there is no state

abbrev pub write_tests : (band : ℕ) (samples : List ℤ) (room : ℕ) → List Test
write_tests band samples room =
    test 1 (not (is_band band))
    ∷ test 3 (ltb most_samples (length samples))
    ∷ test 5 (not (are_samples samples))
    ∷ test 6 (ltb most_bytes (length (sheet_of band samples)))
    ∷ test 4 (ltb room (length (sheet_of band samples)))
    ∷ []

unfoldable pub write_of : ℕ → List ℤ → List ℕ → Outcome Unit (List ℕ)
write_of band samples lent = unless_refused (write_tests band samples (length lent)) tt lent (accepted tt (sheet_of band samples) lent)
