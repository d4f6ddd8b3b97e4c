-- The bands and their tones: the specification, "Tones and sine" and "Both directions on one tap".
-- Assumes nothing.
use Rattle.std.specs.Prelude.{Bool, cond, ◌&&◌, ◌||◌, List, [], ◌∷◌, ℕ, zero, suc, ◌-◌, leb, eqb, length, get_or, Option, None, slice_get}
use Rattle.tones.specs.declared.Tones.{Tones}

-- band 1: 1,070 and 1,270 Hz
abbrev pub originate : Tones
originate = record { space = 214; mark = 254 }

-- The table, a row for each band from band 1 on. Bands 1 and 2 have the tones of Bell 103. Bands 3 (1,180 and 980 Hz) and 4 (1,850 and
-- 1,650 Hz) have those of V.21, where mark is the lower tone.
unfoldable pub bands : List Tones
bands =
    originate
    ∷ record { space = 405; mark = 445 }
    ∷ record { space = 236; mark = 196 }
    ∷ record { space = 370; mark = 330 }
    ∷ []

-- the row of a number
unfoldable pub row : ℕ → Option Tones
row zero = None
row (suc n) = slice_get bands n

-- a number of a row
unfoldable pub is_band : ℕ → Bool
is_band band = leb 1 band && leb band (length bands)

-- the bands of a line that carries both directions of a standard, in this order
unfoldable pub is_pair : (first second : ℕ) → Bool
is_pair first second = (eqb first 1 && eqb second 2) || (eqb first 3 && eqb second 4)

-- the tones of a band; a number that is no band gives those of band 1, and no accepted call asks for them
unfoldable pub tones_of : ℕ → Tones
tones_of band = cond (is_band band) (get_or bands (band - 1) originate) originate

-- the step of a bit: 0 is space, and 1, like every other number, is mark
abbrev pub step_of : Tones → ℕ → ℕ
step_of t zero = t.space
step_of t (suc b) = t.mark
