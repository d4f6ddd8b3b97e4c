-- A call's refusals as a table: the specification, "Refused calls". A number is answered if and only if its condition is the first in the
-- table's order that holds.
-- Assumes nothing.
use Rattle.std.specs.Prelude.{◌≡◌, Bool, true, false, cond, List, [], ◌∷◌, ℕ, Result, Ok, Err}
use Rattle.calls.specs.declared.Refusal.{Refusal}
use Rattle.calls.specs.declared.Refusal.TheVariants.{UnknownBand, StateOutOfRange, TooMany, TooFewPlaces, SampleOutOfRange, SheetTooLong, NotASheet, NotAPair}

-- its number in the table; 8, of bands that are no pair, is that of "Both directions on one tap"
abbrev pub number_of : Refusal → ℕ
number_of UnknownBand = 1
number_of StateOutOfRange = 2
number_of TooMany = 3
number_of TooFewPlaces = 4
number_of SampleOutOfRange = 5
number_of SheetTooLong = 6
number_of NotASheet = 7
number_of NotAPair = 8

-- the number that is returned: 0, or that of the refusal
abbrev pub refusal_number : {A : Type 0} → Result A Refusal → ℕ
refusal_number (Ok x) = 0
refusal_number (Err r) = number_of r

-- a number, and whether its condition holds
pub record Test : Type 0 where
  pub number : ℕ
  pub holds : Bool

abbrev pub test : ℕ → Bool → Test
test number holds = record { number = number; holds = holds }

-- the number of the first test that holds, or 0
abbrev pub first_of : List Test → ℕ
first_of [] = 0
first_of (t ∷ ts) = cond t.holds t.number (first_of ts)

-- the same, said of a number: it is that of a test that holds while none before it does, or it is 0 and none holds
pub data IsFirst : List Test → ℕ → Type 0 where
  none : IsFirst [] 0
  this : {t : Test} {ts : List Test} → t.holds ≡ true → IsFirst (t ∷ ts) t.number
  behind : {t : Test} {ts : List Test} {n : ℕ} → t.holds ≡ false → IsFirst ts n → IsFirst (t ∷ ts) n
