-- The lines of events that `demodulate` prints, in ASCII codes: the specification, "Sheet and programs".
-- Assumes nothing.
use Rattle.std.specs.Prelude.{◌≡◌, Bool, true, false, cond, ◌&&◌, ◌||◌, List, [], ◌∷◌, ◌++◌, ℕ, suc, ◌+◌, ◌*◌, ltb, leb}
use Rattle.integers.specs.All.{All}
use Rattle.digits.specs.Numbers.{decimal, hexadecimal}
use Rattle.receiver.specs.Calls.{most_events}

-- ---- kinds of events

-- the numbers from a first to a last one, and the name of their kind
pub record Kind : Type 0 where
  pub first : ℕ
  pub last : ℕ
  pub name : List ℕ

abbrev pub kind : ℕ → ℕ → List ℕ → Kind
kind first last name = record { first = first; last = last; name = name }

-- `char` for 0 to 255, `nostop` for 256, `lost` for 257, `break` for 258, and `doubt` for 259
abbrev pub kinds : List Kind
kinds =
    kind 0 255 (99 ∷ 104 ∷ 97 ∷ 114 ∷ [])
    ∷ kind 256 256 (110 ∷ 111 ∷ 115 ∷ 116 ∷ 111 ∷ 112 ∷ [])
    ∷ kind 257 257 (108 ∷ 111 ∷ 115 ∷ 116 ∷ [])
    ∷ kind 258 258 (98 ∷ 114 ∷ 101 ∷ 97 ∷ 107 ∷ [])
    ∷ kind 259 259 (100 ∷ 111 ∷ 117 ∷ 98 ∷ 116 ∷ [])
    ∷ []

-- a row has a number
abbrev pub is_of : Kind → ℕ → Bool
is_of k event = leb k.first event && leb event k.last

-- a row of the table has it
abbrev pub has_row : List Kind → ℕ → Bool
has_row [] event = false
has_row (k ∷ ks) event = is_of k event || has_row ks event

-- the name of the row that has it; without a row it has none
abbrev pub name_in : List Kind → ℕ → List ℕ
name_in [] event = []
name_in (k ∷ ks) event = cond (is_of k event) k.name (name_in ks event)

abbrev pub has_kind : ℕ → Bool
has_kind = has_row kinds

abbrev pub kind_of : ℕ → List ℕ
kind_of = name_in kinds

-- every number of a list has a kind
abbrev pub HaveKinds : List ℕ → Type 0
HaveKinds = All (λ event. has_kind event ≡ true)

-- ---- lines

-- the character as two hexadecimal digits, or `--` for a number above 255
abbrev pub value_of : ℕ → List ℕ
value_of event = cond (ltb event 256) (hexadecimal event) (45 ∷ 45 ∷ [])

-- kind and value, with one space, 32, before each, and the line feed, 10
abbrev pub fields_of : ℕ → List ℕ
fields_of event = (32 ∷ kind_of event) ++ (32 ∷ value_of event) ++ (10 ∷ [])

-- an event's place and its fields
unfoldable pub event_line : ℕ → ℕ → List ℕ
event_line place event = decimal place ++ fields_of event

-- a line for each event, counted from a place on
unfoldable pub event_lines : ℕ → List ℕ → List ℕ
event_lines place [] = []
event_lines place (event ∷ events) = event_line place event ++ event_lines (suc place) events

-- the line `number kind value`
abbrev pub names_line : List ℕ
names_line = 110 ∷ 117 ∷ 109 ∷ 98 ∷ 101 ∷ 114 ∷ 32 ∷ 107 ∷ 105 ∷ 110 ∷ 100 ∷ 32 ∷ 118 ∷ 97 ∷ 108 ∷ 117 ∷ 101 ∷ 10 ∷ []

-- a reading that is accepted
unfoldable pub events_text : List ℕ → List ℕ
events_text events = names_line ++ event_lines 0 events

-- ---- the most that is printed

-- 4,806 bytes: the names line, and for each event a line of at most 14 bytes: a place of three digits, two spaces, `nostop`, `--` and the line feed
abbrev pub most_printed : ℕ
most_printed = 18 + 14 * most_events
