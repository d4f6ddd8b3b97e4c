-- The lines that are printed: their lengths, and a list of lines that is put one by one.
-- Assumes nothing.
use mathlib.Core.Path.{◌≡◌, refl, sym, ap, ◌∙◌}
use mathlib.Core.List.{List, [], ◌∷◌, ◌++◌, append-nil, append_assoc}
use Prim.Native.Nat.{ℕ, suc, ◌+◌, ◌*◌, ◌<◌, ◌≤◌, zero-le}
use native.Mathlib.Nat.{zero-add, add-zero}
use native.Mathlib.Omega.{arith}
use lib.Dec.{ltb}
use lib.ListN.{length, get_or, take, length-append, length-take}
use lib.Seq.{sets}
use Rattle.std.proofs.lemmas.List.{take_more}
pub use Rattle.integers.proofs.All.{all_at}
use Rattle.integers.proofs.Tests.{cond_case}
use Rattle.integers.proofs.Lists.{sets_append}
use Rattle.digits.specs.Numbers.{decimal}
use Rattle.digits.proofs.Numbers.{length-decimal, length-hexadecimal}
use Rattle.receiver.specs.Calls.{most_events}
use Rattle.demodulator.specs.Lines.{kind_of, value_of, fields_of, event_line, event_lines, names_line, events_text, most_printed}
pub use Rattle.demodulator.proofs.Rows.{length-kind}

-- ---- lengths

pub length_value : (event : ℕ) → length (value_of event) ≡ 2
length_value event = cond_case (λ (l : List ℕ). length l ≡ 2) (ltb event 256) _ _ (length-hexadecimal event) refl

-- the longest kind and two more places, two spaces and the line feed
length_fields : (event : ℕ) → length (fields_of event) ≤ 11
length_fields event =
    omega (
      arith,
      length-append ((32 ∷ kind_of event) ++ (32 ∷ value_of event)) (10 ∷ []),
      length-append (32 ∷ kind_of event) (32 ∷ value_of event),
      length-kind event,
      length_value event,
    )

length_line : (place event : ℕ) → place < 1000 → length (event_line place event) ≤ 14
unfolding event_line
length_line place event h = omega (arith, length-append (decimal place) (fields_of event), length-decimal 2 place h, length_fields event)

length-lines : (place : ℕ) (events : List ℕ) → place + length events ≤ 1000 → length (event_lines place events) ≤ 14 * length events
unfolding event_lines
length-lines place [] h = zero-le
length-lines place (event ∷ events) h =
    omega (
      arith,
      length-append (event_line place event) (event_lines (suc place) events),
      length_line place event (omega arith),
      length-lines (suc place) events (omega arith),
    )

-- the names line is 18 bytes, and the other lines stand behind it
pub text-length : (events : List ℕ) → length (events_text events) ≡ 18 + length (event_lines 0 events)
unfolding events_text
text-length events = length-append names_line (event_lines 0 events)

pub few_digits : (place : ℕ) → place < 1000 → length (decimal place) ≤ 3
few_digits place = length-decimal 2 place

-- for the search of the check: how long the parts of a line are
pub ruleset by_parts = (few_digits, length-kind, length_value)

-- ---- lines that are put one by one

-- one more line
lines_append : (place n : ℕ) (events : List ℕ) (event : ℕ) → n ≡ place + length events
    → event_lines place (events ++ (event ∷ [])) ≡ event_lines place events ++ event_line n event
unfolding event_lines
lines_append place n [] event e = rw (e, add-zero) (append-nil (event_line place event))
lines_append place n (x ∷ events) event e =
    ap (λ (l : List ℕ). event_line place x ++ l) (lines_append (suc place) n events event (omega arith))
    ∙ sym (append_assoc (event_line place x) (event_lines (suc place) events) (event_line n event))

module _ (events : List ℕ) (place : ℕ) where
  -- the names line and those of the events before a place
  abbrev pub text_before : List ℕ
  text_before = events_text (take place events)

  pub before_more : place < length events
      → events_text (take (place + 1) events) ≡ text_before ++ event_line place (get_or events place 0)
  unfolding events_text
  before_more h =
      ap (λ (l : List ℕ). names_line ++ event_lines 0 l) (take_more events place 0 h)
      ∙ ap (λ (l : List ℕ). names_line ++ l)
      (lines_append 0 place (take place events) (get_or events place 0) (omega (arith, length-take place events)))

  pub put_more : (lent : List ℕ) → place < length events
      → sets (sets lent 0 text_before) (length text_before) (event_line place (get_or events place 0))
      ≡ sets lent 0 (events_text (take (place + 1) events))
  put_more lent h =
      let line = event_line place (get_or events place 0) in
      ap (λ (k : ℕ). sets (sets lent 0 text_before) k line) (sym (zero-add (length text_before)))
      ∙ sym (ap (sets lent 0) (before_more h) ∙ sets_append lent 0 text_before line)

pub before_none : (events : List ℕ) → text_before events 0 ≡ names_line
unfolding events_text event_lines
before_none events = refl

-- all of them, and so those before a place, have room
pub text-most : (events : List ℕ) → length events ≤ most_events → length (events_text events) ≤ most_printed
unfolding events_text
text-most events few = omega (arith, text-length events, length-lines 0 events (omega arith))

pub before-most : (events : List ℕ) (place : ℕ) → length events ≤ most_events → length (text_before events place) ≤ most_printed
before-most events place few = text-most (take place events) (omega (arith, length-take place events))

-- for the search of the check: how long they are, and that each event is known
pub ruleset by_lines = (before-most, text-most, all_at)
