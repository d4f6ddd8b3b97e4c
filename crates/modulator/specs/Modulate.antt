-- What `modulate` prints, from what it reads: the specification, "Sheet and programs".
-- Assumes nothing.
use Rattle.std.specs.Prelude.{◌≡◌, cond, List, [], ◌∷◌, ◌++◌, ℕ, ◌+◌, ◌-◌, eqb, length, take}
use Rattle.calls.specs.Refusals.{Test, first_of}
use Rattle.calls.specs.Outcome.{Outcome, unless_refused, accepted}
use Rattle.transmitter.specs.Calls.{most_characters}
use Rattle.message.specs.Message.{message_of, samples_for, message_tests}
use Rattle.digits.specs.Numbers.{is_digit}
use Rattle.sheet.specs.Text.{sheet_of}
use Rattle.sheet.specs.Calls.{most_bytes, write_tests}
use Rattle.printing.specs.Printing.{refusal_lines}

-- the refusals of the message, and behind them those of its sheet; there are places for the samples of the longest message and for the
-- longest sheet
abbrev pub send_tests : ℕ → List ℕ → List Test
send_tests band bytes =
    message_tests band (length bytes) (samples_for most_characters) ++ write_tests band (message_of band bytes) most_bytes

-- the sheet, or the refusal
unfoldable pub sending_of : ℕ → List ℕ → List ℕ
sending_of band bytes =
    let n : ℕ = first_of (send_tests band bytes) in
    cond (eqb n 0) (sheet_of band (message_of band bytes)) (refusal_lines n)

-- a band digit, and every byte behind it as a character; empty input, or a first byte that is no digit, is refused with 1
unfoldable pub modulated : List ℕ → List ℕ
modulated [] = refusal_lines 1
modulated (first ∷ bytes) = cond (is_digit first) (sending_of (first - 48) bytes) (refusal_lines 1)

-- ---- how much of its input the program reads

-- a digit, the most characters and one byte more, by which it is seen that there are more
abbrev pub most_input : ℕ
most_input = 2 + most_characters

-- what is printed does not depend on what is behind that
abbrev pub CutInput : Type 0
CutInput = (input : List ℕ) → modulated (take most_input input) ≡ modulated input

-- ---- the message and its sheet as one call; there is no state

unfoldable pub sheet_call : ℕ → List ℕ → List ℕ → Outcome Unit (List ℕ)
sheet_call band bytes lent =
    unless_refused (send_tests band bytes) tt lent (accepted tt (sheet_of band (message_of band bytes)) lent)
