-- A message in one call: leader, characters and trailer, each as the specification's "Transmitter" has it, from the fresh transmitter of a
-- band. The call is ours; its numbers are after the specification's "Refused calls", and it has no state.
-- Assumes nothing.
use Rattle.std.specs.Prelude.{not, List, [], ◌∷◌, ℕ, ◌+◌, ◌*◌, ltb, ℤ, length}
use Rattle.calls.specs.Refusals.{Test, test}
use Rattle.calls.specs.Outcome.{Outcome, unless_refused, accepted}
use Rattle.tones.specs.Bands.{is_band, tones_of}
use Rattle.transmitter.specs.Samples.{send_bits, message_bits}
use Rattle.transmitter.specs.Calls.{most_characters}

-- the samples of a message
abbrev pub message_of : (band : ℕ) (bytes : List ℕ) → List ℤ
message_of band bytes = send_bits (tones_of band) 0 (message_bits bytes)

-- how many they are for n characters
abbrev pub samples_for : ℕ → ℕ
samples_for n = 192 + 320 * n

-- 1 no band, 3 too many characters, 4 too few places
abbrev pub message_tests : (band characters places : ℕ) → List Test
message_tests band characters places =
    test 1 (not (is_band band))
    ∷ test 3 (ltb most_characters characters)
    ∷ test 4 (ltb places (samples_for characters))
    ∷ []

unfoldable pub send_of : ℕ → List ℕ → List ℤ → Outcome Unit (List ℤ)
send_of band bytes lent =
    unless_refused (message_tests band (length bytes) (length lent)) tt lent (accepted tt (message_of band bytes) lent)
