-- The transmitter's calls: the specification, "Transmitter" and "Refused calls". Each has its table of refusals, in the specification's order.
-- Assumes nothing.
use Rattle.std.specs.Prelude.{Bool, cond, not, ◌&&◌, List, [], ◌∷◌, ℕ, ◌*◌, ltb, ℤ, length}
use Rattle.calls.specs.Refusals.{Test, test, first_of}
use Rattle.calls.specs.Outcome.{Opening, Outcome, unless_refused, accepted}
use Rattle.tones.specs.Bands.{is_band, tones_of}
use Rattle.transmitter.specs.declared.Transmitter.{Transmitter}
use Rattle.transmitter.specs.Samples.{send_bits, phase_bits, idle_bits, characters_bits}

-- a fresh transmitter has a band and phase 0
abbrev pub fresh : ℕ → Transmitter
fresh band = record { band = band; phase = 0 }

-- opening: the fresh state of the band, or 1 and the fresh state of band 1
abbrev pub open_tests : ℕ → List Test
open_tests band = test 1 (not (is_band band)) ∷ []

unfoldable pub open_of : ℕ → Opening Transmitter
open_of band = record { number = first_of (open_tests band); state = fresh (cond (is_band band) band 1) }

-- the ranges of a state: a known band, and phase 0 to 1,919
unfoldable pub in_range : Transmitter → Bool
in_range s = is_band s.band && ltb s.phase 1920

-- the samples of bits that are sent from a state, and the state after them
abbrev pub samples_of : Transmitter → List ℕ → List ℤ
samples_of s bits = send_bits (tones_of s.band) s.phase bits

abbrev pub after_bits : Transmitter → List ℕ → Transmitter
after_bits s bits = record { band = s.band; phase = phase_bits (tones_of s.band) s.phase bits }

-- a call that is accepted and sends bits
abbrev pub sent : Transmitter → List ℕ → List ℤ → Outcome Transmitter (List ℤ)
sent s bits lent = accepted (after_bits s bits) (samples_of s bits) lent

-- idle: 2 or 4, or three mark bits
abbrev pub idle_tests : (s : Transmitter) (places : ℕ) → List Test
idle_tests s places = test 2 (not (in_range s)) ∷ test 4 (ltb places 96) ∷ []

unfoldable pub idle_of : Transmitter → List ℤ → Outcome Transmitter (List ℤ)
idle_of s lent = unless_refused (idle_tests s (length lent)) s lent (sent s idle_bits lent)

-- the most bytes of one call
abbrev pub most_characters : ℕ
most_characters = 100

-- characters: 2, 3 or 4, or the bits of the bytes
abbrev pub characters_tests : (s : Transmitter) (characters places : ℕ) → List Test
characters_tests s characters places =
    test 2 (not (in_range s))
    ∷ test 3 (ltb most_characters characters)
    ∷ test 4 (ltb places (320 * characters))
    ∷ []

unfoldable pub characters_of : Transmitter → List ℕ → List ℤ → Outcome Transmitter (List ℤ)
characters_of s bytes lent = unless_refused (characters_tests s (length bytes) (length lent)) s lent (sent s (characters_bits bytes) lent)
