-- Bits and characters as samples: the specification, "Transmitter".
-- Assumes nothing.
use Rattle.std.specs.Prelude.{List, [], ◌∷◌, ◌++◌, ℕ, zero, suc, ◌+◌, ◌/◌, ◌%◌, ℤ, replicate}
use Rattle.sine.specs.Sine.{S}
use Rattle.tones.specs.declared.Tones.{Tones}
use Rattle.tones.specs.Bands.{step_of}

-- ---- samples, from a phase and a step for each sample

-- each sample is S(phase); after it the phase grows by the step, modulo 1,920
unfoldable pub send : ℕ → List ℕ → List ℤ
send phase [] = []
send phase (step ∷ steps) = S phase ∷ send ((phase + step) % 1920) steps

-- the phase after them
unfoldable pub phase_after : ℕ → List ℕ → ℕ
phase_after phase [] = phase
phase_after phase (step ∷ steps) = phase_after ((phase + step) % 1920) steps

-- ---- bits: 32 samples each, with the step of the bit's tone

unfoldable pub bit_steps : Tones → List ℕ → List ℕ
bit_steps t [] = []
bit_steps t (bit ∷ bits) = replicate 32 (step_of t bit) ++ bit_steps t bits

abbrev pub send_bits : Tones → ℕ → List ℕ → List ℤ
send_bits t phase bits = send phase (bit_steps t bits)

abbrev pub phase_bits : Tones → ℕ → List ℕ → ℕ
phase_bits t phase bits = phase_after phase (bit_steps t bits)

-- ---- what the calls send

-- idle: three mark bits
abbrev pub idle_bits : List ℕ
idle_bits = 1 ∷ 1 ∷ 1 ∷ []

-- the lowest n bits of a number, from the least significant
unfoldable pub data_bits : ℕ → ℕ → List ℕ
data_bits zero x = []
data_bits (suc n) x = x % 2 ∷ data_bits n (x / 2)

-- a character: a start bit 0, eight data bits, a stop bit 1
unfoldable pub char_bits : ℕ → List ℕ
char_bits byte = 0 ∷ data_bits 8 byte ++ (1 ∷ [])

-- bytes, one character after the other
unfoldable pub characters_bits : List ℕ → List ℕ
characters_bits [] = []
characters_bits (byte ∷ bytes) = char_bits byte ++ characters_bits bytes

-- a message: leader, characters and trailer
abbrev pub message_bits : List ℕ → List ℕ
message_bits bytes = idle_bits ++ (characters_bits bytes ++ idle_bits)
