-- The starred bench examples of the specification, as one statement over the rules.
-- Assumes nothing.
use Rattle.std.specs.Prelude.{◌≡◌, [], ◌∷◌, ℕ, ◌+◌, ◌%◌, pos, take}
use Rattle.sine.specs.Examples.{SineExamples}
use Rattle.tones.specs.Bands.{tones_of}
use Rattle.transmitter.specs.Samples.{send_bits, phase_bits, char_bits}

pub record Examples : Type 0 where
  pub sine : SineExamples
  -- band 1, four samples of space from phase 0: 0, 3867, 5913, 5176
  pub space : take 4 (send_bits (tones_of 1) 0 (0 ∷ [])) ≡ pos 0 ∷ pos 3867 ∷ pos 5913 ∷ pos 5176 ∷ []
  -- band 1, character 41 hexadecimal from phase 0 ends at phase 1280
  pub character : phase_bits (tones_of 1) 0 (char_bits 65) ≡ 1280
  -- one bit advances the phase by 1088 (space) or 448 (mark) in band 1, 1440 or 800 in band 2, from any phase
  pub space_1 : (p : ℕ) → phase_bits (tones_of 1) p (0 ∷ []) ≡ (p + 1088) % 1920
  pub mark_1 : (p : ℕ) → phase_bits (tones_of 1) p (1 ∷ []) ≡ (p + 448) % 1920
  pub space_2 : (p : ℕ) → phase_bits (tones_of 2) p (0 ∷ []) ≡ (p + 1440) % 1920
  pub mark_2 : (p : ℕ) → phase_bits (tones_of 2) p (1 ∷ []) ≡ (p + 800) % 1920
