-- Lists of sending calls (the specification, "Whole recordings"), and demand 2 over them: each sample is S at the sum of all steps so
-- far (the specification, "Transmitter"; decision 15).
-- Assumes nothing.
use Rattle.std.specs.Prelude.{◌≡◌, true, List, ℕ, ◌+◌, ◌%◌, ◌<◌, ℤ, pos, length, get_or, take}
use Rattle.integers.specs.Sums.{total}
use Rattle.calls.specs.Outcome.{Outcome, front}
use Rattle.calls.specs.Lists.{joined, state_after}
use Rattle.sine.specs.Sine.{S}
use Rattle.tones.specs.Bands.{tones_of}
use Rattle.transmitter.specs.declared.Transmitter.{Transmitter}
use Rattle.transmitter.specs.Samples.{bit_steps, idle_bits, characters_bits}
use Rattle.transmitter.specs.Calls.{in_range, idle_of, characters_of}

-- a call with what it is handed: the bytes, and the lent output as it stands on entry
pub data Call : Type 0 where
  idle : List ℤ → Call
  characters : List ℕ → List ℤ → Call

-- the outcome of a call, as its contract has it
abbrev pub call_of : Transmitter → Call → Outcome Transmitter (List ℤ)
call_of s (idle lent) = idle_of s lent
call_of s (characters bytes lent) = characters_of s bytes lent

-- what a call is asked to send
abbrev pub bits_of : Call → List ℕ
bits_of (idle lent) = idle_bits
bits_of (characters bytes lent) = characters_bits bytes

-- the samples that the accepted calls wrote, as they stood on return, joined in order
abbrev pub samples_written : Transmitter → List Call → List ℤ
samples_written = joined call_of (λ o c. front o)

-- the step of each of them
abbrev pub steps_sent : Transmitter → List Call → List ℕ
steps_sent s calls = bit_steps (tones_of s.band) (joined call_of (λ o c. bits_of c) s calls)

-- The phase runs through all accepted calls and is never reset: it is the sum of the steps of all samples so far.
pub record Continuous (s : Transmitter) (calls : List Call) : Type 0 where
  -- every step has its sample
  pub long : length (samples_written s calls) ≡ length (steps_sent s calls)
  -- sample i is S at the first phase and all steps before it, modulo 1,920
  pub sample : (i : ℕ) → i < length (steps_sent s calls)
      → get_or (samples_written s calls) i (pos 0) ≡ S ((s.phase + total (take i (steps_sent s calls))) % 1920)
  -- the phase that is left is the sum of them all
  pub phase : (state_after call_of s calls).phase % 1920 ≡ (s.phase + total (steps_sent s calls)) % 1920
  pub band : (state_after call_of s calls).band ≡ s.band
  -- a state in its ranges stays in them
  pub range : in_range s ≡ true → in_range (state_after call_of s calls) ≡ true
