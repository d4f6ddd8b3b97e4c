-- The cases of what `demodulate` prints, each under the test that leads to it.
-- Assumes nothing.
use mathlib.Core.Path.{◌≡◌}
use mathlib.Core.List.{List}
use Prim.Native.Nat.{ℕ}
use borrow.Author.Tests.{ne_eqb}
use Rattle.calls.specs.Refusals.{first_of}
use Rattle.tones.specs.Samples.{most_samples}
use Rattle.receiver.specs.Step.{events_after}
use Rattle.receiver.specs.Calls.{fresh}
use Rattle.sheet.specs.Parse.{band_in, samples_of}
use Rattle.sheet.specs.Calls.{read_tests}
use Rattle.printing.specs.Printing.{refusal_lines}
use Rattle.demodulator.specs.Lines.{events_text}
use Rattle.demodulator.specs.Demodulate.{demodulated}

module _ (text : List ℕ) where
  pub reading_refused : (n : ℕ) → n ≡ first_of (read_tests text most_samples) → (n ≡ 0 → ⊥) → refusal_lines n ≡ demodulated text
  unfolding demodulated
  reading_refused n e h = rw (← e, ne_eqb n 0 h)

  pub reading_accepted : first_of (read_tests text most_samples) ≡ 0 → events_text (events_after (fresh (band_in text)) (samples_of text)) ≡ demodulated text
  unfolding demodulated
  reading_accepted e = rw e
