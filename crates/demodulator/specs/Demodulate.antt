-- What `demodulate` prints, from what it reads: the specification, "Sheet and programs".
-- Assumes nothing.
use Rattle.std.specs.Prelude.{◌≡◌, cond, List, ℕ, suc, eqb, take}
use Rattle.calls.specs.Refusals.{first_of}
use Rattle.tones.specs.Samples.{most_samples}
use Rattle.receiver.specs.Step.{events_after}
use Rattle.receiver.specs.Calls.{fresh}
use Rattle.sheet.specs.Parse.{band_in, samples_of}
use Rattle.sheet.specs.Calls.{most_bytes, read_tests}
use Rattle.printing.specs.Printing.{refusal_lines}
use Rattle.demodulator.specs.Lines.{events_text}

-- the events of a fresh receiver of the sheet's band, or the refusal of a reading for which there is always room
unfoldable pub demodulated : List ℕ → List ℕ
demodulated text =
    let n : ℕ = first_of (read_tests text most_samples) in
    cond (eqb n 0) (events_text (events_after (fresh (band_in text)) (samples_of text))) (refusal_lines n)

-- ---- long inputs

-- the most bytes that the program reads: one more than a sheet has, so that a sheet that is too long is refused
abbrev pub most_input : ℕ
most_input = suc most_bytes

-- they give what the whole input gives
abbrev pub CutInput : Type 0
CutInput = (input : List ℕ) → demodulated (take most_input input) ≡ demodulated input
