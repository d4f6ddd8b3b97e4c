-- One program behind the other: what `modulate` takes, `demodulate` gives back.
-- Assumes nothing.
use Rattle.std.specs.Prelude.{◌≡◌, List, ◌∷◌, ℕ, ◌+◌}
use Rattle.calls.specs.Refusals.{first_of}
use Rattle.promise.specs.Recordings.{AreBytes}
use Rattle.modulator.specs.Modulate.{send_tests, modulated}
use Rattle.demodulator.specs.Lines.{events_text}
use Rattle.demodulator.specs.Demodulate.{demodulated}

-- For every band and every message of bytes that `modulate` does not refuse: of what it prints for the band's digit (48 is `0`) and the
-- message, `demodulate` prints the event lines of exactly that message.
abbrev pub ReadBack : Type 0
ReadBack =
    (band : ℕ) (message : List ℕ) → AreBytes message → first_of (send_tests band message) ≡ 0
    → demodulated (modulated ((48 + band) ∷ message)) ≡ events_text message
