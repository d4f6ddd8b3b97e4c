-- `demodulate` gives back what `modulate` takes: the sheet is read as what it was written from, and its samples, by the promise for a
-- recording without disturbance, as the message.
-- Assumes nothing.
use mathlib.Core.Path.{◌≡◌, sym, ap, ap₂, ◌∙◌}
use mathlib.Core.Bool.{true}
use mathlib.Core.List.{List, [], ◌∷◌}
use Prim.Native.Nat.{ℕ, ◌+◌, ◌-◌, zero-le}
use native.Mathlib.Omega.{arith}
use lib.IntN.{ℤ}
use Rattle.integers.proofs.Near.{altered-none}
use Rattle.calls.specs.Refusals.{first_of}
use Rattle.tones.specs.Samples.{most_samples}
use Rattle.tones.proofs.Laws.{band-digit}
use Rattle.receiver.specs.Step.{events_after}
use Rattle.receiver.specs.Calls.{fresh}
use Rattle.message.specs.Message.{message_of}
use Rattle.promise.specs.Recordings.{AreBytes}
use Rattle.promise.proofs.Message.{message-read}
use Rattle.digits.specs.Numbers.{is_digit}
use Rattle.digits.proofs.Numbers.{is_digit_lem}
use Rattle.sheet.specs.Text.{sheet_of}
use Rattle.sheet.specs.Calls.{most_bytes}
use Rattle.sheet.proofs.RoundTrip.{written_read, read-written}
use Rattle.modulator.specs.Modulate.{send_tests, modulated}
use Rattle.modulator.proofs.Cases.{Printable, printable, sending_accepted, digit-first}
use Rattle.demodulator.specs.Lines.{events_text}
use Rattle.demodulator.specs.Demodulate.{demodulated}
use Rattle.demodulator.proofs.Cases.{reading_accepted}
use Rattle.read_back.specs.ReadBack.{ReadBack}

module _ (band : ℕ) (message : List ℕ) (bytes : AreBytes message) (accepted : first_of (send_tests band message) ≡ 0) where
  abbrev all : Printable band message
  all = printable band message accepted

  abbrev samples : List ℤ
  samples = message_of band message

  digit : is_digit (48 + band) ≡ true
  digit =
      let d = band-digit band all.written.known in
      is_digit_lem (48 + band) (omega arith) (omega arith)

  sent : modulated ((48 + band) ∷ message) ≡ sheet_of band samples
  sent =
      let e : 48 + band - 48 ≡ band = omega arith in
      rw e at (sym (digit-first (48 + band) message digit)) ∙ sym (sending_accepted band message accepted)

  -- no number is added
  promised : events_after (fresh band) samples ≡ message
  promised =
      ap (events_after (fresh band)) (sym (altered-none samples))
      ∙ message-read band all.written.known message bytes all.few [] (record { at = λ k. zero-le })

  read : demodulated (sheet_of band samples) ≡ events_text message
  read =
      let r = written_read band samples most_bytes all.written in
      sym (reading_accepted (sheet_of band samples) (read-written band samples most_bytes all.written most_samples all.written.few))
      ∙ ap events_text (ap₂ (λ (b : ℕ) (xs : List ℤ). events_after (fresh b) xs) r.band_read r.samples_read ∙ promised)

  joined : demodulated (modulated ((48 + band) ∷ message)) ≡ events_text message
  joined = ap demodulated sent ∙ read

pub read_back : ReadBack
read_back = joined
