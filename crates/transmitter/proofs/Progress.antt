-- Sending bit by bit or character by character into a buffer: what is still to be sent, sent from where the loop stands, gives
-- the whole. From the laws of sending and of a buffer being filled.
-- Assumes nothing.
use mathlib.Core.Path.{◌≡◌, refl, ◌∙◌, sym, ap}
use mathlib.Core.List.{List, [], ◌∷◌, ◌++◌}
use Prim.Native.Nat.{ℕ, ◌+◌, ◌*◌, ◌%◌, ◌<◌, ◌≤◌}
use native.Mathlib.Numerals.{add-one}
use lib.IntN.{ℤ}
use lib.ListN.{length, get_or, drop, drop_of_length-le}
use lib.Seq.{sets, drop-cons}
use Rattle.calls.proofs.Filling.{Filling, filling_start, filling_more, filling_end}
use Rattle.sine.specs.Wave.{wave}
use Rattle.tones.specs.Bands.{tones_of, step_of}
use Rattle.transmitter.specs.declared.Transmitter.{Transmitter}
use Rattle.transmitter.specs.Samples.{characters_bits, char_bits}
use Rattle.transmitter.specs.Calls.{samples_of, after_bits}
use Rattle.transmitter.proofs.Laws.{length_bits, send_bit, phase_bit, sending_laws}

-- the bits `all` are sent from the state s into the buffer `lent` from the place `from` on; `rest` of them is still to be sent, from
-- the state `next`, into the buffer as it is `now`, from the place `at` on
pub record Progress (s : Transmitter) (all : List ℕ) (lent : List ℤ) (from : ℕ) (next : Transmitter) (rest : List ℕ) (now : List ℤ) (at : ℕ) : Type 0 where
  pub states : after_bits next rest ≡ after_bits s all
  pub filling : Filling lent from (samples_of s all) now at (samples_of next rest)

pub progress_start : (s : Transmitter) (all : List ℕ) (lent : List ℤ) (from : ℕ) → Progress s all lent from s all lent from
progress_start s all lent from = record { states = refl; filling = filling_start lent from (samples_of s all) }

module _ {s : Transmitter} {all : List ℕ} {lent : List ℤ} {from : ℕ} {next : Transmitter} {rest : List ℕ} {now : List ℤ} {at : ℕ}
    (h : Progress s all lent from next rest now at) where
  -- the bits xs are sent
  pub progress_more : (xs ys : List ℕ) (next' : Transmitter) (at' : ℕ) (now' : List ℤ) → rest ≡ xs ++ ys → next' ≡ after_bits next xs
      → at' ≡ at + 32 * length xs → now' ≡ sets now at (samples_of next xs) → Progress s all lent from next' ys now' at'
  progress_more xs ys next' at' now' split es ea en =
      rw (es, en, place)
      (record {
        states = sym (sending_laws.after_append next xs ys) ∙ ap (after_bits next) (sym split) ∙ h.states;
        filling = filling_more (samples_of next xs) (samples_of (after_bits next xs) ys) (rw (split, sending_laws.gives_append next xs ys) at h.filling);
      })
    where
      place : at' ≡ at + length (samples_of next xs)
      place = ea ∙ ap (λ (n : ℕ). at + n) (sym (length_bits (tones_of next.band) next.phase xs))

  -- one bit is sent: 32 samples of its step from the phase
  pub progress_bit : (b : ℕ) (ys : List ℕ) (step phase at' : ℕ) (samples now' : List ℤ) → rest ≡ (b ∷ []) ++ ys
      → step ≡ step_of (tones_of next.band) b → samples ≡ wave 32 step next.phase → phase ≡ (next.phase + 32 * step) % 1920
      → at' ≡ at + 32 → now' ≡ sets now at samples → Progress s all lent from (record { band = next.band; phase = phase }) ys now' at'
  progress_bit b ys step phase at' samples now' split es ew ep ea eo =
      let t = tones_of next.band in
      progress_more (b ∷ []) ys (record { band = next.band; phase = phase }) at' now' split
      (ap (λ (p : ℕ). let s : Transmitter = record { band = next.band; phase = p } in s)
      (ep ∙ ap (λ (u : ℕ). (next.phase + 32 * u) % 1920) es ∙ sym (phase_bit t next.phase b)))
      ea
      (eo ∙ ap (sets now at) (ew ∙ ap (λ (u : ℕ). wave 32 u next.phase) es ∙ sym (send_bit t next.phase b)))

  -- nothing is left
  pub record AllSent : Type 0 where
    pub state : next ≡ after_bits s all
    pub filled : now ≡ sets lent from (samples_of s all)

  pub progress_end : rest ≡ [] → AllSent
  progress_end e =
      record {
        state = sym (sending_laws.after_none next) ∙ sym (ap (after_bits next) e) ∙ h.states;
        filled = filling_end (rw (e, sending_laws.gives_none next) at h.filling);
      }

-- the bits, and the characters' bits, that are left at an index
pub bits_left : (bits : List ℕ) (i : ℕ) → i < length bits → drop i bits ≡ (get_or bits i 0 ∷ []) ++ drop (i + 1) bits
bits_left bits i h = rw add-one (drop-cons bits i 0 h)

pub characters_left : (bytes : List ℕ) (i : ℕ) → i < length bytes → characters_bits (drop i bytes) ≡ char_bits (get_or bytes i 0) ++ characters_bits (drop (i + 1) bytes)
unfolding characters_bits
characters_left bytes i h = ap characters_bits (bits_left bytes i h)

pub characters-none : (bytes : List ℕ) (i : ℕ) → length bytes ≤ i → characters_bits (drop i bytes) ≡ []
unfolding characters_bits
characters-none bytes i h = ap characters_bits (drop_of_length-le bytes {i = i} h)
