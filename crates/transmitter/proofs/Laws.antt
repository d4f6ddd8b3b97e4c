-- Laws of sending: lists of steps, of bits and of characters in two parts, lengths, phases, and each sample.
-- Assumes nothing.
use mathlib.Core.Path.{◌≡◌, refl, ◌∙◌, sym, ap}
use mathlib.Core.List.{List, [], ◌∷◌, ◌++◌, append_assoc, append-nil}
use Prim.Native.Nat.{ℕ, zero, suc, ◌+◌, ◌*◌, ◌/◌, ◌%◌, ◌^◌, ◌<◌}
use native.Mathlib.Nat.{suc-mul, not-suc-le-zero, le_of_suc-le-suc}
use native.Mathlib.Numerals.{one-add}
use native.Mathlib.Omega.{arith}
use lib.IntN.{ℤ, pos}
use lib.ListN.{length, get_or, take, replicate, length-append, length-replicate, get_or-append}
use lib.Pow.{shr-shr}
use Rattle.integers.specs.Sums.{total, Bounded}
use Rattle.integers.proofs.Sums.{bounded_none, bounded_more}
use Rattle.calls.proofs.Runs.{RunLaws}
use Rattle.sine.specs.Sine.{S}
use Rattle.sine.specs.Wave.{wave}
use Rattle.sine.proofs.Laws.{S_same, S_bound}
use Rattle.sine.proofs.Wave.{wave-none, wave-more, wave_same}
use Rattle.tones.specs.declared.Tones.{Tones}
use Rattle.tones.specs.Bands.{tones_of, step_of}
use Rattle.transmitter.specs.Samples.{send, phase_after, bit_steps, send_bits, phase_bits, idle_bits, data_bits, char_bits, characters_bits, message_bits}
use Rattle.transmitter.specs.Calls.{samples_of, after_bits}

-- ---- steps

pub length-send : (p : ℕ) (ss : List ℕ) → length (send p ss) ≡ length ss
unfolding send
length-send p [] = refl
length-send p (s ∷ ss) = ap suc (length-send ((p + s) % 1920) ss)

send_append : (p : ℕ) (ss us : List ℕ) → send p (ss ++ us) ≡ send p ss ++ send (phase_after p ss) us
unfolding send phase_after
send_append p [] us = refl
send_append p (s ∷ ss) us = ap (λ (xs : List ℤ). S p ∷ xs) (send_append ((p + s) % 1920) ss us)

phase_append : (p : ℕ) (ss us : List ℕ) → phase_after p (ss ++ us) ≡ phase_after (phase_after p ss) us
unfolding phase_after
phase_append p [] us = refl
phase_append p (s ∷ ss) us = phase_append ((p + s) % 1920) ss us

-- the phase is the sum of all steps
pub phase-total : (p : ℕ) (ss : List ℕ) → phase_after p ss % 1920 ≡ (p + total ss) % 1920
unfolding phase_after total
phase-total p [] = ap (λ (n : ℕ). n % 1920) (omega arith)
phase-total p (s ∷ ss) = omega (arith, phase-total ((p + s) % 1920) ss)

pub phase-below : (p : ℕ) (ss : List ℕ) → p < 1920 → phase_after p ss < 1920
unfolding phase_after
phase-below p [] h = h
phase-below p (s ∷ ss) h = phase-below ((p + s) % 1920) ss (omega arith)

-- each sample is S at the sum of the steps of all samples before it
pub send_at : (p : ℕ) (ss : List ℕ) (i : ℕ) → i < length ss → get_or (send p ss) i (pos 0) ≡ S ((p + total (take i ss)) % 1920)
unfolding send total
send_at p [] i h = absurd (not-suc-le-zero h)
send_at p (s ∷ ss) zero h = S_same p ((p + 0) % 1920) (omega arith)
send_at p (s ∷ ss) (suc i) h =
    send_at ((p + s) % 1920) ss i (le_of_suc-le-suc h)
    ∙ S_same (((p + s) % 1920 + total (take i ss)) % 1920) ((p + (s + total (take i ss))) % 1920) (omega arith)

-- and none is larger than 6,000
pub send_bound : (p : ℕ) (ss : List ℕ) → Bounded 6000 (send p ss)
unfolding send
send_bound p [] = bounded_none
send_bound p (s ∷ ss) = bounded_more (S_bound p) (send_bound ((p + s) % 1920) ss)

-- a run of one step
send-run : (n s p : ℕ) → send p (replicate n s) ≡ wave n s p
unfolding send
send-run zero s p = sym (wave-none s p)
send-run (suc n) s p =
    ap (λ (xs : List ℤ). S p ∷ xs) (send-run n s ((p + s) % 1920) ∙ wave_same n s ((p + s) % 1920) (p + s) (omega arith))
    ∙ sym (wave-more n s p)

phase-run : (n s p : ℕ) → phase_after p (replicate (suc n) s) ≡ (p + suc n * s) % 1920
unfolding phase_after
phase-run zero s p = ap (λ (n : ℕ). n % 1920) (omega arith)
phase-run (suc n) s p = phase-run n s ((p + s) % 1920) ∙ omega (arith, suc-mul (suc n) s)

-- ---- bits

steps_append : (t : Tones) (bs cs : List ℕ) → bit_steps t (bs ++ cs) ≡ bit_steps t bs ++ bit_steps t cs
unfolding bit_steps
steps_append t [] cs = refl
steps_append t (b ∷ bs) cs =
    ap (λ (l : List ℕ). replicate 32 (step_of t b) ++ l) (steps_append t bs cs)
    ∙ sym (append_assoc (replicate 32 (step_of t b)) (bit_steps t bs) (bit_steps t cs))

length_steps : (t : Tones) (bs : List ℕ) → length (bit_steps t bs) ≡ 32 * length bs
unfolding bit_steps
length_steps t [] = refl
length_steps t (b ∷ bs) =
    length-append (replicate 32 (step_of t b)) (bit_steps t bs) ∙ omega (arith, length-replicate 32 (step_of t b), length_steps t bs)

pub length_bits : (t : Tones) (p : ℕ) (bs : List ℕ) → length (send_bits t p bs) ≡ 32 * length bs
length_bits t p bs = length-send p (bit_steps t bs) ∙ length_steps t bs

pub send_bits_append : (t : Tones) (p : ℕ) (bs cs : List ℕ) → send_bits t p (bs ++ cs) ≡ send_bits t p bs ++ send_bits t (phase_bits t p bs) cs
send_bits_append t p bs cs = ap (send p) (steps_append t bs cs) ∙ send_append p (bit_steps t bs) (bit_steps t cs)

pub phase_bits_append : (t : Tones) (p : ℕ) (bs cs : List ℕ) → phase_bits t p (bs ++ cs) ≡ phase_bits t (phase_bits t p bs) cs
phase_bits_append t p bs cs = ap (phase_after p) (steps_append t bs cs) ∙ phase_append p (bit_steps t bs) (bit_steps t cs)

-- one bit is 32 samples of its tone
module _ (t : Tones) (p b : ℕ) where
  run : bit_steps t (b ∷ []) ≡ replicate 32 (step_of t b)
  unfolding bit_steps
  run = append-nil (replicate 32 (step_of t b))

  pub send_bit : send_bits t p (b ∷ []) ≡ wave 32 (step_of t b) p
  send_bit = ap (send p) run ∙ send-run 32 (step_of t b) p

  pub phase_bit : phase_bits t p (b ∷ []) ≡ (p + 32 * step_of t b) % 1920
  phase_bit = ap (phase_after p) run ∙ phase-run 31 (step_of t b) p

-- sending bits from a state is a run over them
pub sending_laws : RunLaws after_bits samples_of
unfolding send phase_after bit_steps
sending_laws =
    record {
      after_none = λ s. refl;
      gives_none = λ s. refl;
      after_append = λ s xs ys. λ i. record { band = s.band; phase = phase_bits_append (tones_of s.band) s.phase xs ys i };
      gives_append = λ s. send_bits_append (tones_of s.band) s.phase;
    }

-- ---- characters

pub length_char : (byte : ℕ) → length (char_bits byte) ≡ 10
unfolding char_bits data_bits
length_char byte = refl

pub length-characters : (bytes : List ℕ) → length (characters_bits bytes) ≡ 10 * length bytes
unfolding characters_bits
length-characters [] = refl
length-characters (x ∷ xs) = length-append (char_bits x) (characters_bits xs) ∙ omega (arith, length_char x, length-characters xs)

pub length-message : (t : Tones) (p : ℕ) (bytes : List ℕ) → length (send_bits t p (message_bits bytes)) ≡ 192 + 320 * length bytes
length-message t p bytes =
    length_bits t p (message_bits bytes) ∙ omega (arith, length-append (characters_bits bytes) idle_bits, length-characters bytes)

-- a message in its three parts
pub message-parts : (t : Tones) (p : ℕ) (bytes : List ℕ) → send_bits t p (message_bits bytes)
    ≡ send_bits t p idle_bits
    ++ (send_bits t (phase_bits t p idle_bits) (characters_bits bytes) ++ send_bits t (phase_bits t (phase_bits t p idle_bits) (characters_bits bytes)) idle_bits)
message-parts t p bytes =
    send_bits_append t p idle_bits (characters_bits bytes ++ idle_bits)
    ∙ ap (λ (xs : List ℤ). send_bits t p idle_bits ++ xs) (send_bits_append t (phase_bits t p idle_bits) (characters_bits bytes) idle_bits)

-- the bits of a character by number: 0 the start bit, 1 to 8 the data bits, and then the stop bit
abbrev pub bit_at : ℕ → ℕ → ℕ
bit_at byte m = get_or (char_bits byte) m 1

data_at : (n x i : ℕ) → i < n → get_or (data_bits n x) i 1 ≡ x / 2 ^ i % 2
unfolding data_bits
data_at zero x i h = absurd (not-suc-le-zero h)
data_at (suc n) x zero h = omega arith
data_at (suc n) x (suc i) h = data_at n (x / 2) i (le_of_suc-le-suc h) ∙ ap (λ (q : ℕ). q % 2) (shr-shr x 1 i ∙ ap (λ (e : ℕ). x / 2 ^ e) (one-add i))

length_data : (byte : ℕ) → length (data_bits 8 byte) ≡ 8
unfolding data_bits
length_data byte = refl

pub bit_start : (byte : ℕ) → bit_at byte 0 ≡ 0
unfolding char_bits
bit_start byte = refl

pub bit_data : (byte i : ℕ) → i < 8 → bit_at byte (suc i) ≡ byte / 2 ^ i % 2
unfolding char_bits
bit_data byte i h = get_or-append (data_bits 8 byte) (1 ∷ []) 1 i (omega (arith, length_data byte)) ∙ data_at 8 byte i h

pub bit_stop : (byte : ℕ) → bit_at byte 9 ≡ 1
unfolding char_bits data_bits
bit_stop byte = refl
