-- A call that writes to the buffer's places from one on, and the three calls that make a message, one behind the other.
-- Assumes nothing.
use mathlib.Core.Path.{◌≡◌, sym, ap, ap₂, ◌∙◌}
use mathlib.Core.Bool.{true}
use mathlib.Core.List.{List, ◌++◌, append-nil, append_assoc}
use Prim.Native.Nat.{ℕ, ◌+◌, ◌*◌, ◌-◌, ◌≤◌}
use native.Mathlib.Omega.{arith}
use borrow.Rule.Slice.PartMut.{mid_of, post_of, put_mid}
use lib.IntN.{ℤ}
use lib.ListN.{length, take, drop, length-drop, drop_of_length-le}
use lib.Seq.{sets, sets-eq, drop-drop, take_all}
use Rattle.integers.proofs.Lists.{sets_three, sets-front}
use Rattle.calls.specs.declared.Answer.{Answer}
use Rattle.calls.specs.Outcome.{Outcome, outcome}
use Rattle.tones.specs.Bands.{is_band, tones_of}
use Rattle.transmitter.specs.declared.Transmitter.{Transmitter}
use Rattle.transmitter.specs.Samples.{bit_steps, idle_bits, characters_bits}
use Rattle.transmitter.specs.Calls.{fresh, in_range, samples_of, after_bits, sent}
use Rattle.transmitter.proofs.Laws.{length_bits, length-characters, message-parts}
use Rattle.transmitter.proofs.Rules.{fresh_kept}
use Rattle.transmitter.proofs.Lists.{steps_kept}
use Rattle.message.specs.Message.{message_of}

-- ---- the part of a buffer from a place on

module _ (old : List ℤ) (at : ℕ) where
  abbrev pub part : List ℤ
  part = mid_of at (length old - at) old

  whole : part ≡ drop at old
  whole = take_all (length old - at) (drop at old) (omega (arith, length-drop at old))

  pub part_room : (n : ℕ) → at + n ≤ length old → n ≤ length part
  part_room n h = rw whole (omega (arith, length-drop at old))

  -- what fills its front
  filled : (xs : List ℤ) → at + length xs ≤ length old → put_mid at (length old - at) old (xs ++ drop (length xs) part) ≡ sets old at xs
  filled xs h =
      let behind : post_of at (length old - at) old ≡ _ = drop_of_length-le (drop at old) {i = length old - at} (omega (arith, length-drop at old)) in
      ap₂ (λ (l r : List ℤ). take at old ++ (xs ++ drop (length xs) l ++ r)) whole behind
      ∙ ap (λ (l : List ℤ). take at old ++ l) (append-nil (xs ++ drop (length xs) (drop at old)) ∙ ap (λ (l : List ℤ). xs ++ l) (drop-drop (length xs) at old))
      ∙ sym (sets-eq xs old at h ∙ append_assoc (take at old) xs (drop (at + length xs) old))

-- a call that was accepted: a, t and `now` are what it answered, the state that it gave, and what it left
pub record Put (s : Transmitter) (bits : List ℕ) (old : List ℤ) (at : ℕ) (t : Transmitter) (now : List ℤ) : Type 0 where
  pub state : t ≡ after_bits s bits
  pub lent : now ≡ sets old at (samples_of s bits)

module _ (s : Transmitter) (bits : List ℕ) (old : List ℤ) (a : Answer) (t : Transmitter) (now : List ℤ) where
  long : length (samples_of s bits) ≡ 32 * length bits
  long = length_bits (tones_of s.band) s.phase bits

  -- it was lent the whole buffer
  pub put_whole : 32 * length bits ≤ length old → outcome a t now ≡ sent s bits old → Put s bits old 0 t now
  put_whole h e =
      record {
        state = ap (λ (o : Outcome Transmitter (List ℤ)). o.state) e;
        lent = ap (λ (o : Outcome Transmitter (List ℤ)). o.lent) e ∙ sym (sets-front (samples_of s bits) old (omega (arith, long)));
      }

  -- or its places from one on
  pub put_part : (at : ℕ) → at + 32 * length bits ≤ length old → outcome a t now ≡ sent s bits (part old at)
      → Put s bits old at t (put_mid at (length old - at) old now)
  put_part at h e =
      record {
        state = ap (λ (o : Outcome Transmitter (List ℤ)). o.state) e;
        lent =
            ap (λ (o : Outcome Transmitter (List ℤ)). put_mid at (length old - at) old o.lent) e
            ∙ filled old at (samples_of s bits) (omega (arith, long));
      }

pub characters-count : (bytes : List ℕ) → 32 * length (characters_bits bytes) ≡ 320 * length bytes
characters-count bytes = omega (arith, length-characters bytes)

-- ---- three parts

module _ (band : ℕ) (bytes : List ℕ) where
  -- the states after the leader and after the characters
  abbrev pub begun : Transmitter
  begun = after_bits (fresh band) idle_bits

  abbrev pub ended : Transmitter
  ended = after_bits begun (characters_bits bytes)

  module _ (known : is_band band ≡ true) where
    pub begun_kept : in_range begun ≡ true
    begun_kept = steps_kept (fresh band) (bit_steps (tones_of band) idle_bits) (fresh_kept band known)

    pub ended_kept : in_range ended ≡ true
    ended_kept = steps_kept begun (bit_steps (tones_of band) (characters_bits bytes)) begun_kept

  pub parts-message : (lent : List ℤ)
      → sets (sets (sets lent 0 (samples_of (fresh band) idle_bits)) 96 (samples_of begun (characters_bits bytes))) (96 + 320 * length bytes) (samples_of ended idle_bits)
      ≡ sets lent 0 (message_of band bytes)
  parts-message lent =
      sym
      (sets_three lent (samples_of (fresh band) idle_bits) (samples_of begun (characters_bits bytes)) (samples_of ended idle_bits)
      (length_bits (tones_of band) 0 idle_bits) (length_bits (tones_of band) begun.phase (characters_bits bytes) ∙ characters-count bytes))
      ∙ ap (sets lent 0) (sym (message-parts (tones_of band) 0 bytes))
