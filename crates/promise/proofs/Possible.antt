-- Every message, every recording of it and every cut of that into blocks make a transmission: demand 3 is not empty. From the cases in
-- which the calls are accepted.
-- Assumes nothing.
use mathlib.Core.Path.{◌≡◌, refl, sym, ap, ◌∙◌, subst}
use mathlib.Core.Bool.{true}
use mathlib.Core.List.{List, [], ◌∷◌, ◌++◌}
use mathlib.Mathlib.Data.Bool.Basic.{and_elim_left, and_elim_right}
use Prim.Native.Nat.{ℕ, ◌*◌, ◌≤◌}
use native.Mathlib.Omega.{arith}
use lib.IntN.{ℤ, pos}
use lib.ListN.{length, replicate, length-replicate}
use Rattle.integers.specs.All.{All, none, more}
use Rattle.integers.specs.Sums.{Bounded}
use Rattle.integers.proofs.All.{all_append}
use Rattle.integers.proofs.Near.{near_bounded}
use Rattle.integers.proofs.Sums.{bounded_append, bounded_zeros}
use Rattle.calls.specs.Outcome.{is_accepted}
use Rattle.calls.specs.Runs.{after}
use Rattle.calls.specs.Lists.{accepted_calls, each}
use Rattle.calls.proofs.Lists.{joined-each, Accepts, all_accepted}
use Rattle.tones.specs.Bands.{is_band}
use Rattle.tones.specs.Samples.{most_samples, are_samples}
use Rattle.tones.proofs.Samples.{samples_append, bounded_samples}
use Rattle.transmitter.specs.declared.Transmitter.{Transmitter}
use Rattle.transmitter.specs.Calls as transmitter
use Rattle.transmitter.specs.Lists as sending
use Rattle.transmitter.proofs.Laws.{send_bound}
use Rattle.transmitter.proofs.Rules.{idle_0, characters_0}
use Rattle.transmitter.proofs.Rules as transmitter-rules
use Rattle.transmitter.proofs.Lists.{samples-written, continuous}
use Rattle.receiver.specs.declared.Receiver.{Receiver}
use Rattle.receiver.specs.Calls as receiver
use Rattle.receiver.specs.Lists as reading
use Rattle.receiver.proofs.Ranges as receiver-ranges
use Rattle.receiver.proofs.Calls.{block_0}
use Rattle.receiver.proofs.Lists.{one_reading}
use Rattle.margin.specs.Windows.{disturbance}
use Rattle.promise.specs.Recordings.{AreBytes, bytes_of, characters_sent, EndsSending, IsSending, trailer, text, leader, silence, Recording}
use Rattle.promise.specs.Possible.{Block, ending_calls, sending_calls, block_calls, IsText, NotVacuous}
use Rattle.promise.proofs.Promise.{recording_near}

abbrev joined_texts : List (List ℕ) → List ℕ
joined_texts = each (λ text. text)

abbrev joined_blocks_lem : List Block → List ℤ
joined_blocks_lem = each (λ (b : Block). b.samples)

-- ---- sending

SendFits : sending.Call → Type 0
SendFits (sending.idle lent) = 96 ≤ length lent
SendFits (sending.characters bytes lent) = (length bytes ≤ transmitter.most_characters) × (320 * length bytes ≤ length lent)

send_accepts : (s : Transmitter) (c : sending.Call) → transmitter.in_range s ≡ true → SendFits c
    → Accepts (λ (t : Transmitter). transmitter.in_range t ≡ true) (sending.call_of s c)
unfolding SendFits after
send_accepts s (sending.idle lent) h f = record { yes = ap is_accepted (idle_0 s lent h f); kept = (continuous s (sending.idle lent ∷ [])).range h }
send_accepts s (sending.characters bytes lent) h f =
    record { yes = ap is_accepted (characters_0 s bytes lent h f.0 f.1); kept = (continuous s (sending.characters bytes lent ∷ [])).range h }

idle_fits : SendFits (sending.idle (silence 96))
unfolding SendFits
idle_fits = omega (arith, length-replicate 96 (pos 0))

text_fits : (t : List ℕ) → IsText t → SendFits (sending.characters t (silence (320 * length t)))
unfolding SendFits
text_fits t h = (h.few, omega (arith, length-replicate (320 * length t) (pos 0)))

ending_fits : (texts : List (List ℕ)) → All IsText texts → All SendFits (ending_calls texts)
ending_fits [] none = more idle_fits none
ending_fits (t ∷ texts) (more h hs) = more (text_fits t h) (ending_fits texts hs)

ending_shape : (texts : List (List ℕ)) → EndsSending (ending_calls texts)
ending_shape [] = trailer (silence 96)
ending_shape (t ∷ texts) = text t (silence (320 * length t)) (ending_shape texts)

ending_bytes : (texts : List (List ℕ)) → each bytes_of (ending_calls texts) ≡ joined_texts texts
ending_bytes [] = refl
ending_bytes (t ∷ texts) = ap (λ (l : List ℕ). t ++ l) (ending_bytes texts)

texts_bytes : (texts : List (List ℕ)) → All IsText texts → AreBytes (joined_texts texts)
texts_bytes [] none = none
texts_bytes (t ∷ texts) (more h hs) = all_append h.bytes (texts_bytes texts hs)

-- ---- reading

record ReadFits (c : reading.Call) : Type 0 where
  few : length c.samples ≤ most_samples
  samples : are_samples c.samples ≡ true
  room : receiver.places_for (length c.samples) ≤ receiver.shorter c.lent

read_accepts : (s : Receiver) (c : reading.Call) → receiver.in_range s ≡ true → ReadFits c
    → Accepts (λ (t : Receiver). receiver.in_range t ≡ true) (reading.call_of s c)
unfolding after
read_accepts s c h f =
    record { yes = ap is_accepted (block_0 s c.samples c.lent h f.few f.samples f.room); kept = (one_reading s (c ∷ [])).range h }

blocks_fit : (blocks : List Block) → All (λ block. length block.samples ≤ most_samples) blocks → are_samples (joined_blocks_lem blocks) ≡ true
    → All ReadFits (block_calls blocks)
blocks_fit [] none h = none
blocks_fit (block ∷ blocks) (more l ls) h =
    let xs : List ℤ = block.samples in
    let both = sym (samples_append xs (joined_blocks_lem blocks)) ∙ h in
    let places : ℕ = receiver.places_for (length xs) in
    let room : places ≤ receiver.shorter (replicate places 0, replicate places (pos 0)) =
    omega (arith, length-replicate {A = ℕ} places 0, length-replicate {A = ℤ} places (pos 0)) in
    more (record { few = l; samples = and_elim_left (are_samples xs) (are_samples (joined_blocks_lem blocks)) both; room = room })
    (blocks_fit blocks ls (and_elim_right (are_samples xs) (are_samples (joined_blocks_lem blocks)) both))

blocks-samples : (blocks : List Block) → each (λ (c : reading.Call). c.samples) (block_calls blocks) ≡ joined_blocks_lem blocks
blocks-samples [] = refl
blocks-samples (block ∷ blocks) = ap (λ (l : List ℤ). block.samples ++ l) (blocks-samples blocks)

-- a recording of samples up to 6,000 is in the range of samples: 6,000 and 100 are below 8,192
pub recording-range : {samples recorded : List ℤ} → Bounded 6000 samples → Recording disturbance samples recorded → are_samples recorded ≡ true
recording-range {samples} {recorded} b r =
    bounded_samples recorded (omega arith)
    (near_bounded (recording_near r)
    (bounded_append (silence r.before) (samples ++ silence r.after) (bounded_zeros 6000 r.before)
    (bounded_append samples (silence r.after) b (bounded_zeros 6000 r.after))))

pub recorded-samples : (s : Transmitter) (calls : List sending.Call) (recorded : List ℤ) → Recording disturbance (sending.samples_written s calls) recorded
    → are_samples recorded ≡ true
recorded-samples s calls recorded =
    recording-range (subst (Bounded 6000) (sym (samples-written s calls)) (send_bound s.phase (sending.steps_sent s calls)))

-- blocks of samples in their range are all read
module _ (band : ℕ) (known : is_band band ≡ true) (blocks : List Block) (short : All (λ block. length block.samples ≤ most_samples) blocks)
    (sound : are_samples (joined_blocks_lem blocks) ≡ true) where
  pub blocks-accepted : accepted_calls reading.call_of (receiver.fresh band) (block_calls blocks) ≡ block_calls blocks
  blocks-accepted =
      all_accepted reading.call_of (λ (s : Receiver). receiver.in_range s ≡ true) ReadFits read_accepts (block_calls blocks)
      (blocks_fit blocks short sound) (receiver.fresh band) (receiver-ranges.fresh_kept band known)

  pub blocks-read : reading.samples_read (receiver.fresh band) (block_calls blocks) ≡ joined_blocks_lem blocks
  blocks-read =
      joined-each reading.call_of (λ (c : reading.Call). c.samples) (receiver.fresh band) (block_calls blocks)
      ∙ ap (each (λ (c : reading.Call). c.samples)) blocks-accepted ∙ blocks-samples blocks

-- ---- both

module _ (band : ℕ) (known : is_band band ≡ true) (texts : List (List ℕ)) (ts : All IsText texts) where
  all_sent : accepted_calls sending.call_of (transmitter.fresh band) (sending_calls texts) ≡ sending_calls texts
  all_sent =
      all_accepted sending.call_of (λ (s : Transmitter). transmitter.in_range s ≡ true) SendFits send_accepts (sending_calls texts)
      (more idle_fits (ending_fits texts ts)) (transmitter.fresh band) (transmitter-rules.fresh_kept band known)

  pub message-sent : characters_sent band (sending_calls texts) ≡ joined_texts texts
  message-sent = joined-each sending.call_of bytes_of (transmitter.fresh band) (sending_calls texts) ∙ ap (each bytes_of) all_sent ∙ ending_bytes texts

  pub is_sending : IsSending (accepted_calls sending.call_of (transmitter.fresh band) (sending_calls texts))
  is_sending = subst IsSending (sym all_sent) (leader (silence 96) (ending_shape texts))

pub not_vacuous : NotVacuous
not_vacuous band known texts ts before after added small blocks bs sum =
    record {
      transmission =
          record {
            band = band;
            known = known;
            sent = sending_calls texts;
            shape = is_sending band known texts ts;
            bytes = subst AreBytes (sym (message-sent band known texts ts)) (texts_bytes texts ts);
            recorded = joined_blocks_lem blocks;
            recording = recording;
            blocks = block_calls blocks;
            read = blocks-read band known blocks bs sound;
          };
      in_band = refl;
      sent = refl;
      all_sent = all_sent band known texts ts;
      message = message-sent band known texts ts;
      recorded = refl;
      read = refl;
      all_read = blocks-accepted band known blocks bs sound;
    }
  where
    recording : Recording disturbance (sending.samples_written (transmitter.fresh band) (sending_calls texts)) (joined_blocks_lem blocks)
    recording = record { before = before; after = after; added = added; small = small; sum = sum }

    sound : are_samples (joined_blocks_lem blocks) ≡ true
    sound = recorded-samples (transmitter.fresh band) (sending_calls texts) (joined_blocks_lem blocks) recording
