-- What the promise says of a message that is sent by one characters call and disturbed: read by the step rule, the samples give the
-- characters. The sending and a reading of it through the second entry make a transmission, of which demand 3 speaks.
-- Assumes nothing.
use mathlib.Core.Path.{◌≡◌, refl, sym, ap, ap₂, ◌∙◌}
use mathlib.Core.Bool.{true}
use mathlib.Core.List.{List, [], ◌∷◌, ◌++◌, append-nil}
use Prim.Native.Nat.{ℕ, suc, ◌≤◌, ◌<◌}
use native.Mathlib.Omega.{arith}
use lib.IntN.{ℤ}
use lib.ListN.{length, get_or}
use Rattle.integers.specs.All.{All, none, more}
use Rattle.integers.specs.Near.{altered}
use Rattle.integers.specs.Sums.{Bounded}
use Rattle.calls.specs.Lists.{each}
use Rattle.tones.specs.Bands.{is_band, tones_of}
use Rattle.tones.specs.Samples.{most_samples, are_samples}
use Rattle.transmitter.specs.Samples.{send_bits, message_bits}
use Rattle.transmitter.specs.Calls as transmitter
use Rattle.transmitter.specs.Lists as sending
use Rattle.receiver.specs.Step.{events_after}
use Rattle.receiver.specs.Calls.{fresh}
use Rattle.receiver.specs.Lists.{in_place}
use Rattle.receiver.proofs.Lists.{one_reading}
use Rattle.margin.specs.Windows.{disturbance}
use Rattle.promise.specs.Recordings.{AreBytes, silence, Transmission}
use Rattle.promise.specs.Possible.{Block, sending_calls, IsText, Possible}
use Rattle.promise.proofs.Promise.{sent-samples, all_read}
use Rattle.promise.proofs.Possible.{message-sent, is_sending, recorded-samples, not_vacuous}

-- the numbers of a list of bytes
pub are_bytes : (cs : List ℕ) → ((i : ℕ) → get_or cs i 0 < 256) → AreBytes cs
are_bytes [] h = none
are_bytes (c ∷ cs) h = more (h 0) (are_bytes cs (λ i. h (suc i)))

-- each sample as a block, through the second entry
blocks : List ℤ → List Block
blocks [] = []
blocks (x ∷ xs) = record { entry = in_place; samples = x ∷ [] } ∷ blocks xs

blocks-join : (xs : List ℤ) → each (λ (b : Block). b.samples) (blocks xs) ≡ xs
unfolding blocks
blocks-join [] = refl
blocks-join (x ∷ xs) = ap (λ (l : List ℤ). x ∷ l) (blocks-join xs)

blocks_short : (xs : List ℤ) → All (λ block. length block.samples ≤ most_samples) (blocks xs)
unfolding blocks
blocks_short [] = none
blocks_short (x ∷ xs) = let h : 1 ≤ most_samples = omega arith in more h (blocks_short xs)

module _ (band : ℕ) (known : is_band band ≡ true) (cs : List ℕ) (bytes : AreBytes cs) (few : length cs ≤ transmitter.most_characters) (ds : List ℤ) (small : Bounded disturbance ds) where
  abbrev recorded : List ℤ
  recorded = altered (send_bits (tones_of band) 0 (message_bits cs)) ds

  abbrev texts : List (List ℕ)
  texts = cs ∷ []

  is-text : All IsText texts
  is-text = more (record { bytes = bytes; few = few }) none

  joined : each (λ text. text) texts ≡ cs
  joined = append-nil cs

  -- the sending by a leader, one characters call and a trailer
  sent : sending.samples_written (transmitter.fresh band) (sending_calls texts) ≡ send_bits (tones_of band) 0 (message_bits cs)
  sent =
      sent-samples band (sending_calls texts) (is_sending band known texts is-text)
      ∙ ap (λ (l : List ℕ). send_bits (tones_of band) 0 (message_bits l)) (message-sent band known texts is-text ∙ joined)

  -- disturbed, without silence around it
  sum : recorded ≡ altered (silence 0 ++ (sending.samples_written (transmitter.fresh band) (sending_calls texts) ++ silence 0)) ds
  sum = ap (λ (xs : List ℤ). altered xs ds) (sym (append-nil _ ∙ sent))

  pub message-range : are_samples recorded ≡ true
  message-range =
      recorded-samples (transmitter.fresh band) (sending_calls texts) recorded
      (record { before = 0; after = 0; added = ds; small = small; sum = sum })

  read : Possible band texts (blocks recorded)
  read =
      not_vacuous band known texts is-text 0 0 ds small (blocks recorded) (blocks_short recorded)
      (blocks-join recorded ∙ sum)

  pub message-read : events_after (fresh band) recorded ≡ cs
  message-read =
      let t : Transmission disturbance = read.transmission in
      sym
      ((one_reading (fresh t.band) t.blocks).events
      ∙ ap₂ (λ (b : ℕ) (xs : List ℤ). events_after (fresh b) xs) read.in_band
      (t.read ∙ read.recorded ∙ blocks-join recorded))
      ∙ (all_read t t).first ∙ read.message ∙ joined
