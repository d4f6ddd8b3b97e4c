-- That demand 3 speaks of something: however a message is cut into characters calls, and however a recording of it is cut into
-- blocks, there are buffers with which every call is accepted.
-- Assumes nothing.
use Rattle.std.specs.Prelude.{◌≡◌, true, List, [], ◌∷◌, ◌++◌, ℕ, ◌*◌, ◌≤◌, ℤ, pos, length, replicate}
use Rattle.integers.specs.All.{All}
use Rattle.integers.specs.Near.{altered}
use Rattle.integers.specs.Sums.{Bounded}
use Rattle.calls.specs.Lists.{accepted_calls, each}
use Rattle.tones.specs.Bands.{is_band}
use Rattle.tones.specs.Samples.{most_samples}
use Rattle.transmitter.specs.Calls as transmitter
use Rattle.transmitter.specs.Lists as sending
use Rattle.receiver.specs.Calls as receiver
use Rattle.receiver.specs.Lists as reading
use Rattle.margin.specs.Windows.{disturbance}
use Rattle.promise.specs.Recordings.{AreBytes, silence, Transmission, characters}

-- ---- the calls, each with just the places that it needs

-- the texts and the trailer
abbrev pub ending_calls : List (List ℕ) → List sending.Call
ending_calls [] = sending.idle (silence 96) ∷ []
ending_calls (text ∷ texts) = sending.characters text (silence (320 * length text)) ∷ ending_calls texts

-- the leader, and then these
abbrev pub sending_calls : List (List ℕ) → List sending.Call
sending_calls texts = sending.idle (silence 96) ∷ ending_calls texts

-- a block and the entry that it goes through
pub record Block : Type 0 where
  pub entry : reading.Entry
  pub samples : List ℤ

abbrev pub block_calls : List Block → List reading.Call
block_calls [] = []
block_calls (block ∷ blocks) =
    let places : ℕ = receiver.places_for (length block.samples) in
    record { entry = block.entry; samples = block.samples; lent = (replicate places 0, replicate places (pos 0)) } ∷ block_calls blocks

-- ---- what there is

-- bytes for one characters call
pub record IsText (text : List ℕ) : Type 0 where
  pub bytes : AreBytes text
  pub few : length text ≤ transmitter.most_characters

-- a transmission by these calls, all of them accepted
pub record Possible (band : ℕ) (texts : List (List ℕ)) (blocks : List Block) : Type 0 where
  pub transmission : Transmission disturbance
  pub in_band : transmission.band ≡ band
  pub sent : transmission.sent ≡ sending_calls texts
  pub all_sent : accepted_calls sending.call_of (transmitter.fresh band) (sending_calls texts) ≡ sending_calls texts
  pub message : characters transmission ≡ each (λ text. text) texts
  pub recorded : transmission.recorded ≡ each (λ (b : Block). b.samples) blocks
  pub read : transmission.blocks ≡ block_calls blocks
  pub all_read : accepted_calls reading.call_of (receiver.fresh band) (block_calls blocks) ≡ block_calls blocks

-- for each band, every list of bytes cut in any way into calls of at most 100, any silence around, and any numbers to add, and every way
-- to cut what is then recorded into blocks of at most 16,384 samples, each through either entry
abbrev pub NotVacuous : Type 0
NotVacuous =
    (band : ℕ) → is_band band ≡ true → (texts : List (List ℕ)) → All IsText texts
    → (before after : ℕ) (added : List ℤ) → Bounded disturbance added
    → (blocks : List Block) → All (λ block. length block.samples ≤ most_samples) blocks
    → each (λ (b : Block). b.samples) blocks
    ≡ altered (silence before ++ (sending.samples_written (transmitter.fresh band) (sending_calls texts) ++ silence after)) added
    → Possible band texts blocks
