-- A sending, a recording of it and a reading of that: the specification, "Whole recordings". The calls, what each gives, and how the state
-- goes from call to call, refused ones among them, are the definitions of `calls`, `transmitter` and `receiver` that the contracts
-- name.
-- Assumes nothing.
use Rattle.std.specs.Prelude.{◌≡◌, true, List, [], ◌∷◌, ◌++◌, ℕ, ◌<◌, ℤ, pos, replicate}
use Rattle.integers.specs.All.{All}
use Rattle.integers.specs.Near.{altered}
use Rattle.integers.specs.Sums.{Bounded}
use Rattle.calls.specs.Lists.{joined, accepted_calls}
use Rattle.tones.specs.Bands.{is_band}
use Rattle.transmitter.specs.Calls as transmitter
use Rattle.transmitter.specs.Lists as sending
use Rattle.receiver.specs.Calls as receiver
use Rattle.receiver.specs.Lists as reading

-- ---- bytes

-- each number of the list is a byte, 0 to 255
abbrev pub AreBytes : List ℕ → Type 0
AreBytes = All (λ x. x < 256)

-- ---- a sending

-- the bytes that a call is handed
abbrev pub bytes_of : sending.Call → List ℕ
bytes_of (sending.idle lent) = []
bytes_of (sending.characters bytes lent) = bytes

-- the bytes of the accepted characters calls, joined in order
abbrev pub characters_sent : ℕ → List sending.Call → List ℕ
characters_sent band = joined sending.call_of (λ o c. bytes_of c) (transmitter.fresh band)

-- the accepted calls of a sending behind its leader: any number of characters calls (none too), then one idle
pub data EndsSending : List sending.Call → Type 0 where
  trailer : (lent : List ℤ) → EndsSending (sending.idle lent ∷ [])
  text : (bytes : List ℕ) (lent : List ℤ) {calls : List sending.Call} → EndsSending calls
      → EndsSending (sending.characters bytes lent ∷ calls)

-- the accepted calls of a sending: one idle, and then these
pub data IsSending : List sending.Call → Type 0 where
  leader : (lent : List ℤ) {calls : List sending.Call} → EndsSending calls → IsSending (sending.idle lent ∷ calls)

-- ---- a recording

-- a silent sample is 0
abbrev pub silence : ℕ → List ℤ
silence n = replicate n (pos 0)

-- any number of silent samples, the samples, and any number of silent samples, after which each has a whole number of its own from
-- -noise to noise added
pub record Recording (noise : ℕ) (samples recorded : List ℤ) : Type 0 where
  pub before : ℕ
  pub after : ℕ
  pub added : List ℤ
  pub small : Bounded noise added
  pub sum : recorded ≡ altered (silence before ++ (samples ++ silence after)) added

-- ---- the three together

pub record Transmission (noise : ℕ) : Type 0 where
  pub band : ℕ
  pub known : is_band band ≡ true
  -- a sending: a list of idle and characters calls from the fresh transmitter of its band; the accepted ones are one idle, any number
  -- of characters calls, and one idle
  pub sent : List sending.Call
  pub shape : IsSending (accepted_calls sending.call_of (transmitter.fresh band) sent)
  -- the characters sent are bytes; nothing is asked of what a refused call was handed (decision 29)
  pub bytes : AreBytes (characters_sent band sent)
  -- a recording of the samples that the accepted calls wrote, as they stood on return
  pub recorded : List ℤ
  pub recording : Recording noise (sending.samples_written (transmitter.fresh band) sent) recorded
  -- a list of block calls from the fresh receiver of the same band, whose accepted blocks, joined in order, are the recording
  pub blocks : List reading.Call
  pub read : reading.samples_read (receiver.fresh band) blocks ≡ recorded

module _ {noise : ℕ} (t : Transmission noise) where
  -- the characters sent
  abbrev pub characters : List ℕ
  characters = characters_sent t.band t.sent

  -- the events of the accepted calls, as they stood on return, joined in order
  abbrev pub events : List ℕ
  events = reading.events_read (receiver.fresh t.band) t.blocks
