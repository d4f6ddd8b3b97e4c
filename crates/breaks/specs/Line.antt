-- Lines with breaks among their characters, under the premises of the guide's promise: the specification, "A held break key" and "Whole
-- recordings".
-- Assumes nothing.
use Rattle.std.specs.Prelude.{◌≡◌, true, List, [], ◌∷◌, ◌++◌, ℕ, ◌+◌, ◌<◌, ◌≤◌, ℤ, length, replicate}
use Rattle.integers.specs.All.{All}
use Rattle.calls.specs.Lists.{each}
use Rattle.tones.specs.Bands.{is_band, tones_of}
use Rattle.tones.specs.Samples.{most_samples}
use Rattle.transmitter.specs.Samples.{send_bits, idle_bits, char_bits}
use Rattle.control.specs.Rules.{break_begun}
use Rattle.receiver.specs.Calls.{fresh}
use Rattle.receiver.specs.Lists.{Call, samples_read, events_read}
use Rattle.margin.specs.Windows.{disturbance}
use Rattle.promise.specs.Recordings.{Recording}
use Rattle.promise.specs.Possible.{Block, block_calls}

-- what an operator sends: a character, or a break of ten bits of space and any number more, with three mark bits behind it
pub data Item : Type 0 where
  character : ℕ → Item
  break : (more : ℕ) → Item

abbrev pub IsItem : Item → Type 0
IsItem (character c) = c < 256
IsItem (break more) = Unit

abbrev pub item_bits : Item → List ℕ
item_bits (character c) = char_bits c
item_bits (break more) = replicate (10 + more) 0 ++ idle_bits

-- the event of each: the character, or 258 however long the break is
abbrev pub item_event : Item → List ℕ
item_event (character c) = c ∷ []
item_event (break more) = break_begun ∷ []

-- a leader, the items and a trailer
abbrev pub line_bits : List Item → List ℕ
line_bits items = idle_bits ++ (each item_bits items ++ idle_bits)

-- A recording of it, with any silence around it and each sample altered by at most `noise`, and a list of block calls from the fresh
-- receiver of the band, whose accepted blocks, joined in order, are the recording.
pub record Line (noise : ℕ) : Type 0 where
  pub band : ℕ
  pub items : List Item
  pub are_items : All IsItem items
  pub recorded : List ℤ
  pub recording : Recording noise (send_bits (tones_of band) 0 (line_bits items)) recorded
  pub blocks : List Call
  pub read : samples_read (fresh band) blocks ≡ recorded

-- its events are those of the items
abbrev pub ReadAsKeyed : {noise : ℕ} → Line noise → Type 0
ReadAsKeyed l = events_read (fresh l.band) l.blocks ≡ each item_event l.items

-- in each band, for all items and every recording of them, each way to cut it into blocks of at most 16,384 samples makes a line
abbrev pub LinesPossible : Type 0
LinesPossible =
    (band : ℕ) → is_band band ≡ true → (items : List Item) → All IsItem items
    → (blocks : List Block) → All (λ block. length block.samples ≤ most_samples) blocks
    → Recording disturbance (send_bits (tones_of band) 0 (line_bits items)) (each (λ (b : Block). b.samples) blocks)
    → samples_read (fresh band) (block_calls blocks) ≡ each (λ (b : Block). b.samples) blocks
