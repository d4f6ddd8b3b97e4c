-- The difference beside each event, stated by the recording: the specification, "Quality beside each character".
-- Assumes nothing.
use Rattle.std.specs.Prelude.{◌≡◌, true, List, ◌++◌, map, ℕ, ◌+◌, ◌-◌, ◌*◌, ◌<◌, ◌≤◌, max, min, ℤ, pos, length, take, drop}
use Rattle.std.specs.Int.Signed.{le_z}
use Rattle.integers.specs.All.{All}
use Rattle.tones.specs.Bands.{is_band, tones_of}
use Rattle.control.specs.declared.Stage.TheVariants.{Waiting}
use Rattle.quality.specs.Slots.{least_of, AtStop}
use Rattle.receiver.specs.declared.Receiver.{Receiver}
use Rattle.receiver.specs.Energy.{energyℕ}
use Rattle.receiver.specs.Step.{state_after, indexed_after}
use Rattle.receiver.specs.Calls.{fresh, in_range}
use Rattle.receiver.specs.Lists.{Call, samples_read, measured_read}
use Rattle.margin.specs.Windows.{disturbance, clearance}
use Rattle.promise.specs.Recordings.{Transmission}
use Rattle.differences.specs.Plain.{Unsteered}

-- ---- the slots of an event

-- samples xs that a fresh receiver of the band reads
module _ (band : ℕ) (xs : List ℤ) where
  -- the window that ends with sample i, where 31 zeros stand before the first
  abbrev pub window_at : ℕ → List ℤ
  window_at i = take 32 (drop i (drop 1 (fresh band).window ++ xs))

  -- the larger energy in it less the smaller one
  abbrev pub difference_at : ℕ → ℕ
  difference_at i =
      let space : ℕ = energyℕ (window_at i) (tones_of band).space in
      let mark : ℕ = energyℕ (window_at i) (tones_of band).mark in
      max space mark - min space mark

  -- with sample i this slot is taken
  pub record TakenAt (slot i : ℕ) : Type 0 where
    pub byte : ℕ
    pub waits : (state_after (fresh band) (take i xs)).stage ≡ Waiting 1 slot byte

  -- An event with its difference and the index of its sample: slot 1 of its character is taken with the sample `first`, each further one 32
  -- samples later, and the last of them with the event's sample. Its difference is the smallest at these samples. A character, one without a
  -- stop bit and a break have nine such slots.
  pub record OfItsSlots (e : (ℕ × ℤ) × ℕ) : Type 0 where
    pub first : ℕ
    pub slots : ℕ
    pub some : 1 ≤ slots
    pub most : slots ≤ 9
    pub taken : (j : ℕ) → j < slots → TakenAt (j + 1) (first + 32 * j)
    pub last : e.1 ≡ first + 32 * (slots - 1)
    pub inside : e.1 < length xs
    pub smallest : e.0.1 ≡ least_of (λ j. pos (difference_at (first + 32 * j))) (slots - 1)
    pub whole : AtStop e.0.0 slots

-- Over lists of block calls from a fresh receiver, refused ones among them, the events with their differences are those of the samples read,
-- and each difference is that of its slots.
pub record OwnSlots (band : ℕ) (calls : List Call) : Type 0 where
  pub read : measured_read (fresh band) calls ≡ map (λ (e : (ℕ × ℤ) × ℕ). e.0) (indexed_after (fresh band) (samples_read (fresh band) calls))
  pub own : All (OfItsSlots band (samples_read (fresh band) calls)) (indexed_after (fresh band) (samples_read (fresh band) calls))

-- ---- under the promise's premises

-- no event has a difference below `clearance`
abbrev pub AllClear : Transmission disturbance → Type 0
AllClear t = All (λ (e : ℕ × ℤ). le_z (pos clearance) e.1 ≡ true) (measured_read (fresh t.band) t.blocks)

-- ---- all of it

pub record Differences : Type 0 where
  -- numbers, counts, run and stage are those of the receiver without differences
  pub unsteered : (s : Receiver) → in_range s ≡ true → (calls : List Call) → Unsteered s calls
  -- the difference of each event is the smallest over its own slots
  pub own_slots : (band : ℕ) → is_band band ≡ true → (calls : List Call) → OwnSlots band calls
  -- on a line inside the margin it is at least `clearance`
  pub clear : (t : Transmission disturbance) → AllClear t
