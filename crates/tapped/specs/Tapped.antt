-- The recording of a sending, read by a tap or with indices: the specification, "Both directions on one tap" and "Whole recordings". A
-- transmission of `promise` has the sending and the recording; these calls read the same recording in another way.
-- Assumes nothing.
use Rattle.std.specs.Prelude.{◌≡◌, true, List, [], ◌∷◌, map, ◌⊎◌, ℕ, ◌≤◌, ℤ, pos, length, replicate}
use Rattle.integers.specs.All.{All}
use Rattle.calls.specs.Lists.{each}
use Rattle.tones.specs.Bands.{is_pair}
use Rattle.tones.specs.Samples.{most_samples}
use Rattle.receiver.specs.Calls as receiver
use Rattle.receiver.specs.Lists as reading
use Rattle.tap.specs.declared.Tap.{Tap}
use Rattle.tap.specs.Calls as tap
use Rattle.tap.specs.Lists as tapping
use Rattle.margin.specs.Windows.{disturbance}
use Rattle.promise.specs.Recordings.{Transmission, characters}

-- ---- a tap

-- a pair of bands that a tap can have, one of them `band`
pub record PairWith (band : ℕ) : Type 0 where
  pub first : ℕ
  pub second : ℕ
  pub pair : is_pair first second ≡ true
  pub either : (band ≡ first) ⊎ (band ≡ second)

-- its fresh tap
abbrev pub fresh_of : {band : ℕ} → PairWith band → Tap
fresh_of p = tap.fresh p.first p.second

-- bands 1 to 4 have such pairs
abbrev pub PairsPossible : Type 0
PairsPossible = (PairWith 1 × PairWith 2) × (PairWith 3 × PairWith 4)

-- a list of tap calls from the fresh tap of such a pair, whose accepted blocks, joined in order, are the recording
pub record Tapped (noise : ℕ) : Type 0 where
  pub transmission : Transmission noise
  pub bands : PairWith transmission.band
  pub calls : List tapping.Call
  pub read : tapping.samples_read (fresh_of bands) calls ≡ transmission.recorded

-- the events of the sending's band are the characters sent, whatever the other receiver tells
abbrev pub ReadOnTap : {noise : ℕ} → Tapped noise → Type 0
ReadOnTap t = tapping.of_band t.transmission.band (tapping.events_read (fresh_of t.bands) t.calls) ≡ characters t.transmission

-- a call for each block, with just the places that it needs
abbrev pub tap_calls : List (List ℤ) → List tapping.Call
tap_calls [] = []
tap_calls (block ∷ blocks) =
    let places : ℕ = tap.places_for (length block) in
    record { samples = block; lent = (replicate places 0, replicate places (pos 0)) } ∷ tap_calls blocks

-- each way to cut a recording into blocks of at most 16,384 samples has such calls
abbrev pub TapsPossible : Type 0
TapsPossible =
    (t : Transmission disturbance) (bands : PairWith t.band) (blocks : List (List ℤ)) → All (λ block. length block ≤ most_samples) blocks
    → each (λ block. block) blocks ≡ t.recorded → tapping.samples_read (fresh_of bands) (tap_calls blocks) ≡ t.recorded

-- ---- indices

-- a list of block calls with indices from the fresh receiver of the band likewise
pub record Indexed (noise : ℕ) : Type 0 where
  pub transmission : Transmission noise
  pub calls : List reading.IndexedCall
  pub read : reading.samples_read (receiver.fresh transmission.band) (map reading.without_indices calls) ≡ transmission.recorded

-- without their differences and indices the events are the characters sent
abbrev pub ReadWithIndices : {noise : ℕ} → Indexed noise → Type 0
ReadWithIndices t =
    map (λ (e : (ℕ × ℤ) × ℕ). e.0.0) (reading.indexed_read 0 (receiver.fresh t.transmission.band) t.calls) ≡ characters t.transmission
