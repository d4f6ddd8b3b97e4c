-- What is sent is what a tap reads in the sending's band, and what is read with indices. From the promise, and from what a receiver gives alone.
-- Assumes nothing.
use mathlib.Core.Path.{◌≡◌, refl, sym, ap, subst, ◌∙◌}
use mathlib.Core.Bool.{true}
use mathlib.Core.List.{List, [], ◌∷◌, ◌++◌, map, map-map}
use mathlib.Core.Logic.{◌⊎◌, inl, inr}
use mathlib.Mathlib.Data.Bool.Basic.{and_elim_left, and_elim_right}
use Prim.Native.Nat.{ℕ, ◌≤◌}
use native.Mathlib.Omega.{arith}
use lib.IntN.{ℤ, pos}
use lib.ListN.{length, replicate, length-replicate}
use Rattle.integers.specs.All.{All, none, more}
use Rattle.calls.specs.Runs.{after}
use Rattle.calls.specs.Lists.{each}
use Rattle.calls.proofs.Indexed.{indexed_values}
use Rattle.calls.proofs.Lists.{joined-each, Accepts, all_accepted}
use Rattle.tones.specs.Bands.{is_pair}
use Rattle.tones.specs.Samples.{most_samples, are_samples}
use Rattle.tones.proofs.Laws.{pairs}
use Rattle.tones.proofs.Samples.{samples_append}
use Rattle.transmitter.specs.Calls as transmitter
use Rattle.receiver.specs.Step.{after_sample, measured_at, events_after, indexed_after}
use Rattle.receiver.specs.Calls as receiver
use Rattle.receiver.specs.Lists as reading
use Rattle.receiver.proofs.Counting.{measured-numbers}
use Rattle.receiver.proofs.Lists.{one_reading}
use Rattle.receiver.proofs.Indexed.{indexed_reading}
use Rattle.tap.specs.declared.Tap.{Tap}
use Rattle.tap.specs.Calls as tap
use Rattle.tap.specs.Lists as tapping
use Rattle.tap.proofs.Blocks.{both_accepted}
use Rattle.tap.proofs.Pairs.{fresh_kept}
use Rattle.tap.proofs.Lists.{both_directions}
use Rattle.margin.specs.Windows.{disturbance}
use Rattle.promise.specs.Recordings.{Transmission, characters}
use Rattle.promise.proofs.Promise.{all_read}
use Rattle.promise.proofs.Possible.{recorded-samples}
use Rattle.tapped.specs.Tapped.{PairWith, fresh_of, PairsPossible, Tapped, ReadOnTap, tap_calls, TapsPossible, Indexed, ReadWithIndices}

-- what the receiver of the band gives over the recording is what was sent
recorded-events : (t : Transmission disturbance) → events_after (receiver.fresh t.band) t.recorded ≡ characters t
recorded-events t =
    ap (events_after (receiver.fresh t.band)) (sym t.read)
    ∙ sym (one_reading (receiver.fresh t.band) t.blocks).events
    ∙ (all_read t t).first

-- ---- a tap

-- the tap has the fresh receiver of the band
band_alone : {band : ℕ} (p : PairWith band) (cs : List tapping.Call)
    → tapping.of_band band (tapping.events_read (fresh_of p) cs) ≡ events_after (receiver.fresh band) (tapping.samples_read (fresh_of p) cs)
band_alone {band} p cs = go p.either
  where
    Alone : ℕ → Type 0
    Alone b = tapping.of_band b (tapping.events_read (fresh_of p) cs) ≡ events_after (receiver.fresh b) (tapping.samples_read (fresh_of p) cs)

    go : (band ≡ p.first) ⊎ (band ≡ p.second) → Alone band
    go (inl e) = subst Alone (sym e) (both_directions (fresh_of p) cs).first.events
    go (inr e) = subst Alone (sym e) (both_directions (fresh_of p) cs).second.events

pub read_on_tap : (t : Tapped disturbance) → ReadOnTap t
read_on_tap t =
    band_alone t.bands t.calls
    ∙ ap (events_after (receiver.fresh t.transmission.band)) t.read
    ∙ recorded-events t.transmission

-- a call that is accepted from every state in its ranges
record Fits (c : tapping.Call) : Type 0 where
  few : length c.samples ≤ most_samples
  samples : are_samples c.samples ≡ true
  room : tap.places_for (length c.samples) ≤ receiver.shorter c.lent

accepts : (t : Tap) (c : tapping.Call) → tap.in_range t ≡ true → Fits c → Accepts (λ (u : Tap). tap.in_range u ≡ true) (tapping.call_of t c)
unfolding after
accepts t c h f =
    record { yes = both_accepted t c.samples c.lent (record { ranged = h; few = f.few; sound = f.samples; room = f.room }); kept = (both_directions t (c ∷ [])).range h }

abbrev joined : List (List ℤ) → List ℤ
joined = each (λ block. block)

calls_fit : (blocks : List (List ℤ)) → All (λ block. length block ≤ most_samples) blocks → are_samples (joined blocks) ≡ true → All Fits (tap_calls blocks)
calls_fit [] none h = none
calls_fit (xs ∷ blocks) (more l ls) h =
    let both = sym (samples_append xs (joined blocks)) ∙ h in
    let places : ℕ = tap.places_for (length xs) in
    let room : places ≤ receiver.shorter (replicate places 0, replicate places (pos 0)) =
    omega (arith, length-replicate {A = ℕ} places 0, length-replicate {A = ℤ} places (pos 0)) in
    more (record { few = l; samples = and_elim_left (are_samples xs) (are_samples (joined blocks)) both; room = room })
    (calls_fit blocks ls (and_elim_right (are_samples xs) (are_samples (joined blocks)) both))

calls-samples : (blocks : List (List ℤ)) → each (λ (c : tapping.Call). c.samples) (tap_calls blocks) ≡ joined blocks
calls-samples [] = refl
calls-samples (xs ∷ blocks) = ap (λ (l : List ℤ). xs ++ l) (calls-samples blocks)

pub taps_possible : TapsPossible
taps_possible t bands blocks short whole =
    let start : Tap = fresh_of bands in
    joined-each tapping.call_of (λ (c : tapping.Call). c.samples) start (tap_calls blocks)
    ∙ ap (each (λ (c : tapping.Call). c.samples))
    (all_accepted tapping.call_of (λ (u : Tap). tap.in_range u ≡ true) Fits accepts (tap_calls blocks)
    (calls_fit blocks short (ap are_samples whole ∙ recorded-samples (transmitter.fresh t.band) t.sent t.recorded t.recording)) start (fresh_kept bands.first bands.second bands.pair))
    ∙ calls-samples blocks
    ∙ whole

pub pairs_possible : PairsPossible
pairs_possible = ((of 1 2 pairs.0 (inl refl), of 1 2 pairs.0 (inr refl)), (of 3 4 pairs.1 (inl refl), of 3 4 pairs.1 (inr refl)))
  where
    of : {band : ℕ} (first second : ℕ) → is_pair first second ≡ true → (band ≡ first) ⊎ (band ≡ second) → PairWith band
    of first second pair either = record { first = first; second = second; pair = pair; either = either }

-- ---- indices

pub read_with_indices : (t : Indexed disturbance) → ReadWithIndices t
read_with_indices t =
    let s = receiver.fresh t.transmission.band in
    let xs : List ℤ = reading.samples_read s (map reading.without_indices t.calls) in
    ap (map (λ (e : (ℕ × ℤ) × ℕ). e.0.0)) (indexed_reading s t.calls).events
    ∙ sym (map-map (λ (e : ℕ × ℤ). e.0) (λ (e : (ℕ × ℤ) × ℕ). e.0) (indexed_after s xs))
    ∙ ap (map (λ (e : ℕ × ℤ). e.0)) (indexed_values after_sample measured_at 0 s xs)
    ∙ measured-numbers s xs
    ∙ ap (events_after s) t.read
    ∙ recorded-events t.transmission
