-- The events of a tap, each with its difference: their numbers are its events, and those of a band the events of that band.
-- Assumes nothing.
use mathlib.Core.Path.{◌≡◌, refl, ap, ap₂, ◌∙◌}
use mathlib.Core.Bool.{Bool, true, false, cond}
use mathlib.Core.List.{List, [], ◌∷◌, ◌++◌, map, map-append, append-nil}
use Prim.Native.Nat.{ℕ, ◌-◌, ◌*◌, ◌/◌}
use lib.Dec.{eqb}
use lib.IntN.{ℤ}
use Rattle.calls.specs.Runs.{gives}
use Rattle.receiver.specs.declared.Receiver.{Receiver}
use Rattle.receiver.specs.Step as receiver
use Rattle.receiver.proofs.Counting as counting
use Rattle.tap.specs.declared.Tap.{Tap}
use Rattle.tap.specs.Step.{in_band, measured_in, after_sample, events_at, measured_at, events_after, measured_after}
use Rattle.tap.specs.Lists.{of_band, measured_of_band}
use Rattle.tap.specs.AsCoded.{numbers_of}

-- of a receiver, at one sample
pub numbers-at : (s : Receiver) (x : ℤ) → numbers_of (receiver.measured_at s x) ≡ receiver.events_at s x
unfolding gives
numbers-at s x = rw (append-nil (receiver.measured_at s x), append-nil (receiver.events_at s x)) at (counting.measured-numbers s (x ∷ []))

-- with its band
in_band_numbers : (band : ℕ) (es : List (ℕ × ℤ)) → numbers_of (map (measured_in band) es) ≡ map (in_band band) (numbers_of es)
in_band_numbers band [] = refl
in_band_numbers band (e ∷ es) = ap (λ (l : List ℕ). in_band band e.0 ∷ l) (in_band_numbers band es)

both_at : (t : Tap) (x : ℤ) → numbers_of (measured_at t x) ≡ events_at t x
unfolding measured_at events_at
both_at t x =
    map-append (λ (e : ℕ × ℤ). e.0) (map (measured_in t.first.band) (receiver.measured_at t.first x))
    (map (measured_in t.second.band) (receiver.measured_at t.second x))
    ∙ ap₂ (λ (l m : List ℕ). l ++ m) (of t.first) (of t.second)
  where
    of : (s : Receiver) → numbers_of (map (measured_in s.band) (receiver.measured_at s x)) ≡ map (in_band s.band) (receiver.events_at s x)
    of s = in_band_numbers s.band (receiver.measured_at s x) ∙ ap (map (in_band s.band)) (numbers-at s x)

pub measured-numbers : (t : Tap) (xs : List ℤ) → numbers_of (measured_after t xs) ≡ events_after t xs
unfolding gives
measured-numbers t [] = refl
measured-numbers t (x ∷ xs) =
    map-append (λ (e : ℕ × ℤ). e.0) (measured_at t x) (measured_after (after_sample t x) xs)
    ∙ ap₂ (λ (l m : List ℕ). l ++ m) (both_at t x) (measured-numbers (after_sample t x) xs)

pub numbers_of_band : (band : ℕ) (es : List (ℕ × ℤ)) → numbers_of (measured_of_band band es) ≡ of_band band (numbers_of es)
numbers_of_band band [] = refl
numbers_of_band band (e ∷ es) =
    let here : Bool = eqb (e.0 / 1000) band in
    let event : ℕ × ℤ = (e.0 - 1000 * band, e.1) in
    map-append (λ (e : ℕ × ℤ). e.0) (cond here (event ∷ []) []) (measured_of_band band es)
    ∙ ap₂ (λ (l m : List ℕ). l ++ m) (one here event) (numbers_of_band band es)
  where
    one : (b : Bool) (x : ℕ × ℤ) → numbers_of (cond b (x ∷ []) []) ≡ cond b (x.0 ∷ []) []
    one true x = refl
    one false x = refl
