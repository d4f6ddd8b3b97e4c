-- One of a tap's receivers: the tap moves it as it moves alone, and the events of its band are its own. For either receiver, from two laws.
-- Assumes nothing.
use mathlib.Core.Path.{◌≡◌, refl, sym, ap, ap₂, ◌∙◌}
use mathlib.Core.Bool.{true}
use mathlib.Core.List.{List, [], ◌∷◌, ◌++◌, map, append-nil}
use mathlib.Mathlib.Data.Bool.Basic.{and_elim_left, and_elim_right, and_intro}
use Prim.Native.Nat.{ℕ, ◌-◌, ◌*◌, ◌/◌, ◌<◌}
use native.Mathlib.Omega.{arith}
use borrow.Author.Tests.{eq-eqb, ne_eqb}
use lib.IntN.{ℤ}
use Rattle.integers.specs.All.{All, none, more}
use Rattle.calls.specs.Runs.{after, gives}
use Rattle.calls.proofs.Simulation.{each_append}
use Rattle.tones.specs.Bands.{is_pair}
use Rattle.tones.specs.Samples.{are_samples}
use Rattle.tones.proofs.Laws.{pair-next}
use Rattle.tones.proofs.Samples.{samples_append}
use Rattle.receiver.specs.declared.Receiver.{Receiver}
use Rattle.receiver.specs.Step as receiver
use Rattle.receiver.specs.Calls as calls
use Rattle.receiver.proofs.Ranges.{state_kept}
use Rattle.receiver.proofs.Events.{events-known}
use Rattle.receiver.proofs.Windows.{band-after}
use Rattle.tap.specs.declared.Tap.{Tap}
use Rattle.tap.specs.Step.{in_band, measured_in, after_sample, measured_at, state_after, measured_after}
use Rattle.tap.specs.Calls.{in_range}
use Rattle.tap.specs.Lists.{measured_of_band}
use Rattle.tap.specs.AsCoded.{numbers_of}
use Rattle.tap.proofs.Measured.{numbers-at}
use Rattle.tap.proofs.Blocks.{small, InRange, in_range_lem, both_after}

-- ---- the events of a band

-- events below 1,000, each with its difference
abbrev Small : List (ℕ × ℤ) → Type 0
Small es = All (λ n. n < 1000) (numbers_of es)

own : (band : ℕ) (es : List (ℕ × ℤ)) → Small es → measured_of_band band (map (measured_in band) es) ≡ es
own band [] none = refl
own band (e ∷ es) (more h hs) =
    let number : in_band band e.0 - 1000 * band ≡ e.0 = omega arith in
    rw (eq-eqb (in_band band e.0 / 1000) band (omega arith), number) (ap (λ (l : List (ℕ × ℤ)). e ∷ l) (own band es hs))

other : (band else : ℕ) → (else ≡ band → ⊥) → (es : List (ℕ × ℤ)) → Small es → measured_of_band band (map (measured_in else) es) ≡ []
other band else d [] none = refl
other band else d (e ∷ es) (more h hs) =
    let q : in_band else e.0 / 1000 ≡ else = omega arith in
    rw (ne_eqb (in_band else e.0 / 1000) band (λ r. d (sym q ∙ r))) (other band else d es hs)

-- those of one sample are below 1,000
small_at : (s : Receiver) (x : ℤ) → calls.in_range s ≡ true → Small (receiver.measured_at s x)
unfolding gives
small_at s x h =
    rw (numbers-at s x)
    (rw (append-nil (receiver.events_at s x)) at (small (receiver.events_after s (x ∷ [])) (events-known s (x ∷ []) h)))

-- ---- the ranges of a tap

pub range_kept : (t : Tap) (xs : List ℤ) → in_range t ≡ true → are_samples xs ≡ true → in_range (state_after t xs) ≡ true
unfolding in_range
range_kept t xs h l =
    let r = in_range_lem t h in
    let pair = ap₂ is_pair (band-after t.first xs) (band-after t.second xs) in
    rw (both_after t xs)
    (and_intro (state_kept t.first xs r.first l) (and_intro (state_kept t.second xs r.second l) (pair ∙ r.pair)))

bands_differ : (t : Tap) → is_pair t.first.band t.second.band ≡ true → t.first.band ≡ t.second.band → ⊥
bands_differ t p e = omega (arith, pair-next t.first.band t.second.band p)

-- ---- what is asked of a part, which both receivers have

pub record IsPart (part : Tap → Receiver) : Type 0 where
  pub moves : (t : Tap) (x : ℤ) → part (after_sample t x) ≡ receiver.after_sample (part t) x
  pub shows : (t : Tap) (x : ℤ) → InRange t → measured_of_band (part t).band (measured_at t x) ≡ receiver.measured_at (part t) x

-- the events at a sample, as the part of either band has them
module _ (t : Tap) (x : ℤ) (band : ℕ) where
  abbrev one : List (ℕ × ℤ)
  one = map (measured_in t.first.band) (receiver.measured_at t.first x)

  abbrev two : List (ℕ × ℤ)
  two = map (measured_in t.second.band) (receiver.measured_at t.second x)

  parts_at : measured_of_band band (measured_at t x) ≡ measured_of_band band one ++ measured_of_band band two
  unfolding measured_at
  parts_at = each_append _ one two

pub first_part : IsPart (λ t. t.first)
unfolding after_sample
first_part =
    record {
      moves = λ t x. refl;
      shows = λ t x r.
          parts_at t x t.first.band
          ∙ ap₂ (λ (l m : List (ℕ × ℤ)). l ++ m)
          (own t.first.band (receiver.measured_at t.first x) (small_at t.first x r.first))
          (other t.first.band t.second.band (λ e. bands_differ t r.pair (sym e)) (receiver.measured_at t.second x) (small_at t.second x r.second))
          ∙ append-nil (receiver.measured_at t.first x);
    }

pub second_part : IsPart (λ t. t.second)
unfolding after_sample
second_part =
    record {
      moves = λ t x. refl;
      shows = λ t x r.
          parts_at t x t.second.band
          ∙ ap₂ (λ (l m : List (ℕ × ℤ)). l ++ m)
          (other t.second.band t.first.band (bands_differ t r.pair) (receiver.measured_at t.first x) (small_at t.first x r.first))
          (own t.second.band (receiver.measured_at t.second x) (small_at t.second x r.second));
    }

-- ---- a part over a list of samples

module _ {part : Tap → Receiver} (is : IsPart part) where
  pub part_after : (t : Tap) (xs : List ℤ) → part (state_after t xs) ≡ receiver.state_after (part t) xs
  unfolding after
  part_after t [] = refl
  part_after t (x ∷ xs) = part_after (after_sample t x) xs ∙ ap (λ (s : Receiver). receiver.state_after s xs) (is.moves t x)

  pub part_events : (t : Tap) (xs : List ℤ) → in_range t ≡ true → are_samples xs ≡ true
      → measured_of_band (part t).band (measured_after t xs) ≡ receiver.measured_after (part t) xs
  unfolding after gives
  part_events t [] h l = refl
  part_events t (x ∷ xs) h l =
      let both = samples_append (x ∷ []) xs in
      let now : are_samples (x ∷ []) ≡ true = and_elim_left (are_samples (x ∷ [])) (are_samples xs) (sym both ∙ l) in
      let later : are_samples xs ≡ true = and_elim_right (are_samples (x ∷ [])) (are_samples xs) (sym both ∙ l) in
      let next : Tap = after_sample t x in
      let same : (part next).band ≡ (part t).band = ap (λ (s : Receiver). s.band) (is.moves t x) ∙ band-after (part t) (x ∷ []) in
      each_append _ (measured_at t x) (measured_after next xs)
      ∙ ap₂ (λ (l m : List (ℕ × ℤ)). l ++ m) (is.shows t x (in_range_lem t h))
      (ap (λ (b : ℕ). measured_of_band b (measured_after next xs)) (sym same)
      ∙ part_events next xs (range_kept t (x ∷ []) h now) later
      ∙ ap (λ (s : Receiver). receiver.measured_after s xs) (is.moves t x))
