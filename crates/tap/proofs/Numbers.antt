-- The refusals of a block, from what the receivers answer where they have places enough.
-- Assumes nothing.
use mathlib.Core.Path.{◌≡◌, refl, sym, ◌∙◌}
use mathlib.Core.Bool.{Bool, true, false, true≢false, cond, not, ◌&&◌, and-false}
use mathlib.Core.List.{List}
use Prim.Native.Nat.{ℕ}
use native.Mathlib.Omega.{arith}
use borrow.Author.Tests.{ltb-false, le-ltb, ne_eqb}
use lib.Dec.{eqb, ltb}
use lib.IntN.{ℤ}
use lib.ListN.{length}
use Rattle.std.specs.Prelude.{Result, Ok, Err}
use Rattle.std.specs.Result.{result_eq}
use Rattle.calls.specs.declared.Refusal.{Refusal}
use Rattle.calls.specs.declared.Refusal.TheVariants.{UnknownBand, StateOutOfRange, TooMany, TooFewPlaces, SampleOutOfRange, SheetTooLong, NotASheet, NotAPair}
use Rattle.calls.specs.contracts.RefusalPartialEq.TheImpl.{eq-value}
use Rattle.calls.specs.Refusals.{number_of, refusal_number, first_of}
use Rattle.calls.proofs.Refusals.{numbered}
use Rattle.tones.specs.Bands.{is_pair}
use Rattle.tones.specs.Samples.{most_samples, are_samples}
use Rattle.receiver.specs.Calls as receiver
use Rattle.tap.specs.declared.Tap.{Tap}
use Rattle.tap.specs.Calls.{in_range, places_for, block_tests}

-- an answer is compared with the refusal of a state out of its ranges
pub out_of_range : (r : Result ℕ Refusal) → result_eq eqb (eq-value).it r (Err StateOutOfRange) ≡ eqb (refusal_number r) 2
out_of_range (Ok n) = refl
out_of_range (Err UnknownBand) = refl
out_of_range (Err StateOutOfRange) = refl
out_of_range (Err TooMany) = refl
out_of_range (Err TooFewPlaces) = refl
out_of_range (Err SampleOutOfRange) = refl
out_of_range (Err SheetTooLong) = refl
out_of_range (Err NotASheet) = refl
out_of_range (Err NotAPair) = refl

-- without a pair of bands it is out of its ranges
pub no_pair : (t : Tap) → is_pair t.first.band t.second.band ≡ false → in_range t ≡ false
unfolding in_range
no_pair t e = rw (e, and-false (receiver.in_range t.second), and-false (receiver.in_range t.first)) refl

-- ---- a refusal of the first receiver that is not of its state is the tap's

-- what a receiver answers: `range` says that it is in its ranges, `long` that there are too many samples, `sound` that they are samples, and
-- `short` that there are too few places
abbrev answer : Bool → Bool → Bool → Bool → ℕ
answer range long sound short = cond (not range) 2 (cond long 3 (cond (not sound) 5 (cond short 4 0)))

-- where there are not too many samples, a receiver has places enough
of_samples : (first long sound none second short : Bool) → (long ≡ false → none ≡ false)
    → eqb (answer first long sound none) 2 ≡ false → eqb (answer second long sound none) 2 ≡ false → eqb (answer first long sound none) 0 ≡ false
    → answer first long sound none ≡ answer (first && (second && true)) long sound short
of_samples false long sound none second short h a b z = absurd (true≢false a)
of_samples true long sound none false short h a b z = absurd (true≢false b)
of_samples true true sound none true short h a b z = refl
of_samples true false false none true short h a b z = refl
of_samples true false true true true short h a b z = absurd (true≢false (h refl))
of_samples true false true false true short h a b z = absurd (true≢false z)

pub of_first : (t : Tap) (xs : List ℤ) (places : ℕ) (r : Refusal) (second : Result ℕ Refusal)
    → number_of r ≡ first_of (receiver.block_tests t.first xs receiver.most_events)
    → refusal_number second ≡ first_of (receiver.block_tests t.second xs receiver.most_events)
    → false ≡ result_eq eqb (eq-value).it (Err r) (Err StateOutOfRange) → false ≡ result_eq eqb (eq-value).it second (Err StateOutOfRange)
    → is_pair t.first.band t.second.band ≡ true → number_of r ≡ first_of (block_tests t xs places)
unfolding in_range
of_first t xs places r second e f a b p =
    rw p
    (e
    ∙ of_samples (receiver.in_range t.first) (ltb most_samples (length xs)) (are_samples xs) (ltb receiver.most_events (receiver.places_for (length xs)))
    (receiver.in_range t.second) (ltb places (places_for (length xs)))
    (λ l. le-ltb receiver.most_events (receiver.places_for (length xs)) (omega (arith, ltb-false most_samples (length xs) l)))
    (rw e at (sym (a ∙ out_of_range (Err r)))) (rw f at (sym (b ∙ out_of_range second))) (rw e at (ne_eqb (number_of r) 0 (numbered r))))
