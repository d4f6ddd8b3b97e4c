-- `Margins` for every band, with each sample altered by at most `disturbance`, of a receiver as it is and of one that doubts differences
-- below `clearance` too: one test that is computed for each place of the table.
-- Assumes nothing.
use mathlib.Core.Path.{◌≡◌, refl, sym, ◌∙◌}
use mathlib.Core.Bool.{Bool, true, false, cond, ◌&&◌}
use mathlib.Core.List.{List, [], ◌∷◌, map}
use mathlib.Mathlib.Data.Bool.Basic.{and_elim_left, and_elim_right}
use Prim.Native.Nat.{ℕ, ◌*◌, ◌-◌, ◌/◌, ◌%◌, ◌<◌}
use native.Mathlib.Omega.{arith}
use borrow.Author.Tests.{eqb-true}
use lib.Dec.{eqb}
use lib.ListN.{length, get_or}
use Rattle.std.proofs.lemmas.List.{get_or-map}
use Rattle.integers.proofs.Tests.{passes_below, below_at}
use Rattle.sine.specs.Sine.{S, half, nearest}
use Rattle.tones.specs.declared.Tones.{Tones}
use Rattle.tones.specs.Bands.{originate, bands, is_band, tones_of}
use Rattle.tones.proofs.Laws.{few-bands, in_band, tones_band, tones_else}
use Rattle.quality.proofs.Clear.{strict}
use Rattle.receiver.specs.Energy.{decision_of}
use Rattle.margin.specs.Windows.{disturbance, clearance, Margins}
use Rattle.margin.proofs.Test.{test}
use Rattle.margin.proofs.Phases.{margins_of}
use Rattle.margin.proofs.Plain.{plainly}

-- with the bit doubtful also below `clearance`
abbrev ClearMargins : Tones → Type 1
ClearMargins t = Margins disturbance t (λ w. strict clearance (decision_of t w))

-- ---- one row

-- the first of the numbers that divides both steps, or 1
abbrev dividing : Tones → List ℕ → ℕ
dividing t [] = 1
dividing t (d ∷ ds) = cond (eqb (t.space % d) 0 && eqb (t.mark % d) 0) d (dividing t ds)

-- 32 times the largest number that divides both steps and 30, so that few phases are tested
abbrev stride_of : Tones → ℕ
stride_of t = 32 * dividing t (30 ∷ 15 ∷ 10 ∷ 6 ∷ 5 ∷ 3 ∷ 2 ∷ [])

-- the stride fits, and all its phases below 960 pass
abbrev stride_sure : Tones → (stride : ℕ) → Bool
stride_sure t stride =
    eqb (stride * (960 / stride)) 960
    && (eqb (32 * t.space % stride) 0 && (eqb (32 * t.mark % stride) 0 && test disturbance clearance t stride (960 / stride)))

abbrev row_sure : Tones → Bool
row_sure t = stride_sure t (stride_of t)

of_stride : (t : Tones) (stride : ℕ) → stride_sure t stride ≡ true → ClearMargins t
of_stride t stride h =
    let whole : Bool = eqb (stride * (960 / stride)) 960 in
    let space : Bool = eqb (32 * t.space % stride) 0 in
    let mark : Bool = eqb (32 * t.mark % stride) 0 in
    let fits = and_elim_right whole _ h in
    let sure = and_elim_right space _ fits in
    margins_of disturbance clearance t stride (960 / stride) (eqb-true _ 960 (and_elim_left whole _ h)) (and_elim_right mark _ sure)
    (eqb-true _ 0 (and_elim_left space _ fits)) (eqb-true _ 0 (and_elim_left mark _ sure))

-- ---- the table

-- the row at a place passes; behind the end of the table there is none
unfoldable sure_at : (place : ℕ) → Bool
sure_at place = get_or (map row_sure bands) place true

-- A declaration may compute only so much, about 40 phases, and a row has up to 30. So each place is computed by itself, as many as there
-- can be: a band is one digit.
place_0 : sure_at 0 ≡ true
unfolding sure_at bands test S half nearest
place_0 = refl

place_1 : sure_at 1 ≡ true
unfolding sure_at bands test S half nearest
place_1 = refl

place_2 : sure_at 2 ≡ true
unfolding sure_at bands test S half nearest
place_2 = refl

place_3 : sure_at 3 ≡ true
unfolding sure_at bands test S half nearest
place_3 = refl

place_4 : sure_at 4 ≡ true
unfolding sure_at bands test S half nearest
place_4 = refl

place_5 : sure_at 5 ≡ true
unfolding sure_at bands test S half nearest
place_5 = refl

place_6 : sure_at 6 ≡ true
unfolding sure_at bands test S half nearest
place_6 = refl

place_7 : sure_at 7 ≡ true
unfolding sure_at bands test S half nearest
place_7 = refl

place_8 : sure_at 8 ≡ true
unfolding sure_at bands test S half nearest
place_8 = refl

all_sure_lem : passes_below sure_at 9 ≡ true
all_sure_lem = rw (place_0, place_1, place_2, place_3, place_4, place_5, place_6, place_7, place_8)

row : (k : ℕ) → k < length bands → ClearMargins (get_or bands k originate)
unfolding sure_at
row k h =
    let t : Tones = get_or bands k originate in
    of_stride t (stride_of t) (sym (get_or-map row_sure bands k originate true h) ∙ below_at sure_at 9 all_sure_lem k (omega (arith, few-bands)))

-- a number that is no band has the first row's tones
first-row : ClearMargins originate
unfolding bands
first-row = row 0 (omega arith)

pub clear_margins : (band : ℕ) → Margins disturbance (tones_of band) (λ w. strict clearance (decision_of (tones_of band) w))
clear_margins band = go (is_band band) refl
  where
    go : (b : Bool) → is_band band ≡ b → ClearMargins (tones_of band)
    go true e = let b = in_band band e in rw (tones_band band e) (row (band - 1) (omega (arith, b.low, b.high)))
    go false e = rw (tones_else band e) first-row

pub margins : (band : ℕ) → Margins disturbance (tones_of band) (decision_of (tones_of band))
margins band = plainly clearance (decision_of (tones_of band)) (clear_margins band)
