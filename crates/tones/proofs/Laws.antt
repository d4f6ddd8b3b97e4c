-- What a band's number says, the rows of the table, and the pairs of bands.
-- Assumes nothing.
use mathlib.Core.Path.{◌≡◌, refl, ap}
use mathlib.Core.Bool.{true, false, ◌&&◌, and-false}
use mathlib.Mathlib.Data.Bool.Basic.{and_elim_left, and_elim_right, and_intro}
use Prim.Native.Nat.{ℕ, zero, suc, ◌-◌, ◌<◌, ◌≤◌}
use native.Mathlib.Omega.{arith}
use borrow.Author.Tests.{leb-true, le-leb, lt-leb, eqb-true}
use lib.Dec.{leb, eqb, lit≤}
use lib.ListN.{length, get_or}
use Rattle.std.specs.Prelude.{Some, None, is_some, unwrap_or}
use Rattle.std.proofs.lemmas.Option.{slice_get-get_or, slice_get_past}
use Rattle.integers.proofs.Tests.{or_case, lt_or_le}
use Rattle.tones.specs.Bands.{originate, bands, row, is_band, is_pair, tones_of}

pub record Band (b : ℕ) : Type 0 where
  pub low : 1 ≤ b
  pub high : b ≤ length bands

pub in_band : (b : ℕ) → is_band b ≡ true → Band b
unfolding is_band
in_band b h =
    record {
      low = leb-true 1 b (and_elim_left (leb 1 b) (leb b (length bands)) h);
      high = leb-true b (length bands) (and_elim_right (leb 1 b) (leb b (length bands)) h);
    }

-- a band is written with one digit
pub few-bands : length bands ≤ 9
unfolding bands
few-bands = lit≤ tt

pub band-digit : (b : ℕ) → is_band b ≡ true → b < 10
band-digit b h = omega (arith, (in_band b h).high, few-bands)

pub tones_band : (b : ℕ) → is_band b ≡ true → tones_of b ≡ get_or bands (b - 1) originate
unfolding tones_of
tones_band b h = rw h

pub tones_else : (b : ℕ) → is_band b ≡ false → tones_of b ≡ originate
unfolding tones_of
tones_else b h = rw h

-- the row of a number tells if it is a band, and its tones, however many rows there are
row_at : (n : ℕ) → n < length bands → row (suc n) ≡ Some (get_or bands n originate)
unfolding row
row_at n h = slice_get-get_or bands n originate h

row_past : (n : ℕ) → length bands ≤ n → row (suc n) ≡ None
unfolding row
row_past n h = slice_get_past bands n h

band_at : (n : ℕ) → n < length bands → is_band (suc n) ≡ true
unfolding is_band
band_at n h = and_intro (le-leb 1 (suc n) (omega arith)) (le-leb (suc n) (length bands) h)

band_past : (n : ℕ) → length bands ≤ n → is_band (suc n) ≡ false
unfolding is_band
band_past n h = rw (lt-leb (suc n) (length bands) (omega (arith, h))) (and-false (leb 1 (suc n)))

pub row_known : (b : ℕ) → is_band b ≡ is_some (row b)
unfolding row is_band
row_known zero = refl
row_known (suc n) = lt_or_le n (length bands) (λ l. rw (band_at n l, row_at n l) refl) (λ l. rw (band_past n l, row_past n l) refl)

pub row_tones : (b : ℕ) → tones_of b ≡ unwrap_or (row b) originate
unfolding row is_band
row_tones zero = tones_else zero refl
row_tones (suc n) =
    let same : suc n - 1 ≡ n = omega arith in
    lt_or_le n (length bands)
    (λ l. rw (tones_band (suc n) (band_at n l), row_at n l) (ap (λ i. get_or bands i originate) same))
    (λ l. rw (tones_else (suc n) (band_past n l), row_past n l) refl)

-- the first rows by number
pub rows : (tones_of 1 ≡ originate) × (tones_of 2 ≡ record { space = 405; mark = 445 })
unfolding tones_of is_band bands
rows = (refl, refl)

-- ---- pairs

-- what holds of each pair holds of any
pair_case : (P : ℕ → ℕ → Type 0) → P 1 2 → P 3 4 → (first second : ℕ) → is_pair first second ≡ true → P first second
unfolding is_pair
pair_case P one three first second h =
    or_case (eqb first 1 && eqb second 2) (eqb first 3 && eqb second 4) (this 1 2 one) (this 3 4 three) h
  where
    this : (m n : ℕ) → P m n → (eqb first m && eqb second n) ≡ true → P first second
    this m n p e =
        rw (eqb-true first m (and_elim_left (eqb first m) (eqb second n) e), eqb-true second n (and_elim_right (eqb first m) (eqb second n) e)) p

pub pairs : (is_pair 1 2 ≡ true) × (is_pair 3 4 ≡ true)
unfolding is_pair
pairs = (refl, refl)

-- the second band is the one behind the first
pub pair-next : (first second : ℕ) → is_pair first second ≡ true → second ≡ suc first
pair-next = pair_case (λ m n. n ≡ suc m) refl refl

-- both are bands
pub pair-known : (first second : ℕ) → is_pair first second ≡ true → (is_band first ≡ true) × (is_band second ≡ true)
unfolding is_band bands
pair-known = pair_case (λ m n. (is_band m ≡ true) × (is_band n ≡ true)) (refl, refl) (refl, refl)
