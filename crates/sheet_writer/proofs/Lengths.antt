-- The lengths of a sheet's parts.
-- Assumes nothing.
use native.Mathlib.Nat.{not-suc-le-zero}
use borrow.Author.Tests.{ltb-true}
use lib.Signed.{lt_z}
use Rattle.std.proofs.Common.{◌≡◌, refl, true, false, true≢false, List, [], ◌∷◌, ℕ, suc, ◌+◌, ◌*◌, ◌<◌, ◌≤◌, ℤ, pos, negsuc, nat_abs, length, sum_by, arith, length-append}
use Rattle.std.proofs.lemmas.List.Sums.{sum_by-cons}
use Rattle.integers.specs.Sums.{Bounded}
use Rattle.tones.specs.Samples.{most_samples, are_samples}
use Rattle.tones.proofs.Samples.{samples_bound}
use Rattle.digits.specs.Numbers.{decimal}
use Rattle.digits.proofs.Numbers.{length-decimal, five_digits}
use Rattle.sheet.specs.Text.{line_of, lines_of, head_of, sheet_of}

abbrev pub line_len : ℤ → ℕ
line_len z = length (line_of z)

-- the line of a sample: a minus, four digits and the line feed at most
short_line : (z : ℤ) → nat_abs z < 10000 → line_len z ≤ 6
unfolding line_of
short_line (pos n) h = omega (arith, length-append (decimal n) (10 ∷ []), length-decimal 3 n h)
short_line (negsuc n) h = omega (arith, length-append (decimal (suc n)) (10 ∷ []), length-decimal 3 (suc n) h)

-- its digits, the line feed, and the minus of a negative one
pub length_minus : (z : ℤ) → lt_z z (pos 0) ≡ true → line_len z ≡ length (decimal (nat_abs z)) + 2
unfolding line_of
length_minus (pos n) e = absurd (not-suc-le-zero (ltb-true n 0 e))
length_minus (negsuc n) e = omega (arith, length-append (decimal (suc n)) (10 ∷ []))

pub length_plain : (z : ℤ) → lt_z z (pos 0) ≡ false → line_len z ≡ length (decimal (nat_abs z)) + 1
unfolding line_of
length_plain (pos n) e = length-append (decimal n) (10 ∷ [])
length_plain (negsuc n) e = absurd (true≢false e)

-- for the search of the check
pub ruleset by_digits = (length_minus, length_plain, five_digits)

short_lines : (zs : List ℤ) → Bounded 8191 zs → sum_by line_len zs ≤ 6 * length zs
short_lines [] b = omega arith
short_lines (z ∷ zs) b =
    omega
    (arith, sum_by-cons line_len z zs, short_line z (omega (arith, b.at 0)), short_lines zs (record { at = λ k. b.at (suc k) }))

-- so the length of all lines can be computed
pub few_lines : (zs : List ℤ) → length zs ≤ most_samples → are_samples zs ≡ true → sum_by line_len zs ≤ 6 * most_samples
few_lines zs few sound = omega (arith, short_lines zs (samples_bound zs sound), few)

length-lines : (zs : List ℤ) → length (lines_of zs) ≡ sum_by line_len zs
length-lines [] = refl
length-lines (z ∷ zs) = omega (arith, sum_by-cons line_len z zs, length-append (line_of z) (lines_of zs), length-lines zs)

pub sheet_lines : (band : ℕ) (zs : List ℤ) → length (sheet_of band zs) ≡ 14 + length (lines_of zs)
unfolding sheet_of head_of
sheet_lines band zs = length-append (head_of (48 + band)) (lines_of zs)

pub length_sheet : (band : ℕ) (zs : List ℤ) → length (sheet_of band zs) ≡ 14 + sum_by line_len zs
length_sheet band zs = omega (arith, sheet_lines band zs, length-lines zs)

-- for the search of the check
pub ruleset lengths = (few_lines, length_sheet)
