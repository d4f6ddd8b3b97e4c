-- Writing in parts: the lines that are left at a place of the samples, and the head with all lines behind it.
-- Assumes nothing.
use native.Mathlib.Nat.{not-suc-le-zero}
use borrow.Author.Tests.{ltb-true}
use lib.Signed.{lt_z}
use Rattle.std.proofs.Common.{◌≡◌, refl, sym, ap, ◌∙◌, true, false, true≢false, List, [], ◌∷◌, ◌++◌, ℕ, suc, ◌+◌, ◌<◌, ◌≤◌, ℤ, pos, negsuc, nat_abs, length, get_or, drop, add-one, arith, length-append, drop-cons, Ok, Err, to_z, of_z, w16}
use lib.Seq.{sets}
use mir.Facts.{to_z-of_z}
use mir.Val.{SFits}
use Rattle.integers.proofs.Lists.{sets_append, sets-front}
use Rattle.calls.specs.declared.Refusal.{Refusal}
use Rattle.calls.specs.Refusals.{number_of, first_of}
use Rattle.calls.specs.Outcome.{outcome, as_answer, accepted}
use Rattle.calls.proofs.Refusals.{answer_refused, answer_accepted}
use Rattle.calls.proofs.Filling.{Filling, filling_start, filling_more}
use Rattle.tones.proofs.Laws.{band-digit}
use Rattle.digits.specs.Numbers.{decimal}
use Rattle.digits.proofs.Numbers.{five_digits}
use Rattle.sheet.specs.Text.{line_of, lines_of, head_of, sheet_of}
use Rattle.sheet.specs.Calls.{most_bytes, write_tests, write_of}
use Rattle.sheet.proofs.Calls.{Writable, writable}
use Rattle.sheet_writer.proofs.Lengths.{sheet_lines}

-- ---- one line

-- a number and a line feed behind it
pub number_put : (n : ℕ) (lent : List ℕ) (at : ℕ)
    → sets (sets lent at (decimal n)) (at + length (decimal n)) (10 ∷ []) ≡ sets lent at (decimal n ++ (10 ∷ []))
number_put n lent at = sym (sets_append lent at (decimal n) (10 ∷ []))

pub number_long : (n : ℕ) → length (decimal n) + 1 ≡ length (decimal n ++ (10 ∷ []))
number_long n = sym (length-append (decimal n) (10 ∷ []))

pub number_short : (n : ℕ) → n < 65536 → length (decimal n ++ (10 ∷ [])) ≤ 6
number_short n h = omega (arith, number_long n, five_digits n h)

-- for the search of the check
pub ruleset number = (number_put, number_long, five_digits)

-- a minus in front
pub minus_put : (z : ℤ) (lent : List ℕ) (at : ℕ) → lt_z z (pos 0) ≡ true
    → sets (sets lent at (45 ∷ [])) (at + 1) (decimal (nat_abs z) ++ (10 ∷ [])) ≡ sets lent at (line_of z)
unfolding line_of
minus_put (pos n) lent at e = absurd (not-suc-le-zero (ltb-true n 0 e))
minus_put (negsuc n) lent at e = sym (sets_append lent at (45 ∷ []) (decimal (suc n) ++ (10 ∷ [])))

pub minus_long : (z : ℤ) → lt_z z (pos 0) ≡ true → 1 + length (decimal (nat_abs z) ++ (10 ∷ [])) ≡ length (line_of z)
unfolding line_of
minus_long (pos n) e = absurd (not-suc-le-zero (ltb-true n 0 e))
minus_long (negsuc n) e = omega arith

pub plain_line : (z : ℤ) → lt_z z (pos 0) ≡ false → decimal (nat_abs z) ++ (10 ∷ []) ≡ line_of z
unfolding line_of
plain_line (pos n) e = refl
plain_line (negsuc n) e = absurd (true≢false e)

-- for the search of the check
pub ruleset signs = (minus_put, minus_long, plain_line, number_short)

-- ---- the lines

-- the lines of the samples before place i are put up to the place `at`, and the others are left
pub record Lined (zs : List ℤ) (lent now : List ℕ) (at i : ℕ) : Type 0 where
  pub whole : at + length (lines_of (drop i zs)) ≡ 14 + length (lines_of zs)
  pub filling : Filling lent 14 (lines_of zs) now at (lines_of (drop i zs))

pub lined_start : (zs : List ℤ) (lent : List ℕ) → Lined zs lent lent 14 0
lined_start zs lent = record { whole = refl; filling = filling_start lent 14 (lines_of zs) }

module _ {zs : List ℤ} {lent now : List ℕ} {at i : ℕ} (p : Lined zs lent now at i) where
  -- one sample more, in its 16 bits
  module _ (h : i < length zs) (fits : SFits w16 (get_or zs i (pos 0))) where
    abbrev line : List ℕ
    line = line_of (to_z w16 (of_z w16 (get_or zs i (pos 0))))

    next : lines_of (drop i zs) ≡ line ++ lines_of (drop (i + 1) zs)
    next = rw (to_z-of_z {w = w16} fits, add-one i) (ap lines_of (drop-cons zs i (pos 0) h))

    left : at + length line + length (lines_of (drop (i + 1) zs)) ≡ 14 + length (lines_of zs)
    left = omega (arith, ap length next, length-append line (lines_of (drop (i + 1) zs)), p.whole)

    pub lined_more : Lined zs lent (sets now at line) (at + length line) (i + 1)
    lined_more = record { whole = left; filling = filling_more line (lines_of (drop (i + 1) zs)) (rw next at p.filling) }

-- for the search of the check
pub ruleset lines = (lined_start, lined_more)

-- ---- the whole sheet

module _ (band : ℕ) (zs : List ℤ) (lent : List ℕ) where
  -- a refusal
  pub refused_as : (r : Refusal) → number_of r ≡ first_of (write_tests band zs (length lent)) → outcome (as_answer (Err r)) tt lent ≡ write_of band zs lent
  unfolding write_of
  refused_as r e = answer_refused (write_tests band zs (length lent)) tt lent (accepted tt (sheet_of band zs) lent) r e

  -- nothing is refused
  module _ (e : 0 ≡ first_of (write_tests band zs (length lent))) where
    all : Writable band zs (length lent)
    all = writable band zs (length lent) (sym e)

    pub digit : band < 10
    digit = band-digit band all.known

    pub lines-room : 14 + length (lines_of zs) ≤ most_bytes
    lines-room = omega (arith, sheet_lines band zs, all.short)

    -- the head and all lines behind it
    pub accepted_as : (count : ℕ) → count ≡ 14 + length (lines_of zs) → (now : List ℕ) → now ≡ sets (sets lent 0 (head_of (48 + band))) 14 (lines_of zs)
        → outcome (as_answer (Ok count)) tt now ≡ write_of band zs lent
    unfolding write_of sheet_of head_of
    accepted_as count n now o =
        answer_accepted (write_tests band zs (length lent)) tt lent e tt (sheet_of band zs) count now
        (n ∙ sym (sheet_lines band zs))
        (o ∙ sym (sets_append lent 0 (head_of (48 + band)) (lines_of zs)) ∙ sets-front (sheet_of band zs) lent all.places)

-- for the search of the check
pub ruleset sheets = (refused_as, digit, lines-room, accepted_as)
