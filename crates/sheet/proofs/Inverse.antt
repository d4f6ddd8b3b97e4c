-- The head of a sheet; and reading is the inverse of writing: what was written is read, and no other text is taken.
-- Assumes nothing.
use mathlib.Core.Path.{◌≡◌, sym, ap, ◌∙◌}
use mathlib.Core.Bool.{true}
use mathlib.Core.List.{List, ◌++◌}
use mathlib.Mathlib.Data.Bool.Basic.{and_elim_left, and_elim_right, and_intro}
use Prim.Native.Nat.{ℕ, ◌+◌, ◌<◌, ◌≤◌}
use native.Mathlib.Omega.{arith}
use lib.IntN.{ℤ, nat_abs}
use lib.ListN.{length, get_or, drop}
use Rattle.std.specs.Prelude.{Some}
use Rattle.integers.specs.All.{All}
use Rattle.digits.specs.Numbers.{is_digit}
use Rattle.digits.proofs.Numbers.{digit_low, digit-high, is_digit_lem}
use Rattle.text.specs.Bytes.{starts_with}
use Rattle.text.proofs.Bytes.{starts_cut, starts_append, starts_long}
use Rattle.sheet.specs.Text.{lines_of, head_of, sheet_of}
use Rattle.sheet.specs.Parse.{line_after, is_start, is_headed, is_sheet, band_in, samples_of}
use Rattle.sheet.specs.Inverse.{ReadsAs, IsSheetOf, Inverse}
use Rattle.sheet.specs.declared.Line.TheVariants.{Start}
use Rattle.sheet.proofs.LinesRead.{lines-read}
use Rattle.sheet.proofs.LinesWritten.{is_start_lem, lines-written}

-- ---- the head

-- what is told by a text that has one
pub record Headed (t : List ℕ) : Type 0 where
  pub long : 14 ≤ length t
  pub low : 48 ≤ get_or t 5 0
  pub digit : band_in t < 10
  pub cut : t ≡ head_of (48 + band_in t) ++ drop 14 t

pub headed : (t : List ℕ) → is_headed t ≡ true → Headed t
unfolding is_headed head_of
headed t h =
    let x : ℕ = get_or t 5 0 in
    let front = and_elim_left (starts_with (head_of x) t) (is_digit x) h in
    let d = and_elim_right (starts_with (head_of x) t) (is_digit x) h in
    let e : x ≡ 48 + band_in t = omega (arith, digit_low x d) in
    record {
      long = starts_long (head_of x) t front;
      low = digit_low x d;
      digit = omega (arith, digit-high x d);
      cut = starts_cut (head_of x) t front ∙ ap (λ (y : ℕ). head_of y ++ drop 14 t) e;
    }

pub sheet_headed : (t : List ℕ) → is_sheet t ≡ true → Headed t
unfolding is_sheet
sheet_headed t h = headed t (and_elim_left (is_headed t) (is_start (line_after (Some Start) (drop 14 t))) h)

-- ---- both ways

sheet_taken : (band : ℕ) (zs : List ℤ) → band < 10 → All (λ z. nat_abs z < 10000) zs → ReadsAs (sheet_of band zs) band zs
unfolding is_sheet is_headed sheet_of head_of is_start
sheet_taken band zs d four =
    let read = lines-read zs four in
    let head = and_intro (starts_append (head_of (48 + band)) (lines_of zs)) (is_digit_lem (48 + band) (omega arith) (omega arith)) in
    record {
      taken = and_intro head (ap is_start read.0);
      band_read = omega arith;
      samples_read = read.1;
    }

taken_sheet : (t : List ℕ) → is_sheet t ≡ true → IsSheetOf t (band_in t) (samples_of t)
unfolding is_sheet sheet_of
taken_sheet t h =
    let head = sheet_headed t h in
    let end = is_start_lem (line_after (Some Start) (drop 14 t)) (and_elim_right (is_headed t) (is_start (line_after (Some Start) (drop 14 t))) h) in
    let lines = lines-written (drop 14 t) end in
    record { written = head.cut ∙ ap (λ (r : List ℕ). head_of (48 + band_in t) ++ r) lines.0; digit = head.digit; four = lines.1 }

pub inverse : Inverse
inverse t band zs = (forth, back)
  where
    forth : ReadsAs t band zs → IsSheetOf t band zs
    forth r = rw (r.band_read, r.samples_read) at (taken_sheet t r.taken)

    back : IsSheetOf t band zs → ReadsAs t band zs
    back s = rw s.written (sheet_taken band zs s.digit s.four)

-- a text is the sheet of at most one band and one list of samples
pub unique : (t : List ℕ) (a b : ℕ) (xs ys : List ℤ) → IsSheetOf t a xs → IsSheetOf t b ys → (a ≡ b) × (xs ≡ ys)
unique t a b xs ys p q =
    let r = (inverse t a xs).1 p in
    let s = (inverse t b ys).1 q in
    (sym r.band_read ∙ s.band_read, sym r.samples_read ∙ s.samples_read)
