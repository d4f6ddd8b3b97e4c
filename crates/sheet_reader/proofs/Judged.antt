-- What a text is refused with, from what its parts tell: the head, the first look at the lines, and the tests of these.
-- Assumes nothing.
use Rattle.std.proofs.Common.{◌≡◌, refl, ap, ◌∙◌, Bool, true, false, None, Some, Ok, Err, List, ℕ, ◌<◌, ◌≤◌, ℤ, length, if◌then◌else◌}
use mathlib.Mathlib.Data.Bool.Basic.{and_intro}
use Rattle.calls.specs.declared.Refusal.{Refusal}
use Rattle.calls.specs.declared.Refusal.TheVariants.{SheetTooLong, NotASheet}
use Rattle.calls.specs.Refusals.{number_of, first_of}
use Rattle.calls.specs.Outcome.{over, accepted}
use Rattle.calls.proofs.Refusals.{answer_refused, answer_accepted}
use Rattle.tones.specs.Samples.{are_samples}
use Rattle.sheet.specs.Parse.{line_after, samples_in, is_start, is_headed, is_sheet, band_in, samples_of}
use Rattle.sheet.specs.Calls.{most_bytes, samples_tests, read_tests, read_of}
use Rattle.sheet.specs.declared.Line.TheVariants.{Start}
use Rattle.sheet.proofs.Calls.{read_6, read_7, read_others}
use Rattle.sheet.proofs.LinesWritten.{is_start_lem}
use Rattle.sheet_reader.specs.Reading.{reading}
use Rattle.sheet_reader.specs.AsCoded.{IsHead, seen_of}
use Rattle.sheet_reader.specs.declared.reader.Seen.{Seen}

some_if : {A : Type 0} (b : Bool) (x y : A) → Some y ≡ (if b then Some x else None) → (b ≡ true) × (y ≡ x)
some_if true x y e = (refl, cc)
some_if false x y e = cc

none_if : {A : Type 0} (b : Bool) (x : A) → None ≡ (if b then Some x else None) → b ≡ false
none_if true x e = cc
none_if false x e = refl

-- what a first look finds in lines
module _ (lines : List ℕ) where
  abbrev found : Seen
  found = record { count = length (samples_in (Some Start) lines); sound = are_samples (samples_in (Some Start) lines) }

  abbrev is_ended : Bool
  is_ended = is_start (line_after (Some Start) lines)

module _ (text : List ℕ) (lent : List ℤ) where
  refused_as : (r : Refusal) → number_of r ≡ first_of (read_tests text (length lent)) → reading (Err r) lent ≡ read_of text lent
  unfolding read_of
  refused_as r e = answer_refused (read_tests text (length lent)) 0 lent (accepted (band_in text) (samples_of text) lent) r e

  pub too_long : most_bytes < length text → reading (Err SheetTooLong) lent ≡ read_of text lent
  too_long h = refused_as SheetTooLong (read_6 text (length lent) h)

  module _ (short : length text ≤ most_bytes) where
    pub headless : is_headed text ≡ false → reading (Err NotASheet) lent ≡ read_of text lent
    unfolding is_sheet
    headless h = refused_as NotASheet (read_7 text (length lent) short (rw h))

    module _ {band : ℕ} {lines : List ℕ} (h : IsHead text band lines) where
      pub lineless : None ≡ seen_of lines → reading (Err NotASheet) lent ≡ read_of text lent
      unfolding is_sheet
      lineless e = refused_as NotASheet (read_7 text (length lent) short (rw (h.headed, ← h.behind, none_if (is_ended lines) (found lines) e)))

      module _ (seen : Seen) (s : Some seen ≡ seen_of lines) where
        look : (is_ended lines ≡ true) × (seen ≡ found lines)
        look = some_if (is_ended lines) (found lines) seen s

        pub ended : line_after (Some Start) lines ≡ Some Start
        ended = is_start_lem (line_after (Some Start) lines) look.0

        form : is_sheet text ≡ true
        unfolding is_sheet
        form = and_intro h.headed (rw h.behind at look.0)

        judged : first_of (samples_tests band seen.count seen.sound (length lent)) ≡ first_of (read_tests text (length lent))
        judged = rw (look.1, h.band_read, h.behind) (read_others text (length lent) short form)

        pub refused_in : (r : Refusal) → number_of r ≡ first_of (samples_tests band seen.count seen.sound (length lent))
            → reading (Err r) lent ≡ read_of text lent
        refused_in r e = refused_as r (e ∙ judged)

        pub accepted_as : 0 ≡ first_of (samples_tests band seen.count seen.sound (length lent)) → (now : List ℤ)
            → now ≡ over (samples_in (Some Start) lines) lent → reading (Ok (record { band = band; count = seen.count })) now ≡ read_of text lent
        unfolding read_of
        accepted_as e now o =
            let count : seen.count ≡ length (samples_of text) =
            ap (λ (f : Seen). f.count) look.1 ∙ ap (λ (l : List ℕ). length (samples_in (Some Start) l)) h.behind in
            rw h.band_read
            (answer_accepted (read_tests text (length lent)) 0 lent (e ∙ judged) (band_in text) (samples_of text) seen.count now count (rw h.behind at o))

-- for the search of the check
pub ruleset judgements = (too_long, headless, lineless, ended, refused_in)
