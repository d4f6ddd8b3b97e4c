-- The sheet calls: the cases of each table of refusals, what is known when none holds, and what the answer of a reading tells.
-- Assumes nothing.
use mathlib.Core.Path.{◌≡◌}
use mathlib.Core.Bool.{Bool, true, false}
use mathlib.Core.List.{List}
use Prim.Native.Nat.{ℕ, ◌<◌, ◌≤◌}
use borrow.Author.Tests.{lt-ltb, le-ltb, ltb-false, not-false}
use lib.Dec.{ltb}
use lib.IntN.{ℤ}
use lib.ListN.{length}
use Rattle.integers.specs.All.{none, more}
use Rattle.calls.specs.Refusals.{first_of}
use Rattle.calls.specs.Outcome.{Outcome}
use Rattle.calls.proofs.Refusals.{NoneHolds, none-holds}
use Rattle.calls.proofs.Answers.{Answered, answered}
use Rattle.tones.specs.Bands.{is_band}
use Rattle.tones.specs.Samples.{are_samples, most_samples}
use Rattle.sheet.specs.Text.{sheet_of}
use Rattle.sheet.specs.Parse.{is_sheet, band_in, samples_of}
use Rattle.sheet.specs.Calls.{most_bytes, samples_tests, read_tests, read_of, write_tests}

-- ---- reading

-- the cases of a sheet
module _ (band count : ℕ) (sound : Bool) (room : ℕ) where
  pub samples_1 : is_band band ≡ false → 1 ≡ first_of (samples_tests band count sound room)
  samples_1 h = rw h

  module _ (known : is_band band ≡ true) where
    pub samples_3 : most_samples < count → 3 ≡ first_of (samples_tests band count sound room)
    samples_3 h = rw (known, lt-ltb most_samples count h)

    module _ (few : count ≤ most_samples) where
      pub samples_5 : sound ≡ false → 5 ≡ first_of (samples_tests band count sound room)
      samples_5 h = rw (known, le-ltb most_samples count few, h)

      module _ (good : sound ≡ true) where
        pub samples_4 : room < count → 4 ≡ first_of (samples_tests band count sound room)
        samples_4 h = rw (known, le-ltb most_samples count few, good, lt-ltb room count h)

        pub samples_0 : count ≤ room → 0 ≡ first_of (samples_tests band count sound room)
        samples_0 h = rw (known, le-ltb most_samples count few, good, le-ltb room count h)

-- the cases of any text
module _ (text : List ℕ) (room : ℕ) where
  pub read_6 : most_bytes < length text → 6 ≡ first_of (read_tests text room)
  read_6 h = rw (lt-ltb most_bytes (length text) h)

  module _ (short : length text ≤ most_bytes) where
    pub read_7 : is_sheet text ≡ false → 7 ≡ first_of (read_tests text room)
    read_7 h = rw (le-ltb most_bytes (length text) short, h)

    pub read_others : is_sheet text ≡ true
        → first_of (samples_tests (band_in text) (length (samples_of text)) (are_samples (samples_of text)) room) ≡ first_of (read_tests text room)
    read_others h = rw (le-ltb most_bytes (length text) short, h)

  -- what holds when a text is accepted
  pub record Readable : Type 0 where
    pub short : length text ≤ most_bytes
    pub form : is_sheet text ≡ true
    pub band : is_band (band_in text) ≡ true
    pub few : length (samples_of text) ≤ most_samples
    pub sound : are_samples (samples_of text) ≡ true
    pub places : length (samples_of text) ≤ room

  pub readable : first_of (read_tests text room) ≡ 0 → Readable
  readable e = go (none-holds (read_tests text room) _ e)
    where
      go : NoneHolds (read_tests text room) → Readable
      go (more short (more form (more band (more few (more sound (more places none)))))) =
          record {
            short = ltb-false most_bytes (length text) short;
            form = not-false (is_sheet text) form;
            band = not-false (is_band (band_in text)) band;
            few = ltb-false most_samples (length (samples_of text)) few;
            sound = not-false (are_samples (samples_of text)) sound;
            places = ltb-false room (length (samples_of text)) places;
          }

-- what the answer tells
pub read_answer : (text : List ℕ) (lent : List ℤ) (o : Outcome ℕ (List ℤ)) → o ≡ read_of text lent
    → Answered (band_in text) (samples_of text) lent (first_of (read_tests text (length lent))) o
unfolding read_of
read_answer text lent = answered (band_in text) (samples_of text) lent (read_tests text (length lent)) 0

-- ---- writing

module _ (band : ℕ) (samples : List ℤ) (room : ℕ) where
  pub write_1 : is_band band ≡ false → 1 ≡ first_of (write_tests band samples room)
  write_1 h = rw h

  module _ (known : is_band band ≡ true) where
    pub write_3 : most_samples < length samples → 3 ≡ first_of (write_tests band samples room)
    write_3 h = rw (known, lt-ltb most_samples (length samples) h)

    module _ (few : length samples ≤ most_samples) where
      fewer : ltb most_samples (length samples) ≡ false
      fewer = le-ltb most_samples (length samples) few

      pub write_5 : are_samples samples ≡ false → 5 ≡ first_of (write_tests band samples room)
      write_5 h = rw (known, fewer, h)

      -- the sheet's length, in the form in which it was computed
      module _ (sound : are_samples samples ≡ true) (n : ℕ) (e : length (sheet_of band samples) ≡ n) where
        pub write_6 : most_bytes < n → 6 ≡ first_of (write_tests band samples room)
        write_6 h = rw (known, fewer, sound, e, lt-ltb most_bytes n h)

        module _ (short : n ≤ most_bytes) where
          pub write_4 : room < n → 4 ≡ first_of (write_tests band samples room)
          write_4 h = rw (known, fewer, sound, e, le-ltb most_bytes n short, lt-ltb room n h)

          pub write_0 : n ≤ room → 0 ≡ first_of (write_tests band samples room)
          write_0 h = rw (known, fewer, sound, e, le-ltb most_bytes n short, le-ltb room n h)

  -- what holds when samples are accepted
  pub record Writable : Type 0 where
    pub known : is_band band ≡ true
    pub few : length samples ≤ most_samples
    pub sound : are_samples samples ≡ true
    pub short : length (sheet_of band samples) ≤ most_bytes
    pub places : length (sheet_of band samples) ≤ room

  pub writable : first_of (write_tests band samples room) ≡ 0 → Writable
  writable e = go (none-holds (write_tests band samples room) _ e)
    where
      go : NoneHolds (write_tests band samples room) → Writable
      go (more known (more few (more sound (more short (more places none))))) =
          record {
            known = not-false (is_band band) known;
            few = ltb-false most_samples (length samples) few;
            sound = not-false (are_samples samples) sound;
            short = ltb-false most_bytes (length (sheet_of band samples)) short;
            places = ltb-false room (length (sheet_of band samples)) places;
          }
