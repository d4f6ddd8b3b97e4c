-- Demand 1: each call is refused by its table, or does what it is for.
-- Assumes nothing.
use mathlib.Core.Path.{◌≡◌, refl, sym, ap, ◌∙◌}
use mathlib.Core.Bool.{Bool, true, false, cond, not}
use mathlib.Core.List.{List, [], ◌∷◌, map}
use Prim.Native.Nat.{ℕ}
use borrow.Author.Tests.{eq-eqb, ne_eqb}
use lib.Dec.{eqb}
use lib.IntN.{ℤ}
use lib.ListN.{length, drop}
use lib.Seq.{take-append_seam}
use Rattle.calls.specs.Refusals.{Test, first_of}
use Rattle.calls.specs.Outcome.{accepted_in, one_list, both_in, accepted}
use Rattle.calls.proofs.Refusals.{is-first}
use Rattle.tones.specs.Bands.{is_band}
use Rattle.transmitter.specs.Samples.{idle_bits, characters_bits}
use Rattle.transmitter.specs.Calls as transmitter
use Rattle.receiver.specs.Step.{state_after, measured_after, indexed_after}
use Rattle.receiver.specs.Calls as receiver
use Rattle.tap.specs.Step as tap-step
use Rattle.tap.specs.Calls as tap
use Rattle.sheet.specs.Text.{sheet_of}
use Rattle.sheet.specs.Parse.{band_in, samples_of}
use Rattle.sheet.specs.Calls as sheet
use Rattle.sheet.proofs.Calls.{readable}
use Rattle.sheet.proofs.Inverse.{inverse}
use Rattle.demands.specs.Answers.{Opens}
use Rattle.demands.specs.Demand1.{WholeSheet, Demand1}
use Rattle.demands.proofs.Answers.{answers}

-- an opening by a table
opens : {S : Type 0} (row : List ℕ) (tests : List Test) (fresh other given : S) → map (λ (t : Test). t.number) tests ≡ row
    → given ≡ cond (eqb (first_of tests) 0) fresh other → Opens row tests fresh other (first_of tests) given
opens row tests fresh other given e g =
    record {
      numbers = e;
      first = is-first tests;
      refusal = λ h. g ∙ rw (ne_eqb (first_of tests) 0 h) refl;
      done = λ z. g ∙ rw (eq-eqb (first_of tests) 0 z) refl;
    }

-- an opening of one band, of either kind
opens-band : {S : Type 0} (fresh : ℕ → S) (band : ℕ)
    → let tests = transmitter.open_tests band in Opens (1 ∷ []) tests (fresh band) (fresh 1) (first_of tests) (fresh (cond (is_band band) band 1))
opens-band {S} fresh band = opens _ (transmitter.open_tests band) _ _ _ refl (go (is_band band))
  where
    go : (b : Bool) → fresh (cond b band 1) ≡ cond (eqb (cond (not b) 1 0) 0) (fresh band) (fresh 1)
    go true = refl
    go false = refl

pub demand_1 : Demand1
unfolding transmitter.open_of receiver.open_of tap.open_of transmitter.idle_of transmitter.characters_of receiver.block_of receiver.indexed_of tap.block_of sheet.read_of sheet.write_of
demand_1 =
    record {
      transmitter_opening = opens-band transmitter.fresh;
      receiver_opening = opens-band receiver.fresh;
      tap_opening = λ first second. opens _ (tap.open_tests first second) _ _ _ refl refl;
      idle = λ s lent. answers _ (transmitter.idle_tests s (length lent)) s lent _ (transmitter.sent s idle_bits lent) refl refl (λ e. refl);
      characters = λ s bytes lent.
          answers _ (transmitter.characters_tests s (length bytes) (length lent)) s lent _ (transmitter.sent s (characters_bits bytes) lent) refl refl
          (λ e. refl);
      block = λ s c.
          answers _ (receiver.block_tests s c.samples (receiver.shorter c.lent)) s c.lent _
          (accepted_in receiver.two_lists (state_after s c.samples) (measured_after s c.samples) c.lent) refl refl (λ e. refl);
      block_indexed = λ s c.
          answers _ (receiver.block_tests s c.samples (receiver.shortest (c.lent, c.indices))) s (c.lent, c.indices) _
          (accepted_in (both_in receiver.two_lists one_list) (state_after s c.samples) (indexed_after s c.samples) (c.lent, c.indices)) refl refl (λ e. refl);
      tap_block = λ t c.
          answers _ (tap.block_tests t c.samples (receiver.shorter c.lent)) t c.lent _
          (accepted_in receiver.two_lists (tap-step.state_after t c.samples) (tap-step.measured_after t c.samples) c.lent) refl refl (λ e. refl);
      sheet_reading = λ text lent.
          answers _ (sheet.read_tests text (length lent)) 0 lent _ (accepted (band_in text) (samples_of text) lent) refl refl (whole text lent);
      sheet_writing = λ band samples lent.
          answers _ (sheet.write_tests band samples (length lent)) tt lent _ (accepted tt (sheet_of band samples) lent) refl refl (λ e. refl);
    }
  where
    whole : (text : List ℕ) (lent : List ℤ) → first_of (sheet.read_tests text (length lent)) ≡ 0
        → WholeSheet text lent (accepted (band_in text) (samples_of text) lent)
    whole text lent e =
        let seen = take-append_seam (samples_of text) (drop (length (samples_of text)) lent) in
        let read = (inverse text (band_in text) (samples_of text)).0 (record { taken = (readable text (length lent) e).form; band_read = refl; samples_read = refl }) in
        record {
          whole = read.written ∙ ap (sheet_of (band_in text)) (sym seen);
          given = ap (λ (xs : List ℤ). accepted (band_in text) xs lent) (sym seen);
        }
