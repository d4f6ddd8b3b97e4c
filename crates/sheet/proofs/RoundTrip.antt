-- A sheet that was written is accepted by a reading, as the band and the samples that were written. From `Inverse`, and from what the
-- calls' numbers say.
-- Assumes nothing.
use mathlib.Core.Path.{◌≡◌, refl, sym, ◌∙◌}
use mathlib.Core.List.{List, [], ◌∷◌}
use Prim.Native.Nat.{ℕ, suc, ◌<◌, ◌≤◌}
use native.Mathlib.Omega.{arith}
use lib.IntN.{ℤ, nat_abs}
use lib.ListN.{length}
use Rattle.integers.specs.All.{All, none, more}
use Rattle.integers.specs.Sums.{Bounded}
use Rattle.calls.specs.Refusals.{first_of}
use Rattle.tones.specs.Samples.{are_samples}
use Rattle.tones.proofs.Laws.{band-digit}
use Rattle.tones.proofs.Samples.{samples_bound}
use Rattle.sheet.specs.Text.{sheet_of}
use Rattle.sheet.specs.Inverse.{ReadsAs}
use Rattle.sheet.specs.Calls.{read_tests}
use Rattle.sheet.proofs.Inverse.{inverse}
use Rattle.sheet.proofs.Calls.{samples_0, read_others, Writable}

-- a sample has at most four digits
four : (zs : List ℤ) → Bounded 8191 zs → All (λ z. nat_abs z < 10000) zs
four [] b = none
four (z ∷ zs) b = let h : nat_abs z < 10000 = omega (arith, b.at 0) in more h (four zs (record { at = λ k. b.at (suc k) }))

module _ (band : ℕ) (zs : List ℤ) (room : ℕ) (w : Writable band zs room) where
  pub written_read : ReadsAs (sheet_of band zs) band zs
  written_read =
      (inverse (sheet_of band zs) band zs).1
      (record { written = refl; digit = band-digit band w.known; four = four zs (samples_bound zs w.sound) })

  -- into as many places as there are samples, or more
  pub read-written : (places : ℕ) → length zs ≤ places → first_of (read_tests (sheet_of band zs) places) ≡ 0
  read-written places h =
      sym (read_others (sheet_of band zs) places w.short written_read.taken)
      ∙ rw (written_read.band_read, written_read.samples_read) (sym (samples_0 band (length zs) (are_samples zs) places w.known w.few w.sound h))
