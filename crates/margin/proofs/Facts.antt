-- What a receiver decides in a disturbed window that passed the test, and which windows have passed when a phase has. From the bounds of the
-- energies.
-- Assumes nothing.
use mathlib.Core.Path.{◌≡◌, ap, ◌∙◌}
use mathlib.Core.Bool.{Bool, true, false, cond, beq}
use mathlib.Core.List.{List}
use mathlib.Mathlib.Data.Bool.Basic.{and_elim_left, and_elim_right}
use Prim.Native.Nat.{ℕ, zero, suc, ◌+◌, ◌*◌, ◌-◌, ◌<◌, ◌≤◌, max, min}
use native.Mathlib.Omega.{arith}
use borrow.Author.Tests.{ltb-true, leb-true, lt-ltb, le-ltb, le-leb, lt-leb}
use lib.Dec.{leb, ltb, lit<}
use lib.IntN.{ℤ, pos}
use lib.ListN.{length, get_or}
use lib.Signed.{le_z}
use Rattle.integers.specs.Near.{Near}
use Rattle.integers.proofs.Tests.{passes_at, passes_below, below_at}
use Rattle.sine.specs.Wave.{wave}
use Rattle.tones.specs.declared.Tones.{Tones}
use Rattle.tones.specs.Bands.{step_of}
use Rattle.control.specs.declared.Bit.TheVariants.{Mark, Space}
use Rattle.control.specs.declared.Decision.{Decision}
use Rattle.weighing.specs.Weighing.{level, Means}
use Rattle.weighing.proofs.Laws.{apart-ℕ, level-ℕ, weighed_as}
use Rattle.quality.proofs.Clear.{strict}
use Rattle.receiver.specs.Energy.{energyℕ, decision_of}
use Rattle.receiver.proofs.Energies.{decision_ℕ}
use Rattle.margin.specs.Windows.{across, mark_then_silence, is_space}
use Rattle.margin.proofs.Energies.{Bounds, Enclosed, bounds, energy_enclosed}
use Rattle.margin.proofs.Test.{carrier_sure, silence_sure, wins_sure, clear_sure, read_tests, read_sure, Weights, weights_of, window_sure, across_sure, silence_behind_sure, pair_sure, bit_sure, phase_sure}

-- ---- two energies within their bounds

module _ {s m : Bounds} {space mark : ℕ} (h : Enclosed s space) (l : Enclosed m mark) where
  carrier-level : carrier_sure s m ≡ true → leb level (max space mark) ≡ true
  unfolding carrier_sure
  carrier-level e = le-leb level (max space mark) (omega (arith, leb-true level (max s.least m.least) e))

  silence-level : silence_sure s m ≡ true → leb level (max space mark) ≡ false
  unfolding silence_sure
  silence-level e = lt-leb level (max space mark) (omega (arith, ltb-true (max s.most m.most) level e))

  winner : (above : Bool) → wins_sure above s m ≡ true → ltb mark space ≡ above
  unfolding wins_sure
  winner true e = lt-ltb mark space (omega (arith, ltb-true m.most s.least e))
  winner false e = le-ltb mark space (omega (arith, leb-true s.most m.least e))

  -- a bit that is clear
  module _ (clear : ℕ) where
    clear_means : (above : Bool) → wins_sure above s m ≡ true → clear_sure clear above s m ≡ true → Means (cond above Space Mark) space mark
    unfolding wins_sure clear_sure
    clear_means true e f =
        let far = leb-true (5 * m.most) (4 * s.least) (and_elim_left (leb (5 * m.most) (4 * s.least)) _ f) in
        (omega (arith, ltb-true m.most s.least e), omega (arith, far))
    clear_means false e f =
        let far = leb-true (5 * s.most) (4 * m.least) (and_elim_left (leb (5 * s.most) (4 * m.least)) _ f) in
        (omega (arith, leb-true s.most m.least e), omega (arith, far))

    clear_apart : (above : Bool) → clear_sure clear above s m ≡ true → clear ≤ max space mark - min space mark
    unfolding clear_sure
    clear_apart true f = omega (arith, leb-true (clear + m.most) s.least (and_elim_right (leb (5 * m.most) (4 * s.least)) _ f))
    clear_apart false f = omega (arith, leb-true (clear + s.most) m.least (and_elim_right (leb (5 * s.most) (4 * m.least)) _ f))

-- ---- a window near the samples sent

module _ (noise clear : ℕ) (t : Tones) where
  abbrev w : Weights
  w = weights_of noise clear t

  module _ {sent window : List ℤ} (near : Near noise sent window) where
    abbrev space : ℕ
    space = energyℕ window t.space

    abbrev mark : ℕ
    mark = energyℕ window t.mark

    in_space : Enclosed (bounds w.space sent) space
    unfolding weights_of
    in_space = energy_enclosed noise t.space near

    in_mark : Enclosed (bounds w.mark sent) mark
    unfolding weights_of
    in_mark = energy_enclosed noise t.mark near

    -- the level, from the two energies
    level-decided : (decision_of t window).good ≡ leb level (max space mark)
    level-decided = ap (λ (d : Decision). d.good) (decision_ℕ t window) ∙ level-ℕ space mark

    pub silence-decided : window_sure w silence_sure sent ≡ true → (decision_of t window).good ≡ false
    unfolding window_sure
    silence-decided e = level-decided ∙ silence-level in_space in_mark e

    pub bit_decided : (above : Bool) → window_sure w (wins_sure above) sent ≡ true → (decision_of t window).space ≡ above
    unfolding window_sure
    bit_decided above e = ap (λ (d : Decision). d.space) (decision_ℕ t window) ∙ winner in_space in_mark above e

    -- the bit, if it is clear: it is told, also where smaller differences are doubted
    module _ (above : Bool) (e : window_sure w (wins_sure above) sent ≡ true) (f : window_sure w (clear_sure w.clear above) sent ≡ true) where
      told_bit : (decision_of t window).bit ≡ cond above Space Mark
      unfolding window_sure
      told_bit =
          ap (λ (d : Decision). d.bit) (decision_ℕ t window)
          ∙ weighed_as space mark (cond above Space Mark) (clear_means in_space in_mark w.clear above e f)

      far_apart : le_z (pos clear) (decision_of t window).difference ≡ true
      unfolding window_sure weights_of
      far_apart =
          ap (λ (d : Decision). le_z (pos clear) d.difference) (decision_ℕ t window) ∙ ap (le_z (pos clear)) (apart-ℕ space mark)
          ∙ le-leb clear (max space mark - min space mark) (clear_apart in_space in_mark clear above f)

      bit_clear : (strict clear (decision_of t window)).bit ≡ cond above Space Mark
      bit_clear = rw far_apart told_bit

    -- k samples of a later bit are in the window
    module _ (earlier later : Bool) (k : ℕ) (e : window_sure w (read_sure w.clear earlier later k) sent ≡ true) where
      abbrev tests : List Bool
      tests = read_tests w.clear earlier later k (bounds w.space sent) (bounds w.mark sent)

      test-passed : (i : ℕ) → i < length tests → get_or tests i true ≡ true
      unfolding window_sure read_sure
      test-passed = passes_at (λ i b. b) true tests e

      pub carrier-decided : (decision_of t window).good ≡ true
      unfolding read_tests
      carrier-decided = level-decided ∙ carrier-level in_space in_mark (test-passed 0 (lit< tt))

      pub earlier-decided : k ≤ 14 → (decision_of t window).space ≡ earlier
      unfolding read_tests window_sure
      earlier-decided h = bit_decided earlier (rw (le-leb k 14 h) at (test-passed 1 (lit< tt)))

      pub later-decided : 19 ≤ k → (decision_of t window).space ≡ later
      unfolding read_tests window_sure
      later-decided h = bit_decided later (rw (le-leb 19 k h) at (test-passed 2 (lit< tt)))

      pub same_decided : beq earlier later ≡ true → (decision_of t window).space ≡ later
      unfolding read_tests window_sure
      same_decided c = bit_decided later (rw c at (test-passed 3 (lit< tt)))

      pub earlier_clear : k ≤ 3 → (strict clear (decision_of t window)).bit ≡ cond earlier Space Mark
      unfolding read_tests window_sure
      earlier_clear h =
          bit_clear earlier (rw (le-leb k 14 (omega arith)) at (test-passed 1 (lit< tt))) (rw (le-leb k 3 h) at (test-passed 4 (lit< tt)))

      pub later_clear : 31 ≤ k → (strict clear (decision_of t window)).bit ≡ cond later Space Mark
      unfolding read_tests window_sure
      later_clear h =
          bit_clear later (rw (le-leb 19 k (omega arith)) at (test-passed 2 (lit< tt))) (rw (le-leb 31 k h) at (test-passed 5 (lit< tt)))

-- ---- the windows at a phase that passed

module _ (w : Weights) (t : Tones) (p : ℕ) (passed : phase_sure w t p ≡ true) where
  abbrev bits : Bool
  bits = passes_below (λ a. bit_sure w t p a (wave 32 (step_of t a) p)) 2

  abbrev fades : Bool
  fades = silence_behind_sure w (wave 32 t.mark p)

  bits_passed : (a b : ℕ) → a < 2 → b < 2 → pair_sure w t p a (wave 32 (step_of t a) p) b ≡ true
  unfolding phase_sure bit_sure
  bits_passed a b h l =
      below_at (pair_sure w t p a (wave 32 (step_of t a) p)) 2
      (below_at (λ i. bit_sure w t p i (wave 32 (step_of t i) p)) 2 (and_elim_left bits fades passed) a h) b l

  -- every number but 0 is the bit 1
  pair-passed : (a b : ℕ) → pair_sure w t p a (wave 32 (step_of t a) p) b ≡ true
  unfolding pair_sure
  pair-passed zero zero = bits_passed 0 0 (lit< tt) (lit< tt)
  pair-passed zero (suc b) = bits_passed 0 1 (lit< tt) (lit< tt)
  pair-passed (suc a) zero = bits_passed 1 0 (lit< tt) (lit< tt)
  pair-passed (suc a) (suc b) = bits_passed 1 1 (lit< tt) (lit< tt)

  pub across-passed : (a b k : ℕ) → k < 32 → window_sure w (read_sure w.clear (is_space a) (is_space b) k) (across t p a b k) ≡ true
  unfolding pair_sure across_sure across
  across-passed a b = below_at (λ k. window_sure w (read_sure w.clear (is_space a) (is_space b) k) (across t p a b k)) 32 (pair-passed a b)

  pub silence-behind-passed : (k : ℕ) → k < 16 → window_sure w (wins_sure false) (mark_then_silence t p k) ≡ true
  unfolding phase_sure silence_behind_sure mark_then_silence
  silence-behind-passed = below_at (λ k. window_sure w (wins_sure false) (mark_then_silence t p k)) 16 (and_elim_right bits fades passed)
