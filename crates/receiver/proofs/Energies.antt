-- Laws of the energies: by the weights of tones, and as natural numbers. From the laws of sums and of waves.
-- Assumes nothing.
use mathlib.Core.Path.{◌≡◌, sym, ap, ap₂, ◌∙◌}
use mathlib.Core.Bool.{true}
use mathlib.Core.List.{List}
use Prim.Native.Nat.{ℕ, ◌+◌, ◌*◌}
use native.Mathlib.Nat.{zero-add, add_comm}
use lib.IntN.{ℤ, pos, ◌+ℤ◌, ◌*ℤ◌}
use lib.ListN.{get_or, take, drop}
use lib.Signed.{le_z}
use Rattle.integers.specs.Sums.{dot, sum_to, Bounded}
use Rattle.integers.proofs.Size.{square}
use Rattle.integers.proofs.Sums.{sum_to_same, sum_to-dot, products, bounded_take, bounded_drop}
use Rattle.sine.specs.Sine.{S, C}
use Rattle.sine.specs.Wave.{wave, weights_of}
use Rattle.sine.proofs.Wave.{length-wave, wave-at}
use Rattle.sine.proofs.Parts.{Parts, weights_bound, weights_parts}
use Rattle.tones.specs.declared.Tones.{Tones}
use Rattle.weighing.specs.Weighing.{decided}
use Rattle.weighing.proofs.Laws.{apart_least}
use Rattle.receiver.specs.Energy.{in_phase, quadrature, energy, energyℕ, decision_of}
use Rattle.receiver.specs.declared.energy.Tone.{Tone}
use Rattle.receiver.specs.Weighed.{energy_by, decision_by}

-- ---- by the weights of a tone

-- a sum against a tone from the phase p on is the dot product with its wave
sum-wave : (f : ℕ → ℤ) (window : List ℤ) (t p : ℕ) → ((j : ℕ) → S (p + j * t) ≡ f (j * t))
    → sum_to 32 (λ j. get_or window j (pos 0) *ℤ f (j * t)) ≡ dot window (wave 32 t p)
sum-wave f window t p e =
    sum_to_same 32 (λ j. get_or window j (pos 0) *ℤ f (j * t)) (products window (wave 32 t p))
    (λ j h. ap (λ (y : ℤ). get_or window j (pos 0) *ℤ y) (sym (wave-at 32 t p j h ∙ e j)))
    ∙ ap (λ (n : ℕ). sum_to n (products window (wave 32 t p))) (sym (length-wave 32 t p))
    ∙ sum_to-dot window (wave 32 t p)

pub in_phase-dot : (window : List ℤ) (t : ℕ) → in_phase window t ≡ dot window (wave 32 t 480)
in_phase-dot window t = sum-wave C window t 480 (λ j. ap S (add_comm 480 (j * t)))

pub quadrature-dot : (window : List ℤ) (t : ℕ) → quadrature window t ≡ dot window (wave 32 t 0)
quadrature-dot window t = sum-wave S window t 0 (λ j. ap S (zero-add (j * t)))

-- 32 numbers in a row of the weights are no larger
pub parts_small : (n : ℕ) (ws : List ℤ) → Bounded 6000 ws → Bounded 6000 (take 32 (drop n ws))
parts_small n ws b = bounded_take 32 (bounded_drop n b)

-- by them the energies of a window are those of the tones
energy-by : (tone : Tone) (step : ℕ) → tone.cos ≡ wave 32 step 480 → tone.sin ≡ wave 32 step 0 → (window : List ℤ)
    → energy_by tone window ≡ energy window step
unfolding energy
energy-by tone step c s window = rw (c, s, in_phase-dot window step, quadrature-dot window step)

pub decision_by_tones : (t : Tones) (space mark : Tone) → space.cos ≡ wave 32 t.space 480 → space.sin ≡ wave 32 t.space 0
    → mark.cos ≡ wave 32 t.mark 480 → mark.sin ≡ wave 32 t.mark 0 → decision_by (record { space = space; mark = mark }) ≡ decision_of t
unfolding decision_of
decision_by_tones t space mark a b c d i window = decided (energy-by space t.space a b window i) (energy-by mark t.mark c d window i)

-- and these are the four parts of a band's weights
pub decision_by_parts : (t : Tones) (ws : List ℤ) (space mark : Tone) → ws ≡ weights_of t.space t.mark
    → space.cos ≡ take 32 (drop 0 ws) → space.sin ≡ take 32 (drop 32 ws) → mark.cos ≡ take 32 (drop 64 ws) → mark.sin ≡ take 32 (drop 96 ws)
    → decision_by (record { space = space; mark = mark }) ≡ decision_of t
decision_by_parts t ws space mark e a b c d =
    let w : Parts t.space t.mark ws = rw e (weights_parts t.space t.mark) in
    decision_by_tones t space mark (a ∙ w.first_cosines) (b ∙ w.first_sines) (c ∙ w.second_cosines) (d ∙ w.second_sines)

pub band_small : (a b : ℕ) (ws : List ℤ) → ws ≡ weights_of a b → Bounded 6000 ws
band_small a b ws e = rw e (weights_bound a b)

-- ---- as natural numbers

energy-ℕ : (window : List ℤ) (t : ℕ) → energy window t ≡ pos (energyℕ window t)
unfolding energy energyℕ
energy-ℕ window t = ap₂ (λ (a b : ℤ). a +ℤ b) (square (in_phase window t)) (square (quadrature window t))

-- the decision from them
pub decision_ℕ : (t : Tones) (window : List ℤ)
    → decision_of t window ≡ decided (pos (energyℕ window t.space)) (pos (energyℕ window t.mark))
unfolding decision_of
decision_ℕ t window = ap₂ (λ (a b : ℤ). decided a b) (energy-ℕ window t.space) (energy-ℕ window t.mark)

-- the difference of its energies is never negative
pub difference_natural : (t : Tones) (window : List ℤ) → le_z (pos 0) (decision_of t window).difference ≡ true
unfolding decision_of
difference_natural t window = apart_least (energy window t.space) (energy window t.mark)
