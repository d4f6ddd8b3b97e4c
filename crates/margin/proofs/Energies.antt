-- How far a disturbance moves an energy: the bounds between which it stays, from the samples as they were sent. From `near_dot`,
-- which says how far a sum moves.
-- Assumes nothing.
use mathlib.Core.List.{List}
use Prim.Native.Nat.{ℕ, ◌+◌, ◌*◌, ◌-◌, ◌≤◌}
use native.Mathlib.Nat.{add-le-add, mul-le-mul}
use native.Mathlib.Omega.{arith}
use lib.IntN.{ℤ, nat_abs}
use Rattle.integers.specs.Near.{Near}
use Rattle.integers.specs.Sums.{size, dot}
use Rattle.integers.proofs.Near.{near_dot}
use Rattle.integers.proofs.Size.{nat_abs_near}
use Rattle.sine.specs.Wave.{wave}
use Rattle.receiver.specs.Energy.{energyℕ}
use Rattle.receiver.proofs.Energies.{in_phase-dot, quadrature-dot}

-- ---- a number between bounds

pub record Bounds : Type 0 where
  pub least : ℕ
  pub most : ℕ

pub record Enclosed (b : Bounds) (n : ℕ) : Type 0 where
  pub low : b.least ≤ n
  pub high : n ≤ b.most

-- the bounds of x * x + y * y, where x is at most m from i, and y at most n from q
unfoldable pub squares : (i q m n : ℕ) → Bounds
squares i q m n = record { least = (i - m) * (i - m) + (q - n) * (q - n); most = (i + m) * (i + m) + (q + n) * (q + n) }

squares_enclose : (i q m n x y : ℕ) → (i ≤ x + m) × (x ≤ i + m) → (q ≤ y + n) × (y ≤ q + n)
    → Enclosed (squares i q m n) (x * x + y * y)
unfolding squares
squares_enclose i q m n x y h l =
    let a : i - m ≤ x = omega arith in
    let b : q - n ≤ y = omega arith in
    record {
      low = add-le-add (mul-le-mul a a) (mul-le-mul b b);
      high = add-le-add (mul-le-mul h.1 h.1) (mul-le-mul l.1 l.1);
    }

-- ---- the energy of a tone

-- the weights of a tone, and how far a disturbance moves the sums with them
pub record ToneWeights : Type 0 where
  pub cosines : List ℤ
  pub sines : List ℤ
  pub in_phase_off : ℕ
  pub quadrature_off : ℕ

unfoldable pub tone_weights : (noise step : ℕ) → ToneWeights
unfolding wave size
tone_weights noise step =
    record {
      cosines = wave 32 step 480;
      sines = wave 32 step 0;
      in_phase_off = noise * size (wave 32 step 480);
      quadrature_off = noise * size (wave 32 step 0);
    }

-- the bounds of the energy in every window near `sent`
unfoldable pub bounds : ToneWeights → (sent : List ℤ) → Bounds
unfolding dot squares
bounds w sent = squares (nat_abs (dot sent w.cosines)) (nat_abs (dot sent w.sines)) w.in_phase_off w.quadrature_off

pub energy_enclosed : (noise step : ℕ) {sent window : List ℤ} → Near noise sent window
    → Enclosed (bounds (tone_weights noise step) sent) (energyℕ window step)
unfolding bounds tone_weights energyℕ
energy_enclosed noise step {sent} {window} near =
    let cosines : List ℤ = wave 32 step 480 in
    let sines : List ℤ = wave 32 step 0 in
    rw (in_phase-dot window step, quadrature-dot window step)
    (squares_enclose (nat_abs (dot sent cosines)) (nat_abs (dot sent sines)) (noise * size cosines) (noise * size sines)
    (nat_abs (dot window cosines)) (nat_abs (dot window sines))
    (nat_abs_near (dot sent cosines) (dot window cosines) (near_dot near cosines))
    (nat_abs_near (dot sent sines) (dot window sines) (near_dot near sines)))
