-- The energies of the two tones in a window, and what they decide: the specification, "Reader, step by step", rule 2, and rule 3 by
-- `weighing`.
-- Assumes nothing.
use Rattle.std.specs.Prelude.{List, ℕ, ◌+◌, ◌*◌, ℤ, pos, nat_abs, ◌+ℤ◌, ◌*ℤ◌, get_or}
use Rattle.integers.specs.Sums.{sum_to}
use Rattle.sine.specs.Sine.{S, C}
use Rattle.tones.specs.declared.Tones.{Tones}
use Rattle.control.specs.declared.Decision.{Decision}
use Rattle.weighing.specs.Weighing.{decided}

-- ---- rule 2, for the tone with step t

-- I is the sum over j = 0..31 of window[j] times C(j times t); j = 0 is the oldest
abbrev pub in_phase : List ℤ → ℕ → ℤ
in_phase window t = sum_to 32 (λ j. get_or window j (pos 0) *ℤ C (j * t))

-- Q is the same with S
abbrev pub quadrature : List ℤ → ℕ → ℤ
quadrature window t = sum_to 32 (λ j. get_or window j (pos 0) *ℤ S (j * t))

-- the energy is I times I + Q times Q
unfoldable pub energy : List ℤ → ℕ → ℤ
energy window t = in_phase window t *ℤ in_phase window t +ℤ quadrature window t *ℤ quadrature window t

-- the same number as a natural one
unfoldable pub energyℕ : List ℤ → ℕ → ℕ
energyℕ window t =
    nat_abs (in_phase window t) * nat_abs (in_phase window t) + nat_abs (quadrature window t) * nat_abs (quadrature window t)

-- ---- rule 3, and the comparison of rules 4 to 6, for the tones t

unfoldable pub decision_of : Tones → List ℤ → Decision
decision_of t window = decided (energy window t.space) (energy window t.mark)
