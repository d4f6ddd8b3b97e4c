-- A list of samples as its windows, and the decision at each. The step rule is the same by windows (proofs/Windows: `by_windows`),
-- which is how the code reads a block. The definitions are ours.
-- Assumes nothing.
use Rattle.std.specs.Prelude.{cond, List, [], ◌∷◌, ℕ, ltb, ℤ, length, take}
use Rattle.tones.specs.Bands.{tones_of}
use Rattle.control.specs.declared.Decision.{Decision}
use Rattle.receiver.specs.Energy.{decision_of}

-- a decision for each 32 samples in a row, in order; fewer than 32 have none
unfoldable pub decisions : (List ℤ → Decision) → List ℤ → List Decision
decisions decide [] = []
decisions decide (x ∷ xs) = cond (ltb (length xs) 31) [] (decide (take 32 (x ∷ xs)) ∷ decisions decide xs)

-- the same by the energies of a band's tones
abbrev pub decisions_of : ℕ → List ℤ → List Decision
decisions_of band = decisions (decision_of (tones_of band))
