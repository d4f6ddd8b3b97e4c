-- Lists of sines: a tone's samples and the weights of two tones. The definitions are ours; S is the specification's.
-- Assumes nothing.
use Rattle.std.specs.Prelude.{List, [], ◌∷◌, ◌++◌, ℕ, zero, suc, ◌+◌, ℤ}
use Rattle.sine.specs.Sine.{S}

-- n phases from a phase on, a step apart
unfoldable pub phases : ℕ → ℕ → ℕ → List ℕ
phases zero step phase = []
phases (suc n) step phase = phase ∷ phases n step (phase + step)

-- n samples from a phase on, a step apart: S(phase), S(phase + step), ..
unfoldable pub wave : ℕ → ℕ → ℕ → List ℤ
wave zero step phase = []
wave (suc n) step phase = S phase ∷ wave n step (phase + step)

-- 32 cosines and 32 sines of a step; C(j t) is S(480 + j t)
unfoldable pub quadrature_of : ℕ → List ℤ
quadrature_of step = wave 32 step 480 ++ wave 32 step 0

-- those of the first step, then those of the second
unfoldable pub weights_of : ℕ → ℕ → List ℤ
weights_of first second = quadrature_of first ++ quadrature_of second
