-- A machine that takes inputs one by one: `step` gives the next state and `out` what it gives with an input. The definitions are ours.
-- Assumes nothing.
use Rattle.std.specs.Prelude.{List, [], ◌∷◌, ◌++◌, map, ℕ, ◌+◌}

-- each of a list with the same index
abbrev pub with_index : {A : Type 0} → ℕ → List A → List (A × ℕ)
with_index {A} k = map (λ (a : A). (a, k))

module _ {S I : Type 0} (step : S → I → S) where
  -- the state after a list of inputs
  unfoldable pub after : S → List I → S
  after s [] = s
  after s (x ∷ xs) = after (step s x) xs

  module _ {A : Type 0} (out : S → I → List A) where
    -- what it gives on the way, joined in order
    unfoldable pub gives : S → List I → List A
    gives s [] = []
    gives s (x ∷ xs) = out s x ++ gives (step s x) xs

    -- the same, each with the index of the input that brings it, where the first input has the index k
    unfoldable pub indexed : ℕ → S → List I → List (A × ℕ)
    indexed k s [] = []
    indexed k s (x ∷ xs) = with_index k (out s x) ++ indexed (k + 1) (step s x) xs
