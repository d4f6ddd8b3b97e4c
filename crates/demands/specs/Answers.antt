-- What is said of each call by demand 1: the specification, "Refused calls".
-- Assumes nothing.
use Rattle.std.specs.Prelude.{◌≡◌, List, map, ℕ}
use Rattle.calls.specs.Refusals.{Test, IsFirst}
use Rattle.calls.specs.Outcome.{Outcome, refused}

-- A call with a table of tests, handed the state s and the memory `lent`, comes to the outcome o.
pub record Answers {S L : Type 0} (row : List ℕ) (tests : List Test) (s : S) (lent : L) (Done : Outcome S L → Type 0) (o : Outcome S L) : Type 0 where
  -- the table's numbers are those of the specification, in its order
  pub numbers : map (λ (t : Test). t.number) tests ≡ row
  -- the answer is the number of the first condition that holds, or 0 if none does
  pub first : IsFirst tests o.number
  -- a refused call reports count 0, hands back the state and leaves the lent memory as it was
  pub unmoved : (o.number ≡ 0 → ⊥) → o ≡ refused o.number s lent
  -- an accepted one has done what it is for
  pub done : o.number ≡ 0 → Done o

-- An opening, which has no count and is handed no state and no memory: it gives the fresh state that was asked for, or another if it is
-- refused.
pub record Opens {S : Type 0} (row : List ℕ) (tests : List Test) (fresh other : S) (number : ℕ) (given : S) : Type 0 where
  pub numbers : map (λ (t : Test). t.number) tests ≡ row
  pub first : IsFirst tests number
  pub refusal : (number ≡ 0 → ⊥) → given ≡ other
  pub done : number ≡ 0 → given ≡ fresh
