-- Lists of calls, refused ones among them: the specification, "Whole recordings". `rule` gives a call's outcome from the state
-- that it is handed.
-- Assumes nothing.
use Rattle.std.specs.Prelude.{cond, List, [], ◌∷◌, ◌++◌}
use Rattle.calls.specs.Outcome.{Outcome, is_accepted}
use Rattle.calls.specs.Runs.{after, gives}

module _ {S L C : Type 0} (rule : S → C → Outcome S L) where
  -- each call is handed the state that the call before it, refused or not, gave
  abbrev handed_on : S → C → S
  handed_on s c = (rule s c).state

  -- what the accepted calls give, joined in order
  abbrev pub joined : {B : Type 0} → (Outcome S L → C → List B) → S → List C → List B
  joined pick = gives handed_on (λ s c. cond (is_accepted (rule s c)) (pick (rule s c) c) [])

  -- the accepted calls themselves
  abbrev pub accepted_calls : S → List C → List C
  accepted_calls = joined (λ o c. c ∷ [])

  -- the state after all of them
  abbrev pub state_after : S → List C → S
  state_after = after handed_on

-- what f gives of each, joined in order
abbrev pub each : {C B : Type 0} → (C → List B) → List C → List B
each f [] = []
each f (c ∷ cs) = f c ++ each f cs
