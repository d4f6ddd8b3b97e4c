-- How a run over a list of inputs falls into two parts: what lists of calls ask of it, and that every machine has it.
-- Assumes nothing.
use mathlib.Core.Path.{◌≡◌, refl, sym, ap, ◌∙◌}
use mathlib.Core.List.{List, [], ◌∷◌, ◌++◌, append_assoc}
use Rattle.calls.specs.Runs.{after, gives}

-- A run over a list of inputs: the state after it and what it gives.
pub record RunLaws {S I A : Type 0} (after : S → List I → S) (gives : S → List I → List A) : Type 0 where
  pub after_none : (s : S) → after s [] ≡ s
  pub gives_none : (s : S) → gives s [] ≡ []
  pub after_append : (s : S) (xs ys : List I) → after s (xs ++ ys) ≡ after (after s xs) ys
  pub gives_append : (s : S) (xs ys : List I) → gives s (xs ++ ys) ≡ gives s xs ++ gives (after s xs) ys

module _ {S I A : Type 0} (step : S → I → S) (out : S → I → List A) where
  after_two : (s : S) (xs ys : List I) → after step s (xs ++ ys) ≡ after step (after step s xs) ys
  unfolding after
  after_two s [] ys = refl
  after_two s (x ∷ xs) ys = after_two (step s x) xs ys

  gives_two : (s : S) (xs ys : List I) → gives step out s (xs ++ ys) ≡ gives step out s xs ++ gives step out (after step s xs) ys
  unfolding after gives
  gives_two s [] ys = refl
  gives_two s (x ∷ xs) ys =
      ap (λ (l : List A). out s x ++ l) (gives_two (step s x) xs ys)
      ∙ sym (append_assoc (out s x) (gives step out (step s x) xs) (gives step out (after step (step s x) xs) ys))

  pub run_laws : RunLaws (after step) (gives step out)
  unfolding after gives
  run_laws = record { after_none = λ s. refl; gives_none = λ s. refl; after_append = after_two; gives_append = gives_two }
