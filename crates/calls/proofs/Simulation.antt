-- One machine inside another: `part` is the inner machine's state, `fed` the inputs that it gets with an input of the outer one, and `seen`
-- what of the outer one's outputs are outputs of the inner. What holds of each input holds of every list of them.
-- Assumes nothing.
use mathlib.Core.Path.{◌≡◌, refl, sym, ap, ap₂, ◌∙◌}
use mathlib.Core.List.{List, [], ◌∷◌, ◌++◌, append_assoc}
use Rattle.calls.specs.Runs as runs
use Rattle.calls.specs.Lists.{each}
use Rattle.calls.proofs.Runs.{RunLaws}

pub each_append : {A B : Type 0} (f : A → List B) (xs ys : List A) → each f (xs ++ ys) ≡ each f xs ++ each f ys
each_append f [] ys = refl
each_append {B = B} f (x ∷ xs) ys = ap (λ (l : List B). f x ++ l) (each_append f xs ys) ∙ sym (append_assoc (f x) (each f xs) (each f ys))

-- all outputs are seen
pub each_itself : {A : Type 0} (xs : List A) → each (λ (x : A). x ∷ []) xs ≡ xs
each_itself [] = refl
each_itself {A} (x ∷ xs) = ap (λ (l : List A). x ∷ l) (each_itself xs)

module _ {S I T J B : Type 0} (step : S → I → S) {after : T → List J → T} {gives : T → List J → List B} (run : RunLaws after gives)
    (part : S → T) (fed : S → I → List J) where
  -- all that the inner machine is fed
  abbrev pub inputs : S → List I → List J
  inputs = runs.gives step fed

  module _ (moves : (s : S) (x : I) → part (step s x) ≡ after (part s) (fed s x)) where
    pub part_after : (s : S) (xs : List I) → part (runs.after step s xs) ≡ after (part s) (inputs s xs)
    unfolding runs.after runs.gives
    part_after s [] = sym (run.after_none (part s))
    part_after s (x ∷ xs) =
        part_after (step s x) xs
        ∙ ap (λ (t : T). after t (inputs (step s x) xs)) (moves s x)
        ∙ sym (run.after_append (part s) (fed s x) (inputs (step s x) xs))

    module _ {A : Type 0} (out : S → I → List A) (seen : A → List B)
        (shows : (s : S) (x : I) → each seen (out s x) ≡ gives (part s) (fed s x)) where
      pub part_gives : (s : S) (xs : List I) → each seen (runs.gives step out s xs) ≡ gives (part s) (inputs s xs)
      unfolding runs.gives
      part_gives s [] = sym (run.gives_none (part s))
      part_gives s (x ∷ xs) =
          each_append seen (out s x) (runs.gives step out (step s x) xs)
          ∙ ap₂ (λ (l m : List B). l ++ m) (shows s x)
          (part_gives (step s x) xs ∙ ap (λ (t : T). gives t (inputs (step s x) xs)) (moves s x))
          ∙ sym (run.gives_append (part s) (fed s x) (inputs (step s x) xs))
