-- A list that is stored place by place from the front: what is stored so far is the front of the list that is asked for.
-- Assumes nothing.
use Rattle.std.proofs.Common.{◌≡◌, ℕ, ◌+◌, ◌<◌, ◌≤◌, List, [], ◌∷◌, ◌++◌, length, map, get_or, take, take_all, sym, ap, ◌∙◌, arith}
use Rattle.std.proofs.Math.ListN.{set}
use Rattle.std.proofs.lemmas.List.{take_more, take_more_set, get_or-map}
use lib.ListN.{length-map}

module _ {A : Type 0} (all now : List A) (i : ℕ) where
  pub filled_more : (d x : A) → i < length now → i < length all → x ≡ get_or all i d → take i now ≡ take i all → take (i + 1) (set now i x) ≡ take (i + 1) all
  filled_more d x h g e p =
      take_more_set now i x h ∙ ap (λ (xs : List A). xs ++ x ∷ []) p ∙ ap (λ (y : A). take i all ++ y ∷ []) e ∙ sym (take_more all i d g)

  pub filled_all : length now ≤ i → length all ≤ i → take i now ≡ take i all → now ≡ all
  filled_all h g p = sym (take_all i now h) ∙ p ∙ take_all i all g

-- the same of a map
pub mapped_more : {A B : Type 0} (f : A → B) (xs : List A) (now : List B) (i : ℕ) (d : A) (x : B) → i < length now → i < length xs → x ≡ f (get_or xs i d)
    → take i now ≡ take i (map f xs) → take (i + 1) (set now i x) ≡ take (i + 1) (map f xs)
mapped_more f xs now i d x h g e p =
    filled_more (map f xs) now i x x h (omega (arith, length-map xs f)) (e ∙ sym (get_or-map f xs i d x g)) p
