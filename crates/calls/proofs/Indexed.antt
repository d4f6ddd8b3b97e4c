-- What a machine gives with the indices of its inputs: without the indices it is what it gives; over two lists it is told one behind the
-- other; and no index is below the first.
-- Assumes nothing.
use mathlib.Core.Path.{◌≡◌, refl, sym, ap, ap₂, ◌∙◌}
use mathlib.Core.List.{List, [], ◌∷◌, ◌++◌, map, map-append, append_assoc}
use Prim.Native.Nat.{ℕ, suc, ◌+◌, ◌≤◌}
use native.Mathlib.Omega.{arith}
use lib.ListN.{length}
use Rattle.integers.specs.All.{All, none, more}
use Rattle.integers.proofs.All.{all_append}
use Rattle.calls.specs.Runs.{after, gives, indexed, with_index}

module _ {A : Type 0} where
  -- the two sides
  abbrev pub values : List (A × ℕ) → List A
  values = map (λ (p : A × ℕ). p.0)

  abbrev pub indices : List (A × ℕ) → List ℕ
  indices = map (λ (p : A × ℕ). p.1)

  pub values_with : (k : ℕ) (xs : List A) → values (with_index k xs) ≡ xs
  values_with k [] = refl
  values_with k (x ∷ xs) = ap (λ (l : List A). x ∷ l) (values_with k xs)

  pub indices_with : (k : ℕ) (xs : List A) → indices (with_index k xs) ≡ map (λ (x : A). k) xs
  indices_with k [] = refl
  indices_with k (x ∷ xs) = ap (λ (l : List ℕ). k ∷ l) (indices_with k xs)

  with_counted : (j k : ℕ) (xs : List A) → map (λ (p : A × ℕ). (p.0, j + p.1)) (with_index k xs) ≡ with_index (j + k) xs
  with_counted j k [] = refl
  with_counted j k (x ∷ xs) = ap (λ (l : List (A × ℕ)). (x, j + k) ∷ l) (with_counted j k xs)

  -- no index is below k
  abbrev pub From : ℕ → List (A × ℕ) → Type 0
  From k = All (λ (p : A × ℕ). k ≤ p.1)

  pub with_from : (k : ℕ) (xs : List A) → From k (with_index k xs)
  with_from k [] = none
  with_from k (x ∷ xs) = more {x = (x, k)} (omega arith) (with_from k xs)

  pub from-before : {k : ℕ} {ps : List (A × ℕ)} → From (k + 1) ps → From k ps
  from-before none = none
  from-before (more {x = p} h hs) = more {x = p} (omega arith) (from-before hs)

module _ {S I A : Type 0} (step : S → I → S) (out : S → I → List A) where
  pub indexed_values : (k : ℕ) (s : S) (xs : List I) → values (indexed step out k s xs) ≡ gives step out s xs
  unfolding gives indexed
  indexed_values k s [] = refl
  indexed_values k s (x ∷ xs) =
      map-append (λ (p : A × ℕ). p.0) (with_index k (out s x)) (indexed step out (k + 1) (step s x) xs)
      ∙ ap₂ (λ (l m : List A). l ++ m) (values_with k (out s x)) (indexed_values (k + 1) (step s x) xs)

  pub indexed_append : (k : ℕ) (s : S) (xs ys : List I)
      → indexed step out k s (xs ++ ys) ≡ indexed step out k s xs ++ indexed step out (k + length xs) (after step s xs) ys
  unfolding after indexed
  indexed_append k s [] ys = let e : k ≡ k + 0 = omega arith in ap (λ (n : ℕ). indexed step out n s ys) e
  indexed_append k s (x ∷ xs) ys =
      let e : k + 1 + length xs ≡ k + suc (length xs) = omega arith in
      ap (λ (l : List (A × ℕ)). with_index k (out s x) ++ l)
      (indexed_append (k + 1) (step s x) xs ys
      ∙ ap (λ (n : ℕ). indexed step out (k + 1) (step s x) xs ++ indexed step out n (after step (step s x) xs) ys) e)
      ∙ sym (append_assoc (with_index k (out s x)) (indexed step out (k + 1) (step s x) xs) (indexed step out (k + suc (length xs)) (after step (step s x) xs) ys))

  pub indexed-from : (k : ℕ) (s : S) (xs : List I) → From k (indexed step out k s xs)
  unfolding indexed
  indexed-from k s [] = none
  indexed-from k s (x ∷ xs) = all_append (with_from k (out s x)) (from-before (indexed-from (k + 1) (step s x) xs))

  -- counted from another first index
  pub indexed_counted : (j k : ℕ) (s : S) (xs : List I)
      → map (λ (p : A × ℕ). (p.0, j + p.1)) (indexed step out k s xs) ≡ indexed step out (j + k) s xs
  unfolding indexed
  indexed_counted j k s [] = refl
  indexed_counted j k s (x ∷ xs) =
      let e : j + (k + 1) ≡ j + k + 1 = omega arith in
      map-append (λ (p : A × ℕ). (p.0, j + p.1)) (with_index k (out s x)) (indexed step out (k + 1) (step s x) xs)
      ∙ ap₂ (λ (l m : List (A × ℕ)). l ++ m) (with_counted j k (out s x))
      (indexed_counted j (k + 1) (step s x) xs ∙ ap (λ (n : ℕ). indexed step out n (step s x) xs) e)
