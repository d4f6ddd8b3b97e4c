-- Laws of ranges: parts of a list, lists joined, the size of each number, and a loop that tests them one by one.
-- Assumes nothing.
use mathlib.Core.Path.{◌≡◌, refl, sym, ap, ◌∙◌}
use mathlib.Core.Bool.{Bool, true, ◌&&◌, and_assoc, and-true}
use mathlib.Core.List.{List, [], ◌∷◌, ◌++◌}
use mathlib.Mathlib.Data.Bool.Basic.{and_elim_left, and_elim_right, and_intro}
use Prim.Native.Nat.{ℕ, suc, ◌+◌, ◌<◌, ◌≤◌}
use native.Mathlib.Nat.{le_trans, le_of_suc-le-suc}
use native.Mathlib.Omega.{arith}
use borrow.Author.Tests.{leb-true, le-leb}
use lib.IntN.{ℤ, pos, negsuc, nat_abs}
use lib.ListN.{length, get_or, take, drop, take-append-drop}
use lib.Signed.{le_z}
use Rattle.std.proofs.lemmas.List.{take_more}
use Rattle.integers.specs.Sums.{Bounded}
use Rattle.integers.proofs.Sums.{bounded_none, bounded_more, bounded_rest}
use Rattle.tones.specs.Samples.{is_between, are_between, are_samples}

-- ---- parts

module _ (low high : ℤ) where
  between_append : (xs ys : List ℤ) → are_between low high (xs ++ ys) ≡ (are_between low high xs && are_between low high ys)
  unfolding are_between
  between_append [] ys = refl
  between_append (x ∷ xs) ys =
      ap (λ (b : Bool). is_between low high x && b) (between_append xs ys)
      ∙ sym (and_assoc (is_between low high x) (are_between low high xs) (are_between low high ys))

  -- a loop that tests them one by one, place k after those before it
  pub between_more : (xs : List ℤ) (k : ℕ) → k < length xs
      → are_between low high (take (k + 1) xs) ≡ (are_between low high (take k xs) && is_between low high (get_or xs k (pos 0)))
  unfolding are_between
  between_more xs k h =
      rw (take_more xs k (pos 0) h)
      (between_append (take k xs) (get_or xs k (pos 0) ∷ [])
      ∙ ap (λ (b : Bool). are_between low high (take k xs) && b) (and-true (is_between low high (get_or xs k (pos 0)))))

pub samples_append : (xs ys : List ℤ) → are_samples (xs ++ ys) ≡ (are_samples xs && are_samples ys)
samples_append = between_append (negsuc 8190) (pos 8191)

-- a list is cut at n
module _ (n : ℕ) (xs : List ℤ) (h : are_samples xs ≡ true) where
  both : (are_samples (take n xs) && are_samples (drop n xs)) ≡ true
  both = sym (samples_append (take n xs) (drop n xs)) ∙ ap are_samples (take-append-drop n xs) ∙ h

  pub samples-take : are_samples (take n xs) ≡ true
  samples-take = and_elim_left (are_samples (take n xs)) (are_samples (drop n xs)) both

  pub samples-drop : are_samples (drop n xs) ≡ true
  samples-drop = and_elim_right (are_samples (take n xs)) (are_samples (drop n xs)) both

-- ---- sizes, in the range from -(n + 1) to n + 1

module _ (n : ℕ) where
  abbrev inside : ℤ → Bool
  inside = is_between (negsuc n) (pos (suc n))

  abbrev all_inside : List ℤ → Bool
  all_inside = are_between (negsuc n) (pos (suc n))

  size : (x : ℤ) → inside x ≡ true → nat_abs x ≤ suc n
  size (pos m) h = leb-true m (suc n) (and_elim_right (le_z (negsuc n) (pos m)) (le_z (pos m) (pos (suc n))) h)
  size (negsuc m) h =
      let l : m ≤ n = leb-true m n (and_elim_left (le_z (negsuc n) (negsuc m)) (le_z (negsuc m) (pos (suc n))) h) in omega arith

  pub between_bound : (xs : List ℤ) → all_inside xs ≡ true → Bounded (suc n) xs
  unfolding are_between
  between_bound [] h = bounded_none
  between_bound (x ∷ xs) h =
      bounded_more (size x (and_elim_left (inside x) (all_inside xs) h)) (between_bound xs (and_elim_right (inside x) (all_inside xs) h))

  -- and numbers of that size are in the range
  small : (x : ℤ) → nat_abs x ≤ suc n → inside x ≡ true
  small (pos m) h = le-leb m (suc n) h
  small (negsuc m) h = rw (le-leb m n (le_of_suc-le-suc h))

  bounded_between : (xs : List ℤ) {m : ℕ} → m ≤ suc n → Bounded m xs → all_inside xs ≡ true
  unfolding are_between
  bounded_between [] h b = refl
  bounded_between (x ∷ xs) h b =
      and_intro (small x (le_trans (b.at 0) h)) (bounded_between xs h (bounded_rest b))

pub samples_bound : (xs : List ℤ) → are_samples xs ≡ true → Bounded 8191 xs
samples_bound = between_bound 8190

pub bounded_samples : (xs : List ℤ) {m : ℕ} → m ≤ 8191 → Bounded m xs → are_samples xs ≡ true
bounded_samples = bounded_between 8190
