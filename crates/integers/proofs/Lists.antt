-- Laws of lists that the library lacks: parts, and stores one behind the other.
-- Assumes nothing.
use mathlib.Core.Path.{◌≡◌, refl, sym, ap, ◌∙◌}
use mathlib.Core.List.{List, [], ◌∷◌, ◌++◌, map, append-nil}
use Prim.Native.Nat.{ℕ, zero, suc, ◌+◌, ◌-◌, ◌<◌, ◌≤◌}
use native.Mathlib.Nat.{add-zero, add-suc, suc-add, zero-add}
use native.Mathlib.Numerals.{add-one}
use native.Mathlib.Omega.{arith}
use lib.ListN.{length, get_or, set, take, drop, replicate, length-take, take-append-drop, drop_of_length-le}
use lib.Seq.{sets, sets-eq, set_out, take-suc, take-take, take-add, drop-append-le, slice}
use Rattle.std.proofs.lemmas.List.{drop-take}

module _ {A : Type 0} where
  -- lists that begin alike
  pub same_front : (k m : ℕ) (xs ys : List A) → take m xs ≡ take m ys → k ≤ m → take k xs ≡ take k ys
  same_front k m xs ys e h = sym (take-take k m xs h) ∙ ap (take k) e ∙ take-take k m ys h

  -- a part in two, a part that ends a place later, and a part with what is behind it
  module _ (l : List A) where
    ahead : (i j : ℕ) → i ≤ j → i ≤ length l → i ≤ length (take j l)
    ahead i j h k = omega (arith, length-take j l)

    pub slice-join : (i j k : ℕ) → i ≤ j → j ≤ k → j ≤ length l → slice i k l ≡ slice i j l ++ slice j k l
    slice-join i j k h m n =
        let e : k ≡ j + (k - j) = omega arith in
        ap (λ (t : ℕ). slice i t l) e
        ∙ ap (drop i) (take-add j (k - j) l)
        ∙ drop-append-le i (take j l) (take (k - j) (drop j l)) (ahead i j h (omega arith))
        ∙ ap (λ (u : List A). slice i j l ++ u) (sym (ap (λ (t : ℕ). slice j t l) e ∙ drop-take j (k - j) l))

    pub slice-more : (i j : ℕ) (d : A) → i ≤ j → j < length l → slice i (j + 1) l ≡ slice i j l ++ get_or l j d ∷ []
    slice-more i j d h m =
        ap (λ (t : ℕ). slice i t l) (add-one j) ∙ ap (drop i) (take-suc l j d m) ∙ drop-append-le i (take j l) (get_or l j d ∷ []) (ahead i j h (omega arith))

    pub slice_rest : (i j : ℕ) → i ≤ j → i ≤ length l → drop i l ≡ slice i j l ++ drop j l
    slice_rest i j h m = ap (drop i) (sym (take-append-drop j l)) ∙ drop-append-le i (take j l) (drop j l) (ahead i j h m)

  -- stores in two parts
  pub sets_append : (l : List A) (i : ℕ) (xs ys : List A) → sets l i (xs ++ ys) ≡ sets (sets l i xs) (i + length xs) ys
  sets_append l i [] ys = rw add-zero
  sets_append l i (x ∷ xs) ys = rw (add-suc, ← suc-add) (sets_append (set l i x) (suc i) xs ys)

  -- and in three, from the front on
  pub sets_three : (l xs ys zs : List A) {m n : ℕ} → length xs ≡ m → length ys ≡ n → sets l 0 (xs ++ (ys ++ zs)) ≡ sets (sets (sets l 0 xs) m ys) (m + n) zs
  sets_three l xs ys zs {m} ex ey =
      sets_append l 0 xs (ys ++ zs)
      ∙ ap (λ (k : ℕ). sets (sets l 0 xs) k (ys ++ zs)) (zero-add (length xs) ∙ ex)
      ∙ sets_append (sets l 0 xs) m ys zs
      ∙ ap (λ (k : ℕ). sets (sets (sets l 0 xs) m ys) (m + k) zs) ey

  -- stores behind the end do nothing
  pub sets_out : (l : List A) (i : ℕ) (xs : List A) → length l ≤ i → sets l i xs ≡ l
  sets_out l i [] h = refl
  sets_out l i (x ∷ xs) h =
      let e : length l ≤ suc i = omega arith in
      rw (set_out l i x h) (sets_out l (suc i) xs e)

  -- stores from the front on
  pub sets-front : (new old : List A) → length new ≤ length old → sets old 0 new ≡ new ++ drop (length new) old
  sets-front new old h = sets-eq new old 0 (rw zero-add h) ∙ rw zero-add

  -- stores over a whole list
  pub sets-whole : (new old : List A) → length new ≡ length old → sets old 0 new ≡ new
  sets-whole new old e =
      sets-front new old (omega arith)
      ∙ ap (λ (l : List A). new ++ l) (drop_of_length-le old {i = length new} (omega arith))
      ∙ append-nil new

-- a map of one number over and over
pub map-replicate : {A B : Type 0} (f : A → B) (n : ℕ) (x : A) → map f (replicate n x) ≡ replicate n (f x)
map-replicate f zero x = refl
map-replicate {B = B} f (suc n) x = ap (λ (r : List B). f x ∷ r) (map-replicate f n x)
