-- Laws of sums: a sum of products as a dot product, and a dot product computed place by place and of opposite numbers. And how a
-- bound of a list's numbers is made and used.
-- Assumes nothing.
use mathlib.Core.Path.{◌≡◌, refl, sym, ap, ap₂, ◌∙◌}
use mathlib.Core.List.{List, [], ◌∷◌, ◌++◌, map}
use Prim.Native.Nat.{ℕ, zero, suc, ◌+◌, ◌<◌, ◌≤◌, zero-le}
use native.Mathlib.Numerals.{add-one}
use native.Mathlib.Omega.{arith}
use lib.IntN.{ℤ, pos, neg_ℤ, nat_abs, ◌+ℤ◌, ◌*ℤ◌, +ℤ_assoc, zero-*ℤ, neg_ℤ-+ℤ}
use lib.ListN.{length, get_or, take, drop, replicate}
use lib.Seq.{drop-cons, get_or-drop}
use Rattle.integers.specs.Sums.{dot, sum_to, Bounded}
use Rattle.integers.proofs.Ring.{negℤ_*ℤ}
use Rattle.integers.proofs.Size.{nat_abs_negℤ}

-- sums of equal terms
pub sum_to_same : (n : ℕ) (f g : ℕ → ℤ) → ((k : ℕ) → k < n → f k ≡ g k) → sum_to n f ≡ sum_to n g
unfolding sum_to
sum_to_same zero f g h = refl
sum_to_same (suc n) f g h =
    ap₂ (λ (x y : ℤ). x +ℤ y) (h 0 (omega arith)) (sum_to_same n (λ k. f (suc k)) (λ k. g (suc k)) (λ k l. h (suc k) (omega arith)))

-- the products of two lists, place by place
abbrev pub products : List ℤ → List ℤ → ℕ → ℤ
products xs ws k = get_or xs k (pos 0) *ℤ get_or ws k (pos 0)

nothing : (ws : List ℤ) → sum_to (length ws) (products [] ws) ≡ pos 0
unfolding sum_to
nothing [] = refl
nothing (w ∷ ws) = ap₂ (λ (x y : ℤ). x +ℤ y) (zero-*ℤ w) (nothing ws)

pub sum_to-dot : (xs ws : List ℤ) → sum_to (length ws) (products xs ws) ≡ dot xs ws
unfolding sum_to dot
sum_to-dot [] ws = nothing ws
sum_to-dot (x ∷ xs) [] = refl
sum_to-dot (x ∷ xs) (w ∷ ws) = ap (λ (y : ℤ). x *ℤ w +ℤ y) (sum_to-dot xs ws)

-- the opposite numbers have the opposite product, which is as large
dot-opposite : (xs ws : List ℤ) → dot (map neg_ℤ xs) ws ≡ neg_ℤ (dot xs ws)
unfolding dot
dot-opposite [] ws = refl
dot-opposite (x ∷ xs) [] = refl
dot-opposite (x ∷ xs) (w ∷ ws) =
    ap₂ (λ (y z : ℤ). y +ℤ z) (negℤ_*ℤ x w) (dot-opposite xs ws) ∙ sym (neg_ℤ-+ℤ (x *ℤ w) (dot xs ws))

pub dot-opposite-size : (xs ws : List ℤ) → nat_abs (dot (map neg_ℤ xs) ws) ≡ nat_abs (dot xs ws)
dot-opposite-size xs ws = ap nat_abs (dot-opposite xs ws) ∙ nat_abs_negℤ (dot xs ws)

-- the dot product is the sum a of the first k products and the rest
pub dot-next : (xs ws : List ℤ) (k : ℕ) (a : ℤ) → k < length xs → k < length ws
    → a +ℤ dot (drop k xs) (drop k ws) ≡ a +ℤ products xs ws k +ℤ dot (drop (k + 1) xs) (drop (k + 1) ws)
unfolding dot
dot-next xs ws k a h l =
    rw (add-one k, drop-cons xs k (pos 0) h, drop-cons ws k (pos 0) l)
    (sym (+ℤ_assoc a (products xs ws k) (dot (drop (suc k) xs) (drop (suc k) ws))))

-- ---- bounds of lists

module _ {n : ℕ} where
  pub bounded_none : Bounded n []
  bounded_none = record { at = λ k. zero-le }

  pub bounded_more : {x : ℤ} {xs : List ℤ} → nat_abs x ≤ n → Bounded n xs → Bounded n (x ∷ xs)
  bounded_more {x} {xs} h b = record { at = entry }
    where
      entry : (k : ℕ) → nat_abs (get_or (x ∷ xs) k (pos 0)) ≤ n
      entry zero = h
      entry (suc k) = b.at k

  pub bounded_rest : {x : ℤ} {xs : List ℤ} → Bounded n (x ∷ xs) → Bounded n xs
  bounded_rest b = record { at = λ k. b.at (suc k) }

  pub bounded_append : (xs ys : List ℤ) → Bounded n xs → Bounded n ys → Bounded n (xs ++ ys)
  bounded_append [] ys b c = c
  bounded_append (x ∷ xs) ys b c = bounded_more (b.at 0) (bounded_append xs ys (bounded_rest b) c)

  pub bounded_take : (m : ℕ) {xs : List ℤ} → Bounded n xs → Bounded n (take m xs)
  bounded_take zero b = bounded_none
  bounded_take (suc m) {xs = []} b = bounded_none
  bounded_take (suc m) {xs = x ∷ xs} b = bounded_more (b.at 0) (bounded_take m (bounded_rest b))

  pub bounded_drop : (m : ℕ) {xs : List ℤ} → Bounded n xs → Bounded n (drop m xs)
  bounded_drop m {xs} b = record { at = λ k. rw (get_or-drop m xs k (pos 0)) (b.at (m + k)) }

pub bounded_zeros : (n m : ℕ) → Bounded n (replicate m (pos 0))
bounded_zeros n zero = bounded_none
bounded_zeros n (suc m) = bounded_more zero-le (bounded_zeros n m)
