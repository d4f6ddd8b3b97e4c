-- A list that is altered by at most n at each place: parts of it are, and its dot product with weights moves by at most n times
-- their size, which is how a disturbance of the samples reaches the sums that a receiver forms. From the ring laws and the sizes.
-- Assumes nothing.
use mathlib.Core.Path.{◌≡◌, refl, sym, ap, ◌∙◌}
use mathlib.Core.List.{List, [], ◌∷◌, ◌++◌}
use Prim.Native.Nat.{ℕ, zero, suc, ◌+◌, ◌*◌, ◌<◌, ◌≤◌, zero-le}
use native.Mathlib.Nat.{le_trans, not-suc-le-zero, le_of_suc-le-suc, add-le-add, mul-le-mul_right, mul-add}
use native.Mathlib.Omega.{arith}
use lib.IntN.{ℤ, pos, neg_ℤ, nat_abs, ◌+ℤ◌, ◌-ℤ◌, ◌*ℤ◌, neg_ℤ-+ℤ, +ℤ_comm, +ℤ_invr, +ℤ-neg_ℤ_cancel}
use lib.ListN.{length, get_or, take, drop}
use Rattle.integers.specs.Sums.{size, dot, Bounded}
use Rattle.integers.specs.Near.{altered, Near, none, more}
use Rattle.integers.proofs.Ring.{+ℤ_swap, +ℤ-*ℤ, negℤ_*ℤ}
use Rattle.integers.proofs.Size.{nat_abs-+ℤ, nat_abs-*ℤ, nat_abs_near}
use Rattle.integers.proofs.Sums.{bounded_none, bounded_more, bounded_rest}

-- ---- numbers that are added place by place

pub length-altered : (xs ds : List ℤ) → length (altered xs ds) ≡ length xs
unfolding altered
length-altered [] ds = refl
length-altered (x ∷ xs) [] = refl
length-altered (x ∷ xs) (d ∷ ds) = ap suc (length-altered xs ds)

pub altered-at : (xs ds : List ℤ) (k : ℕ) → k < length xs → k < length ds → get_or (altered xs ds) k (pos 0) ≡ get_or xs k (pos 0) +ℤ get_or ds k (pos 0)
unfolding altered
altered-at [] ds k h l = absurd (not-suc-le-zero h)
altered-at (x ∷ xs) [] k h l = absurd (not-suc-le-zero l)
altered-at (x ∷ xs) (d ∷ ds) zero h l = refl
altered-at (x ∷ xs) (d ∷ ds) (suc k) h l = altered-at xs ds k (le_of_suc-le-suc h) (le_of_suc-le-suc l)

pub altered-none : (xs : List ℤ) → altered xs [] ≡ xs
unfolding altered
altered-none [] = refl
altered-none (x ∷ xs) = refl

-- ---- lists that are near

module _ {n : ℕ} where
  pub near_length : {xs ys : List ℤ} → Near n xs ys → length xs ≡ length ys
  near_length none = refl
  near_length (more h r) = ap suc (near_length r)

  as_it_was : (x : ℤ) → nat_abs (x -ℤ x) ≤ n
  as_it_was x = rw (+ℤ_invr x) zero-le

  pub near_self : (xs : List ℤ) → Near n xs xs
  near_self [] = none
  near_self (x ∷ xs) = more (as_it_was x) (near_self xs)

  changed : (x d : ℤ) → nat_abs d ≤ n → nat_abs (x +ℤ d -ℤ x) ≤ n
  changed x d h = rw (+ℤ_comm x d, +ℤ-neg_ℤ_cancel d x) h

  -- numbers of at most n are added
  pub near_altered : (xs ds : List ℤ) → Bounded n ds → Near n xs (altered xs ds)
  unfolding altered
  near_altered [] ds b = none
  near_altered (x ∷ xs) [] b = near_self (x ∷ xs)
  near_altered (x ∷ xs) (d ∷ ds) b = more (changed x d (b.at 0)) (near_altered xs ds (bounded_rest b))

  pub near_append : {xs ys us vs : List ℤ} → Near n xs ys → Near n us vs → Near n (xs ++ us) (ys ++ vs)
  near_append none k = k
  near_append (more h r) k = more h (near_append r k)

  pub near_take : {xs ys : List ℤ} (k : ℕ) → Near n xs ys → Near n (take k xs) (take k ys)
  near_take zero r = none
  near_take (suc k) none = none
  near_take (suc k) (more h r) = more h (near_take k r)

  pub near_drop : {xs ys : List ℤ} (k : ℕ) → Near n xs ys → Near n (drop k xs) (drop k ys)
  near_drop zero r = r
  near_drop (suc k) none = none
  near_drop (suc k) (more h r) = near_drop k r

-- and no number is larger than it was by more than n
pub near_bounded : {m n : ℕ} {xs ys : List ℤ} → Near n xs ys → Bounded m xs → Bounded (m + n) ys
near_bounded none b = bounded_none
near_bounded (more {x} {y} h r) b = bounded_more (omega (arith, (nat_abs_near x y h).1, b.at 0)) (near_bounded r (bounded_rest b))

-- one place: d of at most n with the weight w, before a rest of at most n times m
place : (n : ℕ) (d w r : ℤ) (m : ℕ) → nat_abs d ≤ n → nat_abs r ≤ n * m → nat_abs (d *ℤ w +ℤ r) ≤ n * (nat_abs w + m)
place n d w r m h k =
    le_trans (nat_abs-+ℤ (d *ℤ w) r) (rw (nat_abs-*ℤ d w, mul-add n (nat_abs w) m) (add-le-add (mul-le-mul_right (nat_abs w) h) k))

-- the difference of two sums, place by place
apart : (x y w a b : ℤ) → (y *ℤ w +ℤ b) -ℤ (x *ℤ w +ℤ a) ≡ (y -ℤ x) *ℤ w +ℤ (b -ℤ a)
apart x y w a b =
    ap (λ (z : ℤ). y *ℤ w +ℤ b +ℤ z) (neg_ℤ-+ℤ (x *ℤ w) a)
    ∙ +ℤ_swap (y *ℤ w) b (neg_ℤ (x *ℤ w)) (neg_ℤ a)
    ∙ ap (λ (z : ℤ). z +ℤ (b -ℤ a)) (ap (λ (z : ℤ). y *ℤ w +ℤ z) (sym (negℤ_*ℤ x w)) ∙ sym (+ℤ-*ℤ y (neg_ℤ x) w))

pub near_dot : {n : ℕ} {xs ys : List ℤ} → Near n xs ys → (ws : List ℤ) → nat_abs (dot ys ws -ℤ dot xs ws) ≤ n * size ws
unfolding dot size
near_dot none ws = zero-le
near_dot (more h r) [] = zero-le
near_dot {n} (more {x} {y} {xs} {ys} h r) (w ∷ ws) =
    rw (apart x y w (dot xs ws) (dot ys ws)) (place n (y -ℤ x) w (dot ys ws -ℤ dot xs ws) (size ws) h (near_dot r ws))
