-- Tests that antt computes over a list or a range, and what each gives at every place; and proofs by the cases of a choice.
-- Assumes nothing.
use mathlib.Core.Path.{◌≡◌, refl, ◌∙◌, ap}
use mathlib.Core.Bool.{Bool, true, false, cond, ◌&&◌, ◌||◌, false≢true}
use mathlib.Core.List.{List, [], ◌∷◌}
use mathlib.Core.Logic.{◌⊎◌, inl, inr}
use mathlib.Mathlib.Data.Bool.Basic.{and_elim_left, and_elim_right}
use Prim.Native.Nat.{ℕ, zero, suc, ◌+◌, ◌<◌, ◌≤◌}
use native.Mathlib.Nat.{add-zero, zero-add, add-suc, suc-add, le_of_suc-le-suc, not-suc-le-zero, eq-or-lt_of_le, suc_inj}
use native.Mathlib.Decide.{dec_lt}
use native.Mathlib.Omega.{arith}
use borrow.Author.Tests.{eqb-true}
use lib.Dec.{T, eqb}
use lib.IntN.{ℤ, pos, negsuc}
use lib.ListN.{length, get_or}

-- what holds of each side, under the test that leads to it, holds of a choice
pub cond-split : {A : Type 0} (P : A → Type 0) (b : Bool) (x y : A) → (b ≡ true → P x) → (b ≡ false → P y) → P (cond b x y)
cond-split P true x y p q = p refl
cond-split P false x y p q = q refl

-- and so does what holds of both
pub cond_case : {A : Type 0} (P : A → Type 0) (b : Bool) (x y : A) → P x → P y → P (cond b x y)
cond_case P b x y p q = cond-split P b x y (λ e. p) (λ e. q)

-- the same of two choices by one test
pub cond_both : {A B : Type 0} (P : A → B → Type 0) (b : Bool) {x y : A} {u v : B} → (b ≡ true → P x u) → (b ≡ false → P y v) → P (cond b x y) (cond b u v)
cond_both P true p q = p refl
cond_both P false p q = q refl

-- what follows from either of two tests, if one of them holds
pub or_case : {P : Type 0} (a b : Bool) → (a ≡ true → P) → (b ≡ true → P) → (a || b) ≡ true → P
or_case true b p q h = p refl
or_case false b p q h = q h

-- what follows if m is below n, and if it is not
pub lt_or_le : {P : Type 0} (m n : ℕ) → (m < n → P) → (n ≤ m → P) → P
lt_or_le {P} m n below above = go (dec_lt m n)
  where
    go : Dec (m < n) → P
    go (yes h) = below h
    go (no f) = above (omega arith)

-- a test that passes, as the type that the orders of the library hold
pub true-T : (b : Bool) → b ≡ true → T b
true-T true e = tt
true-T false e = absurd (false≢true e)

-- equality of whole numbers, as a test
abbrev pub eqZ : ℤ → ℤ → Bool
eqZ (pos a) (pos b) = eqb a b
eqZ (pos a) (negsuc b) = false
eqZ (negsuc a) (pos b) = false
eqZ (negsuc a) (negsuc b) = eqb a b

pub eqZ_true : (a b : ℤ) → eqZ a b ≡ true → a ≡ b
eqZ_true (pos a) (pos b) e = ap pos (eqb-true a b e)
eqZ_true (pos a) (negsuc b) e = absurd (false≢true e)
eqZ_true (negsuc a) (pos b) e = absurd (false≢true e)
eqZ_true (negsuc a) (negsuc b) e = ap negsuc (eqb-true a b e)

module _ {A : Type 0} (test : ℕ → A → Bool) where
  -- the test passes at each place of the list, the first counted as i
  abbrev pub passes : ℕ → List A → Bool
  passes i [] = true
  passes i (x ∷ xs) = test i x && passes (suc i) xs

  from : (d : A) (xs : List A) (i : ℕ) → passes i xs ≡ true → (k : ℕ) → k < length xs → test (i + k) (get_or xs k d) ≡ true
  from d [] i t k h = absurd (not-suc-le-zero h)
  from d (x ∷ xs) i t zero h = rw add-zero (and_elim_left (test i x) (passes (suc i) xs) t)
  from d (x ∷ xs) i t (suc k) h =
      rw (add-suc, ← suc-add i k) (from d xs (suc i) (and_elim_right (test i x) (passes (suc i) xs) t) k (le_of_suc-le-suc h))

  pub passes_at : (d : A) (xs : List A) → passes 0 xs ≡ true → (k : ℕ) → k < length xs → test k (get_or xs k d) ≡ true
  passes_at d xs t k h = rw zero-add at (from d xs 0 t k h)

module _ (test : ℕ → Bool) where
  -- the test passes at each number below n
  abbrev pub passes_below : ℕ → Bool
  passes_below zero = true
  passes_below (suc n) = test n && passes_below n

  pub below_at : (n : ℕ) → passes_below n ≡ true → (k : ℕ) → k < n → test k ≡ true
  below_at zero t k h = absurd (not-suc-le-zero h)
  below_at (suc n) t k h = split (eq-or-lt_of_le h) (λ l. below_at n (and_elim_right (test n) (passes_below n) t) k l)
    where
      split : (suc k ≡ suc n) ⊎ (suc k < suc n) → (k < n → test k ≡ true) → test k ≡ true
      split (inl e) g = ap test (suc_inj e) ∙ and_elim_left (test n) (passes_below n) t
      split (inr l) g = g (le_of_suc-le-suc l)
