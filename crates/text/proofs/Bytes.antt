-- Laws of the front of a text.
-- Assumes nothing.
use mathlib.Core.Path.{◌≡◌, refl, ap}
use mathlib.Core.Bool.{Bool, true, false, ◌&&◌, and-false, false≢true}
use mathlib.Core.List.{List, [], ◌∷◌, ◌++◌}
use mathlib.Mathlib.Data.Bool.Basic.{and_elim_left, and_elim_right, and_intro}
use Prim.Native.Nat.{ℕ, ◌<◌, ◌≤◌}
use native.Mathlib.Nat.{not-suc-le-zero, le_of_suc-le-suc}
use native.Mathlib.Omega.{arith}
use borrow.Author.Tests.{eqb-true, eq-eqb}
use lib.Dec.{eqb}
use lib.ListN.{length, take, drop, length-append}
use lib.Pointwise.{pointwise}
use Rattle.text.specs.Bytes.{starts_with}

-- such a text is its front and the rest
pub starts_cut : (xs t : List ℕ) → starts_with xs t ≡ true → t ≡ xs ++ drop (length xs) t
unfolding starts_with
starts_cut [] t h = refl
starts_cut (x ∷ xs) [] h = absurd (false≢true h)
starts_cut (x ∷ xs) (y ∷ t) h =
    rw (eqb-true x y (and_elim_left (eqb x y) (starts_with xs t) h))
    (ap (λ (r : List ℕ). y ∷ r) (starts_cut xs t (and_elim_right (eqb x y) (starts_with xs t) h)))

pub starts_append : (xs t : List ℕ) → starts_with xs (xs ++ t) ≡ true
unfolding starts_with
starts_append [] t = refl
starts_append (x ∷ xs) t = and_intro (eq-eqb x x refl) (starts_append xs t)

-- and is no shorter
pub starts_long : (xs t : List ℕ) → starts_with xs t ≡ true → length xs ≤ length t
starts_long xs t h = omega (arith, ap length (starts_cut xs t h), length-append xs (drop (length xs) t))

-- a text that is shorter begins otherwise
pub starts_short : (xs t : List ℕ) → length t < length xs → starts_with xs t ≡ false
unfolding starts_with
starts_short [] t h = absurd (not-suc-le-zero h)
starts_short (x ∷ xs) [] h = refl
starts_short (x ∷ xs) (y ∷ t) h = rw (starts_short xs t (le_of_suc-le-suc h)) (and-false (eqb x y))

-- the library's test, which compares the front byte by byte
pub starts_pointwise : (xs t : List ℕ) → starts_with xs t ≡ pointwise eqb xs (take (length xs) t)
unfolding starts_with
starts_pointwise [] t = refl
starts_pointwise (x ∷ xs) [] = refl
starts_pointwise (x ∷ xs) (y ∷ t) = ap (λ (b : Bool). eqb x y && b) (starts_pointwise xs t)
