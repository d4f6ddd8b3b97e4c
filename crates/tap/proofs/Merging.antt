-- Two lists of events merged by their indices: which event is the next, and what is left behind it.
-- Assumes nothing.
use mathlib.Core.Path.{◌≡◌, refl, sym, ap}
use mathlib.Core.Bool.{true, false, true≢false, false≢true}
use mathlib.Core.List.{List, [], ◌∷◌}
use Prim.Native.Nat.{ℕ, suc, ◌+◌}
use native.Mathlib.Nat.{suc_inj}
use native.Mathlib.Omega.{arith}
use lib.Dec.{leb}
use lib.IntN.{ℤ}
use lib.ListN.{length, drop}
use Rattle.std.proofs.Common.{Option, Some, None}
use Rattle.std.specs.Iterator.{YieldsFirst, MakesProgress, item_count}
use Rattle.calls.proofs.Indexed.{values}
use Rattle.integers.proofs.Tests.{cond_case}
use Rattle.tap.specs.Step.{in_band}
use Rattle.tap.specs.AsCoded.{merged, listed, comes_first, IsTaken, merged_events}

-- ---- the next of two lists

module _ {A : Type 0} where
  merged-none : (xs : List (A × ℕ)) → merged xs [] ≡ xs
  unfolding merged
  merged-none [] = refl
  merged-none (x ∷ xs) = refl

  pub merged-first : (x : A × ℕ) (xs ys : List (A × ℕ)) → comes_first (x ∷ xs) ys ≡ true → merged (x ∷ xs) ys ≡ x ∷ merged xs ys
  unfolding merged
  merged-first x xs [] e = ap (λ (l : List (A × ℕ)). x ∷ l) (sym (merged-none xs))
  merged-first x xs (y ∷ ys) e = rw e

  pub merged-second : (xs : List (A × ℕ)) (y : A × ℕ) (ys : List (A × ℕ)) → comes_first xs (y ∷ ys) ≡ false
      → merged xs (y ∷ ys) ≡ y ∷ merged xs ys
  unfolding merged
  merged-second [] y ys e = refl
  merged-second (x ∷ xs) y ys e = rw e

  pub length_merged : (xs ys : List (A × ℕ)) → length (merged xs ys) ≡ length xs + length ys
  unfolding merged
  length_merged [] ys = omega arith
  length_merged (x ∷ xs) [] = omega arith
  length_merged (x ∷ xs) (y ∷ ys) =
      cond_case (λ (l : List (A × ℕ)). length l ≡ length (x ∷ xs) + length (y ∷ ys)) (leb x.1 y.1) _ _
      (omega (arith, length_merged xs (y ∷ ys)))
      (omega (arith, length_merged (x ∷ xs) ys))

-- ---- the events of a receiver, from the lists that it filled

module _ (band : ℕ) where
  pub length_listed : (ns : List ℕ) (ds : List ℤ) (is : List ℕ) → length ns ≡ length ds → length ns ≡ length is
      → length (listed band ns ds is) ≡ length ns
  length_listed [] ds is e f = refl
  length_listed (n ∷ ns) [] is e f = let z : ⊥ = omega (arith, e) in absurd z
  length_listed (n ∷ ns) (d ∷ ds) [] e f = let z : ⊥ = omega (arith, f) in absurd z
  length_listed (n ∷ ns) (d ∷ ds) (i ∷ is) e f = ap suc (length_listed ns ds is (suc_inj e) (suc_inj f))

  pub taken : (n : ℕ) (ns : List ℕ) (d : ℤ) (ds : List ℤ) (is : List ℕ) → length (n ∷ ns) ≡ length is
      → IsTaken (listed band (n ∷ ns) (d ∷ ds) is) (Some (in_band band n, d)) (listed band ns ds (drop 1 is))
  taken n ns d ds [] e = let z : ⊥ = omega (arith, e) in absurd z
  taken n ns d ds (i ∷ is) e = (refl, refl)

-- ---- the next is taken from its list

abbrev pub Gives : List (ℕ × ℤ) → Option (ℕ × ℤ) → List (ℕ × ℤ) → Type 0
Gives = YieldsFirst (λ es. es)

pub next_first : (xs ys xs' : List ((ℕ × ℤ) × ℕ)) (r : Option (ℕ × ℤ)) → comes_first xs ys ≡ true → IsTaken xs r xs'
    → Gives (merged_events xs ys) r (merged_events xs' ys)
next_first [] ys xs' r e t = absurd (false≢true e)
next_first (x ∷ xs) ys xs' r e t = rw (t.0, t.1) (ap values (merged-first x xs ys e))

pub next_second : (xs ys ys' : List ((ℕ × ℤ) × ℕ)) (r : Option (ℕ × ℤ)) → comes_first xs ys ≡ false → IsTaken ys r ys'
    → Gives (merged_events xs ys) r (merged_events xs ys')
unfolding merged
next_second [] [] ys' r e t = rw (t.0, t.1) (refl, refl)
next_second (x ∷ xs) [] ys' r e t = absurd (true≢false e)
next_second xs (y ∷ ys) ys' r e t = rw (t.0, t.1) (ap values (merged-second xs y ys e))

-- fewer are left then
pub progress : {es es' : List (ℕ × ℤ)} {r : Option (ℕ × ℤ)} → Gives es r es' → MakesProgress (λ _. Unit {0}) (item_count (λ l. l)) es r es'
progress {r = None} h = record { on = λ _. tt; keeps = tt; rests = λ _. tt }
progress {r = Some e} h = record { on = λ _. (tt, tt, omega (arith, ap length h)); keeps = tt; rests = λ _. tt }
