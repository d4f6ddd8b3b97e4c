-- A call that is refused by its table, and does otherwise what it is for, answers as demand 1 asks.
-- Assumes nothing.
use mathlib.Core.Path.{◌≡◌, refl, sym, subst}
use mathlib.Core.Bool.{cond}
use mathlib.Core.List.{List, map}
use Prim.Native.Nat.{ℕ, zero, suc}
use native.Mathlib.Omega.{arith}
use lib.Dec.{eqb, eqb-suc-zero}
use Rattle.calls.specs.Refusals.{Test, first_of, IsFirst}
use Rattle.calls.specs.Outcome.{Outcome, refused, unless_refused}
use Rattle.calls.proofs.Refusals.{is-first}
use Rattle.demands.specs.Answers.{Answers}

pub answers : {S L : Type 0} (row : List ℕ) (tests : List Test) (s : S) (lent : L) (Done : Outcome S L → Type 0) (given : Outcome S L)
    → map (λ (t : Test). t.number) tests ≡ row → given.number ≡ 0 → (first_of tests ≡ 0 → Done given)
    → Answers row tests s lent Done (unless_refused tests s lent given)
answers row tests s lent Done given numbers zeroth does = go (first_of tests) (is-first tests) does
  where
    go : (n : ℕ) → IsFirst tests n → (n ≡ 0 → Done given) → Answers row tests s lent Done (cond (eqb n 0) given (refused n s lent))
    go zero i d = record { numbers = numbers; first = subst (IsFirst tests) (sym zeroth) i; unmoved = λ h. absurd (h zeroth); done = λ e. d refl }
    go (suc n) i d = rw (eqb-suc-zero n) (record { numbers = numbers; first = i; unmoved = λ h. refl; done = λ e. absurd (omega arith) })
