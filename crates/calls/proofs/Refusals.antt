-- Tables of refusals: what is known if no test holds, if one does, and of the call that is refused or not by them; and what the number of a
-- result tells of it.
-- Assumes nothing.
use mathlib.Core.Path.{◌≡◌, refl, sym, ap, ◌∙◌}
use mathlib.Core.Bool.{Bool, true, false, cond}
use mathlib.Core.List.{List, [], ◌∷◌, ◌++◌}
use Prim.Native.Nat.{ℕ, zero, suc}
use native.Mathlib.Omega.{arith}
use borrow.Author.Tests.{ne_eqb}
use lib.Dec.{T, eqb, eqb-suc-zero, ltb, ltb→lt}
use lib.ListN.{length}
use Rattle.std.specs.Prelude.{Result, Ok, Err}
use Rattle.integers.specs.All.{All, none, more}
use Rattle.calls.specs.declared.Refusal.{Refusal}
use Rattle.calls.specs.declared.Refusal.TheVariants.{UnknownBand, StateOutOfRange, TooMany, TooFewPlaces, SampleOutOfRange, SheetTooLong, NotASheet, NotAPair}
use Rattle.calls.specs.Refusals as refusals
use Rattle.calls.specs.Refusals.{number_of, refusal_number, Test, first_of, IsFirst}
use Rattle.calls.specs.Outcome.{Outcome, outcome, as_answer, over, accepted, refused, unless_refused}

-- ---- what the number of a result tells

-- no refusal has the number 0
pub numbered : (r : Refusal) → number_of r ≡ 0 → ⊥
numbered UnknownBand e = omega arith
numbered StateOutOfRange e = omega arith
numbered TooMany e = omega arith
numbered TooFewPlaces e = omega arith
numbered SampleOutOfRange e = omega arith
numbered SheetTooLong e = omega arith
numbered NotASheet e = omega arith
numbered NotAPair e = omega arith

module _ {A : Type 0} where
  -- 0 is an `Ok`, and any other number an `Err`
  pub is-ok : (r : Result A Refusal) → refusal_number r ≡ 0 → (x : A) × (r ≡ Ok x)
  is-ok (Ok x) e = (x, refl)
  is-ok (Err r) e = absurd (numbered r e)

  pub is-err : (r : Result A Refusal) → (refusal_number r ≡ 0 → ⊥) → (x : Refusal) × (r ≡ Err x)
  is-err (Ok x) h = absurd (h refl)
  is-err (Err r) h = (r, refl)

pub answer-number : (r : Result ℕ Refusal) → (as_answer r).number ≡ refusal_number r
answer-number (Ok n) = refl
answer-number (Err r) = refl

-- the number 0 is beside the count of an `Ok`
pub answer-ok : (r : Result ℕ Refusal) → (as_answer r).number ≡ 0 → r ≡ Ok (as_answer r).count
answer-ok (Ok n) e = refl
answer-ok (Err r) e = absurd (numbered r e)

pub answer-err : (r : Result ℕ Refusal) → ((as_answer r).number ≡ 0 → ⊥) → (x : Refusal) × (r ≡ Err x)
answer-err (Ok n) h = absurd (h refl)
answer-err (Err r) h = (r, refl)

-- the same of an outcome that is told by its number
module _ {S L : Type 0} (r : Result ℕ Refusal) (s : S) (lent : L) (o : Outcome S L) (e : outcome (as_answer r) s lent ≡ o) where
  pub outcome-ok : o.number ≡ 0 → r ≡ Ok o.count
  outcome-ok z = answer-ok r (ap (λ (p : Outcome S L). p.number) e ∙ z) ∙ ap (λ (p : Outcome S L). Ok p.count) e

  pub outcome-err : (o.number ≡ 0 → ⊥) → (x : Refusal) × (r ≡ Err x)
  outcome-err h = answer-err r (λ z. h (sym (ap (λ (p : Outcome S L). p.number) e) ∙ z))

-- ---- tables

-- every number of the table is above 0; of a table with its numbers written out this is computed
abbrev pub Numbered : List Test → Type 0
Numbered [] = Unit
Numbered (t ∷ ts) = T (ltb 0 t.number) × Numbered ts

abbrev pub NoneHolds : List Test → Type 0
NoneHolds = All (λ t. t.holds ≡ false)

-- no test holds if none is the first
pub none-holds : (ts : List Test) → Numbered ts → first_of ts ≡ 0 → NoneHolds ts
none-holds [] p e = none
none-holds (t ∷ ts) (p, ps) e = go t.holds refl e (none-holds ts ps)
  where
    go : (b : Bool) → t.holds ≡ b → cond b t.number (first_of ts) ≡ 0 → (first_of ts ≡ 0 → NoneHolds ts) → NoneHolds (t ∷ ts)
    go true h e r = absurd (omega (arith, ltb→lt 0 t.number p))
    go false h e r = more h (r e)

-- the first that holds gives its number
pub first_holds : (before : List Test) (t : Test) (later : List Test) → NoneHolds before → t.holds ≡ true
    → first_of (before ++ t ∷ later) ≡ t.number
first_holds [] t later none h = rw h
first_holds (s ∷ ss) t later (more e es) h = rw e (first_holds ss t later es h)

-- of two tables, one behind the other
pub first-behind : (xs ys : List Test) → NoneHolds xs → first_of (xs ++ ys) ≡ first_of ys
first-behind [] ys none = refl
first-behind (t ∷ xs) ys (more h hs) = rw h (first-behind xs ys hs)

pub first-before : (xs ys : List Test) → (first_of xs ≡ 0 → ⊥) → first_of (xs ++ ys) ≡ first_of xs
first-before [] ys h = absurd (h refl)
first-before (t ∷ xs) ys h = go t.holds h (first-before xs ys)
  where
    go : (b : Bool) → (cond b t.number (first_of xs) ≡ 0 → ⊥) → ((first_of xs ≡ 0 → ⊥) → first_of (xs ++ ys) ≡ first_of xs)
        → cond b t.number (first_of (xs ++ ys)) ≡ cond b t.number (first_of xs)
    go true h r = refl
    go false h r = r h

-- what is computed is what is said of it
pub is-first : (ts : List Test) → IsFirst ts (first_of ts)
is-first [] = refusals.none
is-first (t ∷ ts) = go t.holds refl (is-first ts)
  where
    go : (b : Bool) → t.holds ≡ b → IsFirst ts (first_of ts) → IsFirst (t ∷ ts) (cond b t.number (first_of ts))
    go true h r = refusals.this h
    go false h r = refusals.behind h r

-- ---- a call that is refused by a table, or gives `given`

module _ {S L : Type 0} (tests : List Test) (s : S) (lent : L) (given : Outcome S L) where
  pub not-refused : first_of tests ≡ 0 → unless_refused tests s lent given ≡ given
  not-refused e = rw e

  pub is-refused : (n : ℕ) → n ≡ first_of tests → (n ≡ 0 → ⊥) → refused n s lent ≡ unless_refused tests s lent given
  is-refused n e h = rw (← e, ne_eqb n 0 h)

  -- what holds of every refusal, and of what is given if none of the tests holds
  pub refused_or : (P : Outcome S L → Type 0) → ((n : ℕ) → P (refused (suc n) s lent)) → (first_of tests ≡ 0 → P given)
      → P (unless_refused tests s lent given)
  refused_or P refuses gives = go (first_of tests) gives
    where
      go : (n : ℕ) → (n ≡ 0 → P given) → P (cond (eqb n 0) given (refused n s lent))
      go zero g = g refl
      go (suc n) g = rw (eqb-suc-zero n) (refuses n)

  -- what a call answers after its check by the tests: the reason that the check gave, or what it gives
  pub answer_refused : (r : Refusal) → number_of r ≡ first_of tests → outcome (as_answer (Err r)) s lent ≡ unless_refused tests s lent given
  answer_refused r e = is-refused (number_of r) e (numbered r)

  pub answer_given : 0 ≡ first_of tests → (n : ℕ) (t : S) (now : L) → outcome (as_answer (Ok n)) t now ≡ given
      → outcome (as_answer (Ok n)) t now ≡ unless_refused tests s lent given
  answer_given e n t now g = g ∙ sym (not-refused (sym e))

module _ {S A : Type 0} (tests : List Test) (s : S) (lent : List A) where
  -- the same where a list fills the front of the lent one
  pub answer_accepted : 0 ≡ first_of tests → (t : S) (xs : List A) (n : ℕ) (now : List A) → n ≡ length xs → now ≡ over xs lent
      → outcome (as_answer (Ok n)) t now ≡ unless_refused tests s lent (accepted t xs lent)
  answer_accepted e t xs n now en el =
      answer_given tests s lent (accepted t xs lent) e n t now (λ i. record { number = 0; count = en i; state = t; lent = el i })
