-- What the answer of a call tells: its number decides, and an accepted call's list is the front of the lent one that the count covers.
-- Assumes nothing.
use mathlib.Core.Path.{◌≡◌, refl, sym, ap, ◌∙◌}
use mathlib.Core.Bool.{cond}
use mathlib.Core.List.{List}
use Prim.Native.Nat.{ℕ, zero, suc, ◌≤◌}
use native.Mathlib.Omega.{arith}
use lib.Dec.{eqb, eqb-suc-zero}
use lib.ListN.{length, take, drop, length-append}
use lib.Seq.{take-append_seam}
use Rattle.calls.specs.Refusals.{Test, first_of}
use Rattle.calls.specs.Outcome.{Outcome, refused, unless_refused, accepted, front}

module _ {S A : Type 0} (s : S) (xs lent : List A) where
  -- an accepted call
  module _ (o : Outcome S (List A)) (e : o ≡ accepted s xs lent) where
    pub given-count : o.count ≡ length xs
    given-count = ap (λ (p : Outcome S (List A)). p.count) e

    pub given-front : take o.count o.lent ≡ xs
    given-front = ap front e ∙ take-append_seam xs (drop (length xs) lent)

    pub given_part : o.count ≡ length (take o.count o.lent)
    given_part = given-count ∙ sym (ap length given-front)

    pub given_room : o.count ≤ length o.lent
    given_room =
        omega (arith, given-count, ap (λ (p : Outcome S (List A)). length p.lent) e, length-append xs (drop (length xs) lent))

  -- a call that refuses by a table of tests, and is accepted otherwise
  pub record Answered (number : ℕ) (o : Outcome S (List A)) : Type 0 where
    pub told : o.number ≡ number
    pub kept : (number ≡ 0 → ⊥) → o.lent ≡ lent
    pub given : number ≡ 0 → o ≡ accepted s xs lent

  pub answered : (tests : List Test) (t : S) (o : Outcome S (List A)) → o ≡ unless_refused tests t lent (accepted s xs lent)
      → Answered (first_of tests) o
  answered tests t o e = rw e (go (first_of tests))
    where
      go : (n : ℕ) → Answered n (cond (eqb n 0) (accepted s xs lent) (refused n t lent))
      go zero = record { told = refl; kept = λ h. absurd (h refl); given = λ h. refl }
      go (suc n) = rw (eqb-suc-zero n) (record { told = refl; kept = λ h. refl; given = λ h. absurd (omega arith) })
