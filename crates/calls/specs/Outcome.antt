-- What a call on a state gives, accepted or refused: the specification, "Refused calls". Every such call is one definition with an
-- outcome as its value, and a contract equates that with what the code returned and left.
-- Assumes nothing.
use Rattle.std.specs.Prelude.{Bool, cond, List, [], ◌∷◌, ◌++◌, map, ℕ, eqb, length, take, drop, Result, Ok, Err}
use Rattle.calls.specs.declared.Refusal.{Refusal}
use Rattle.calls.specs.declared.Answer.{Answer}
use Rattle.calls.specs.declared.Answered.{Answered}
use Rattle.calls.specs.Refusals.{number_of, refusal_number, Test, first_of}

-- the number (0: accepted), the count of places used, the next state, and the lent memory as it stands on return: a list, several, or
-- none
pub record Outcome (S L : Type 0) : Type 0 where
  pub number : ℕ
  pub count : ℕ
  pub state : S
  pub lent : L

-- what a call answers, where the two numbers are given apart
abbrev pub answer_of : ℕ → ℕ → Answer
answer_of number count = record { number = number; count = count }

-- what it answers where it gives a count or a refusal
abbrev pub as_answer : Result ℕ Refusal → Answer
as_answer (Ok count) = answer_of 0 count
as_answer (Err r) = answer_of (number_of r) 0

-- what an opening gives: the number and a fresh state
pub record Opening (S : Type 0) : Type 0 where
  pub number : ℕ
  pub state : S

module _ {S : Type 0} where
  -- the same, where the code gives the two apart, and where it gives a refusal in place of a number
  abbrev pub opening_of : ℕ → S → Opening S
  opening_of number state = record { number = number; state = state }

  abbrev pub opened : Answered S Unit → Opening S
  opened r = opening_of (refusal_number r.answer) r.state

-- a list over the front of another one, whose places behind are untouched
abbrev pub over : {A : Type 0} → List A → List A → List A
over xs lent = xs ++ drop (length xs) lent

module _ {S L : Type 0} where
  -- refused with a number: count 0, the state as handed, no lent place changed
  abbrev pub refused : ℕ → S → L → Outcome S L
  refused n s lent = record { number = n; count = 0; state = s; lent = lent }

  -- what the code answered, the state that it gave and what it left in the lent memory, as an outcome
  abbrev pub outcome : Answer → S → L → Outcome S L
  outcome a s lent = record { number = a.number; count = a.count; state = s; lent = lent }

  -- accepted is what has the number 0
  abbrev pub is_accepted : Outcome S L → Bool
  is_accepted o = eqb o.number 0

  -- `given` if no test of the table holds, and else refused with the number of the first that does
  abbrev pub unless_refused : List Test → S → L → Outcome S L → Outcome S L
  unless_refused tests s lent given = cond (eqb (first_of tests) 0) given (refused (first_of tests) s lent)

-- ---- lent memory that a call fills from its front on

-- what it holds with a list put to its front, and what its first n places hold
pub record Lending (L A : Type 0) : Type 0 where
  pub filled : List A → L → L
  pub first : ℕ → L → List A

module _ {S L A : Type 0} (lending : Lending L A) where
  -- accepted: the list xs fills the front, and the places behind it are untouched
  abbrev pub accepted_in : S → List A → L → Outcome S L
  accepted_in s xs lent = record { number = 0; count = length xs; state = s; lent = lending.filled xs lent }

  -- the places at the front that the count covers, as they stand on return
  abbrev pub front_in : Outcome S L → List A
  front_in o = lending.first o.count o.lent

-- one list
abbrev pub one_list : {A : Type 0} → Lending (List A) A
one_list = record { filled = over; first = take }

module _ {S A : Type 0} where
  abbrev pub accepted : S → List A → List A → Outcome S (List A)
  accepted = accepted_in one_list

  abbrev pub front : Outcome S (List A) → List A
  front = front_in one_list

-- two at once, filled place by place with the two sides of pairs
unfoldable pub paired : {A B : Type 0} → List A → List B → List (A × B)
paired [] ys = []
paired (x ∷ xs) [] = []
paired (x ∷ xs) (y ∷ ys) = (x, y) ∷ paired xs ys

abbrev pub both_in : {L M A B : Type 0} → Lending L A → Lending M B → Lending (L × M) (A × B)
both_in {A = A} {B} l m =
    record {
      filled = λ xs lent. (l.filled (map (λ (x : A × B). x.0) xs) lent.0, m.filled (map (λ (x : A × B). x.1) xs) lent.1);
      first = λ n lent. paired (l.first n lent.0) (m.first n lent.1);
    }
