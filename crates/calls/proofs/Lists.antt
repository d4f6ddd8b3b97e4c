-- Lists of calls: refused calls drop out, and the accepted ones do what one run over their joined inputs does. Proved once for
-- every kind of call and of lent memory: the run is a machine inside the list of calls.
-- Assumes nothing.
use mathlib.Core.Path.{◌≡◌, refl, sym, ap, ap₂, ◌∙◌}
use mathlib.Core.Bool.{Bool, true, false, cond}
use mathlib.Core.List.{List, [], ◌∷◌, ◌++◌, map}
use Prim.Native.Nat.{ℕ, suc}
use lib.Dec.{eqb-suc-zero}
use lib.ListN.{length, drop, length-map}
use lib.Seq.{take-append_seam}
use Rattle.integers.specs.All.{All, none, more}
use Rattle.calls.specs.Outcome.{Outcome, refused, is_accepted, Lending, accepted_in, front_in, one_list, paired, both_in}
use Rattle.calls.specs.Runs as runs
use Rattle.calls.specs.Lists.{joined, accepted_calls, state_after, each}
use Rattle.calls.proofs.Runs.{RunLaws}
use Rattle.calls.proofs.Simulation.{each_itself, part_after, part_gives}

-- Of lent memory: what was put to its front stands there.
pub record Keeps {L A : Type 0} (lending : Lending L A) : Type 0 where
  pub back : (xs : List A) (lent : L) → lending.first (length xs) (lending.filled xs lent) ≡ xs

pub one_keeps : {A : Type 0} → Keeps (one_list {A = A})
one_keeps = record { back = λ xs lent. take-append_seam xs (drop (length xs) lent) }

module _ {A B : Type 0} where
  pub paired_sides : (xs : List (A × B)) → paired (map (λ (x : A × B). x.0) xs) (map (λ (x : A × B). x.1) xs) ≡ xs
  unfolding paired
  paired_sides [] = refl
  paired_sides (x ∷ xs) = ap (λ (l : List (A × B)). x ∷ l) (paired_sides xs)

  pub both_keep : {L M : Type 0} {l : Lending L A} {m : Lending M B} → Keeps l → Keeps m → Keeps (both_in l m)
  both_keep k n =
      record {
        back = λ xs lent.
            ap₂ paired (rw (length-map xs (λ (x : A × B). x.0)) at (k.back (map (λ (x : A × B). x.0) xs) lent.0))
            (rw (length-map xs (λ (x : A × B). x.1)) at (n.back (map (λ (x : A × B). x.1) xs) lent.1))
            ∙ paired_sides xs;
      }

-- the inputs that a call takes: none if it is refused
abbrev pub taken : {S I L : Type 0} → Outcome S L → List I → List I
taken o inputs = cond (is_accepted o) inputs []

-- The list of calls is a machine, and the run over the inputs of the accepted ones is the machine inside it.
module _ {S I L C B : Type 0} (rule : S → C → Outcome S L) (inputs : C → List I) {after : S → List I → S} {gives : S → List I → List B}
    (run : RunLaws after gives) (moves : (s : S) (c : C) → (rule s c).state ≡ after s (taken (rule s c) (inputs c))) where
  -- the inputs of the accepted calls
  abbrev pub inputs_in : S → List C → List I
  inputs_in = joined rule (λ o c. inputs c)

  pub joined_moves : (s : S) (cs : List C) → state_after rule s cs ≡ after s (inputs_in s cs)
  joined_moves = part_after (λ s c. (rule s c).state) run (λ s. s) (λ s c. taken (rule s c) (inputs c)) moves

  -- what is picked of each outcome is what the run gives
  pub joined_picked : (pick : Outcome S L → List B)
      → ((s : S) (c : C) → cond (is_accepted (rule s c)) (pick (rule s c)) [] ≡ gives s (taken (rule s c) (inputs c)))
      → (s : S) (cs : List C) → joined rule (λ o c. pick o) s cs ≡ gives s (inputs_in s cs)
  joined_picked pick shows s cs =
      sym (each_itself (joined rule (λ o c. pick o) s cs))
      ∙ part_gives (λ s c. (rule s c).state) run (λ s. s) (λ s c. taken (rule s c) (inputs c)) moves
      (λ s c. cond (is_accepted (rule s c)) (pick (rule s c)) []) (λ a. a ∷ [])
      (λ s c. each_itself (cond (is_accepted (rule s c)) (pick (rule s c)) []) ∙ shows s c) s cs

module _ {S I L A : Type 0} {lending : Lending L A} (keeps : Keeps lending)
    {after : S → List I → S} {gives : S → List I → List A} (run : RunLaws after gives) where
  -- A call that runs over its inputs if it is accepted, and does nothing if it is refused.
  pub record IsRun (inputs : List I) (s : S) (o : Outcome S L) : Type 0 where
    pub moves : o.state ≡ after s (taken o inputs)
    pub shows : cond (is_accepted o) (front_in lending o) [] ≡ gives s (taken o inputs)

  pub refused-run : (n : ℕ) (s : S) (inputs : List I) (lent : L) → IsRun inputs s (refused (suc n) s lent)
  refused-run n s inputs lent =
      record { moves = rw (eqb-suc-zero n) (sym (run.after_none s)); shows = rw (eqb-suc-zero n) (sym (run.gives_none s)) }

  pub accepted-run : (s : S) (inputs : List I) (lent : L) → IsRun inputs s (accepted_in lending (after s inputs) (gives s inputs) lent)
  accepted-run s inputs lent = record { moves = refl; shows = keeps.back (gives s inputs) lent }

  module _ {C : Type 0} (rule : S → C → Outcome S L) (inputs : C → List I) (law : (s : S) (c : C) → IsRun (inputs c) s (rule s c)) where
    pub joined-state : (s : S) (cs : List C) → state_after rule s cs ≡ after s (inputs_in rule inputs run (λ s c. (law s c).moves) s cs)
    joined-state = joined_moves rule inputs run (λ s c. (law s c).moves)

    pub joined-front : (s : S) (cs : List C)
        → joined rule (λ o c. front_in lending o) s cs ≡ gives s (inputs_in rule inputs run (λ s c. (law s c).moves) s cs)
    joined-front = joined_picked rule inputs run (λ s c. (law s c).moves) (front_in lending) (λ s c. (law s c).shows)

-- what is picked of the calls alone is picked of each accepted one
module _ {S L C B : Type 0} (rule : S → C → Outcome S L) (f : C → List B) where
  pub joined-each : (s : S) (cs : List C) → joined rule (λ o c. f c) s cs ≡ each f (accepted_calls rule s cs)
  unfolding runs.gives
  joined-each s [] = refl
  joined-each s (c ∷ cs) = one (is_accepted (rule s c)) (accepted_calls rule (rule s c).state cs) (joined-each (rule s c).state cs)
    where
      one : (b : Bool) (m : List C) {l : List B} → l ≡ each f m → cond b (f c) [] ++ l ≡ each f (cond b (c ∷ []) [] ++ m)
      one true m e = ap (λ (l : List B). f c ++ l) e
      one false m e = e

-- an accepted call that gives a state with P
pub record Accepts {S L : Type 0} (P : S → Type 0) (o : Outcome S L) : Type 0 where
  pub yes : is_accepted o ≡ true
  pub kept : P o.state

-- from a state with P every call with Q is accepted
module _ {S L C : Type 0} (rule : S → C → Outcome S L) (P : S → Type 0) (Q : C → Type 0)
    (one : (s : S) (c : C) → P s → Q c → Accepts P (rule s c)) where
  pub all_accepted : (cs : List C) → All Q cs → (s : S) → P s → accepted_calls rule s cs ≡ cs
  unfolding runs.gives
  all_accepted [] none s p = refl
  all_accepted (c ∷ cs) (more q qs) s p =
      let a = one s c p q in
      rw a.yes (ap (λ (l : List C). c ∷ l) (all_accepted cs qs (rule s c).state a.kept))
