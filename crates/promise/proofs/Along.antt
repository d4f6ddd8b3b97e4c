-- A stretch of windows with an invariant that each of their decisions keeps: the one induction of the promise.
-- Assumes nothing.
use mathlib.Core.Path.{◌≡◌, sym, ap, ◌∙◌, subst}
use mathlib.Core.List.{List, ◌++◌}
use Prim.Native.Nat.{ℕ, zero, suc, ◌+◌, ◌≤◌, ◌<◌}
use native.Mathlib.Numerals.{add-one}
use native.Mathlib.Omega.{arith}
use lib.IntN.{ℤ}
use lib.ListN.{length, take, drop, length-drop}
use lib.Seq.{drop-drop}
use Rattle.integers.specs.Near.{Near}
use Rattle.integers.proofs.Near.{near_length, near_take, near_drop}
use Rattle.calls.specs.Runs.{gives}
use Rattle.control.specs.declared.Decision.{Decision}
use Rattle.control.specs.declared.Control.{Control}
use Rattle.control.specs.Rules.{control_after, reported, reports}
use Rattle.receiver.specs.Windows.{decisions}
use Rattle.receiver.proofs.Windows.{decisions-more}
use Rattle.promise.proofs.Steps.{Invariant, Keeps}

module _ (noise : ℕ) (decide : List ℤ → Decision) where
  -- every disturbed form of the samples gives the events X from the state s on
  abbrev pub Gives : List ℤ → Control → List ℕ → Type 0
  Gives clean s X = (zs : List ℤ) → Near noise clean zs → reports s (decisions decide zs) ≡ X

  -- from every state with P they give what is still to come there
  abbrev pub GivesFrom : Invariant → List ℤ → Type 0
  GivesFrom P clean = (s : Control) (X : List ℕ) → P s X → Gives clean s X

  -- `clean` are the samples from the first window on; its first N windows keep the invariant I, and the rest gives what is due then
  module _ (clean : List ℤ) (N : ℕ) (long : N + 31 ≤ length clean) (I : ℕ → Invariant)
      (step : (k : ℕ) → k < N → (w : List ℤ) → Near noise (take 32 (drop k clean)) w → Keeps (I k) (decide w) (I (suc k)))
      (rest : GivesFrom (I N) (drop N clean)) where
    from : (n k : ℕ) → k + n ≡ N → GivesFrom (I k) (drop k clean)
    unfolding gives
    from zero k e s X i zs h = let q : k ≡ N = omega arith in rest s X (rw q at i) zs (rw q at h)
    from (suc n) k e s X i zs h =
        let l : length (drop k clean) ≡ length zs = near_length h in
        let m = step k (omega arith) (take 32 zs) (near_take 32 h) s X i in
        let d : Decision = decide (take 32 zs) in
        let next : drop 1 (drop k clean) ≡ drop (suc k) clean = drop-drop 1 k clean ∙ ap (λ (i : ℕ). drop i clean) (add-one k) in
        ap (reports s) (decisions-more decide zs (omega (arith, length-drop k clean)))
        ∙ ap (λ (es : List ℕ). reported s d ++ es)
        (from n (suc k) (omega arith) (control_after s d) m.due m.holds (drop 1 zs)
        (subst (λ (c : List ℤ). Near noise c (drop 1 zs)) next (near_drop 1 h)))
        ∙ sym m.split

    pub along : GivesFrom (I 0) clean
    along = from N 0 (omega arith)
