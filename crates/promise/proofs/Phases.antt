-- The parts of a recording around the characters: what run and stage keep in each, and that every decision keeps it. From the case
-- laws of `control`.
-- Assumes nothing.
use mathlib.Core.Path.{◌≡◌, refl, ◌∙◌}
use mathlib.Core.Bool.{true, false, cond}
use mathlib.Core.List.{List, []}
use Prim.Native.Nat.{ℕ, zero, suc, ◌+◌, ◌≤◌, ◌<◌, min}
use native.Mathlib.Omega.{arith}
use Rattle.integers.proofs.Tests.{lt_or_le, cond_case}
use Rattle.control.specs.declared.Decision.{Decision}
use Rattle.control.specs.declared.Asked.TheVariants.{Tone}
use Rattle.control.specs.declared.Stage.{Stage}
use Rattle.control.specs.declared.Stage.TheVariants.{Searching, Waiting}
use Rattle.control.specs.declared.Control.{Control}
use Rattle.control.specs.Rules.{quiet, run_after}
use Rattle.control.specs.AsCoded.{is_found}
use Rattle.control.proofs.Stretches.{one_more}
use Rattle.control.proofs.Rules.{search_short, search_mark, wait_taken, start_weak, asks}
use Rattle.promise.proofs.Steps.{at, Reads, Keeps, moves, quietly, waits}

-- ---- the silence before: nothing happens
pub data Silent (X : List ℕ) (k : ℕ) : Control → List ℕ → Type 0 where
  silent : Silent X k (at 0 Searching) X

pub silent-step : (X : List ℕ) (k : ℕ) (d : Decision) → d.good ≡ false → Keeps (Silent X k) d (Silent X (suc k))
silent-step X k d g s Z silent = moves (at 0 Searching) d 0 (quiet Searching) X (rw g) (search_short 0 d (λ e. omega arith)) refl silent

-- ---- the leader's first bit: the run is too short for a start
pub data FirstBit (X : List ℕ) (k : ℕ) : Control → List ℕ → Type 0 where
  short_run : (run : ℕ) → run ≤ k → FirstBit X k (at run Searching) X

pub first_bit_step : (X : List ℕ) (k : ℕ) → k < 31 → (d : Decision) → Keeps (FirstBit X k) d (FirstBit X (suc k))
first_bit_step X k h d s Z (short_run run l) =
    let after : ℕ = run_after run d.good in
    let most : after ≤ run + 1 = one_more run d.good in
    quietly d Searching Searching (search_short after d (λ e. omega arith)) (short_run after (omega arith))

-- ---- its second bit: the run fills
pub data SecondBit (X : List ℕ) (k : ℕ) : Control → List ℕ → Type 0 where
  growing_run : (run : ℕ) → k ≤ run → run ≤ 32 → SecondBit X k (at run Searching) X

pub second_bit_step : (X : List ℕ) (k : ℕ) → k < 32 → (d : Decision) → Reads d 1 → Keeps (SecondBit X k) d (SecondBit X (suc k))
second_bit_step X k h d r s Z (growing_run run l m) =
    let after : ℕ = run_after run d.good in
    let grown : after ≡ min (run + 1) 32 = rw r.good in
    quietly d Searching Searching (search_mark after d r.space) (growing_run after (omega arith) (omega arith))

-- ---- the silence behind: a start that is found there meets only silence at its slot
pub data AfterTrailer (k : ℕ) : Control → List ℕ → Type 0 where
  still_searching : (run : ℕ) → AfterTrailer k (at run Searching) []
  false_start : (run wait : ℕ) → 1 ≤ wait → 33 ≤ wait + k → AfterTrailer k (at run (Waiting wait 0 0)) []

pub after-trailer-step : (k : ℕ) (d : Decision) → (k ≤ 15 → d.space ≡ false) → (32 ≤ k → d.good ≡ false) → Keeps (AfterTrailer k) d (AfterTrailer (suc k))
after-trailer-step k d at_first afterwards s X (still_searching run) =
    let after : ℕ = run_after run d.good in
    lt_or_le k 16 (λ h. quietly d Searching Searching (search_mark after d (at_first (omega arith))) (still_searching after))
    (λ h.
    quietly d Searching (cond (is_found true after d) (Waiting 16 0 0) Searching) ((asks Searching (Tone true (Waiting 16 0 0)) refl).step after d)
    (cond_case (λ (stage : Stage). AfterTrailer (suc k) (at after stage) []) (is_found true after d) (Waiting 16 0 0) Searching
    (false_start after 16 (omega arith) (omega arith)) (still_searching after)))
after-trailer-step k d at_first afterwards s X (false_start run zero a b) = absurd (omega arith)
after-trailer-step k d at_first afterwards s X (false_start run (suc zero) a b) =
    let after : ℕ = run_after run d.good in
    quietly d (Waiting 1 0 0) Searching (wait_taken after d 1 0 0 refl ∙ start_weak 0 d 0 refl (afterwards (omega arith))) (still_searching after)
after-trailer-step k d at_first afterwards s X (false_start run (suc (suc wait)) a b) =
    waits d (run_after run d.good) refl wait 0 0 (false_start (run_after run d.good) (suc wait) (omega arith) (omega arith))

pub after-trailer_due : {k : ℕ} {s : Control} {X : List ℕ} → AfterTrailer k s X → [] ≡ X
after-trailer_due (still_searching run) = refl
after-trailer_due (false_start run wait a b) = refl
