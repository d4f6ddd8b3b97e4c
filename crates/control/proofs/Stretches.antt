-- Stretches of decisions of which most do not count: the run over a list, and decisions that end no search.
-- Assumes nothing.
use mathlib.Core.Path.{◌≡◌}
use mathlib.Core.Bool.{Bool, false, and-false, beq}
use mathlib.Core.List.{List, [], ◌∷◌, ◌++◌}
use Prim.Native.Nat.{ℕ, ◌+◌, ◌≤◌}
use native.Mathlib.Omega.{arith}
use borrow.Author.Tests.{ne_eqb}
use lib.Dec.{eqb}
use lib.ListN.{length}
use Rattle.std.proofs.Common.{rules}
use Rattle.calls.specs.Runs.{after}
use Rattle.calls.proofs.Runs.{run_laws}
use Rattle.control.specs.declared.Decision.{Decision}
use Rattle.control.specs.Rules.{run_after}
use Rattle.control.specs.AsCoded.{is_found, run_over, NoneFound}
use Rattle.control.proofs.Ranges.{run_kept}

-- ---- the run

pub run_append : (run : ℕ) (ds es : List Decision) → run_over run (ds ++ es) ≡ run_over (run_over run ds) es
run_append = (run_laws {A = ℕ} (λ (run : ℕ) (d : Decision). run_after run d.good) (λ (run : ℕ) (d : Decision). [])).after_append

pub run-low : (run : ℕ) (ds : List Decision) → run ≤ 32 → run_over run ds ≤ 32
unfolding after
run-low run [] h = h
run-low run (d ∷ ds) h = run-low (run_after run d.good) ds (run_kept run d.good)

pub one_more : (run : ℕ) (good : Bool) → run_after run good ≤ run + 1
one_more run good = search rules

-- it grows by at most 1 with each
pub run_slow : (run : ℕ) (ds : List Decision) → run_over run ds ≤ run + length ds
unfolding after
run_slow run [] = omega arith
run_slow run (d ∷ ds) = omega (arith, run_slow (run_after run d.good) ds, one_more run d.good)

-- ---- decisions that end no search

pub found_short : (space : Bool) (run : ℕ) (d : Decision) → (run ≡ 32 → ⊥) → is_found space run d ≡ false
found_short space run d h = rw (ne_eqb run 32 h)

pub found_other : (space : Bool) (run : ℕ) (d : Decision) → beq d.space space ≡ false → is_found space run d ≡ false
found_other space run d h = rw h (and-false (eqb run 32))

-- the run cannot be 32 before so many
pub none_short : (space : Bool) (run : ℕ) (ds : List Decision) → run + length ds ≤ 31 → NoneFound space run ds
unfolding NoneFound
none_short space run [] h = tt
none_short space run (d ∷ ds) h =
    let l : run_after run d.good ≤ run + 1 = one_more run d.good in
    (found_short space (run_after run d.good) d (λ e. omega arith), none_short space (run_after run d.good) ds (omega arith))

module _ (space : Bool) (d : Decision) where
  -- one more behind them
  pub none_more : (run : ℕ) (ds : List Decision) → NoneFound space run ds → is_found space (run_over run (ds ++ d ∷ [])) d ≡ false
      → NoneFound space run (ds ++ d ∷ [])
  unfolding NoneFound after
  none_more run [] h f = (f, tt)
  none_more run (e ∷ ds) h f = (h.0, none_more (run_after run e.good) ds h.1 f)

  -- the last, and those before it
  pub none_last : (run : ℕ) (ds : List Decision) → NoneFound space run (ds ++ d ∷ [])
      → NoneFound space run ds × (is_found space (run_over run (ds ++ d ∷ [])) d ≡ false)
  unfolding NoneFound after
  none_last run [] h = (tt, h.0)
  none_last run (e ∷ ds) h = let l = none_last (run_after run e.good) ds h.1 in ((h.0, l.0), l.1)
