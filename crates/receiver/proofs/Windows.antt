-- The decisions of a list of samples, and the step rule by them: reading samples is following the decisions at the windows that they
-- complete.
-- Assumes nothing.
use mathlib.Core.Path.{◌≡◌, refl, sym, ap, ◌∙◌}
use mathlib.Core.List.{List, [], ◌∷◌, ◌++◌, append-nil}
use Prim.Native.Nat.{ℕ, zero, suc, ◌+◌, ◌-◌, ◌<◌, ◌≤◌}
use native.Mathlib.Omega.{arith}
use borrow.Author.Tests.{lt-ltb, le-ltb}
use lib.IntN.{ℤ}
use lib.ListN.{length, get_or, take, drop, length-append, length-drop}
use lib.Seq.{take_at, append_snoc, drop-append-le, drop-drop}
use Rattle.integers.proofs.Tests.{lt_or_le}
use Rattle.calls.specs.Runs.{after, gives, indexed, with_index}
use Rattle.calls.proofs.Indexed.{values, indexed_values}
use Rattle.tones.specs.Bands.{tones_of}
use Rattle.control.specs.declared.Decision.{Decision}
use Rattle.control.specs.Rules.{control_after, reported, follow, reports}
use Rattle.quality.specs.declared.Tracked.{Tracked}
use Rattle.quality.specs.Quality.{tracked_after, measured, track, measures, measures_from}
use Rattle.quality.proofs.Laws.{control_part}
use Rattle.receiver.specs.declared.Receiver.{Receiver}
use Rattle.receiver.specs.Energy.{decision_of}
use Rattle.receiver.specs.Step.{control_of, tracked_of, entered, decision_at, after_sample, events_at, measured_at, state_after, events_after, measured_after}
use Rattle.receiver.specs.Windows.{decisions, decisions_of}

length-entered : (window : List ℤ) (x : ℤ) → length window ≡ 32 → length (entered window x) ≡ 32
length-entered window x e = omega (arith, length-append (drop 1 window) (x ∷ []), length-drop 1 window)

-- ---- the decisions of a list

module _ (decide : List ℤ → Decision) where
  pub decisions-none : (zs : List ℤ) → length zs < 32 → decisions decide zs ≡ []
  unfolding decisions
  decisions-none [] h = refl
  decisions-none (z ∷ zs) h = rw (lt-ltb (length zs) 31 (omega arith))

  pub decisions-more : (zs : List ℤ) → 32 ≤ length zs → decisions decide zs ≡ decide (take 32 zs) ∷ decisions decide (drop 1 zs)
  unfolding decisions
  decisions-more [] h = absurd (omega arith)
  decisions-more (z ∷ zs) h = rw (le-ltb (length zs) 31 (omega arith))

  pub length-decisions : (zs : List ℤ) → length (decisions decide zs) ≡ length zs - 31
  unfolding decisions
  length-decisions [] = refl
  length-decisions (z ∷ zs) =
      lt_or_le (length zs) 31
      (λ h. rw (lt-ltb (length zs) 31 h) (omega arith))
      (λ h. rw (le-ltb (length zs) 31 h) (omega (arith, length-decisions zs)))

  -- the decision at place i is that of the 32 samples from i on
  pub decisions-at : (i : ℕ) (zs : List ℤ) (d : Decision) → i + 32 ≤ length zs → get_or (decisions decide zs) i d ≡ decide (take 32 (drop i zs))
  decisions-at zero zs d h = rw (decisions-more zs (omega arith))
  decisions-at (suc i) [] d h = absurd (omega arith)
  decisions-at (suc i) (z ∷ zs) d h = rw (decisions-more (z ∷ zs) (omega arith)) (decisions-at i zs d (omega arith))

  -- a sample enters a window
  decisions-entered : (window : List ℤ) (x : ℤ) (xs : List ℤ) → length window ≡ 32
      → decisions decide (drop 1 window ++ x ∷ xs) ≡ decide (entered window x) ∷ decisions decide (drop 1 (entered window x) ++ xs)
  decisions-entered window x xs e =
      let l : length (entered window x) ≡ 32 = length-entered window x e in
      ap (decisions decide) (sym (append_snoc (drop 1 window) x xs))
      ∙ decisions-more (entered window x ++ xs) (omega (arith, length-append (entered window x) xs))
      ∙ ap (λ (w : List ℤ). decide w ∷ decisions decide (drop 1 (entered window x ++ xs))) (take_at (entered window x) xs 32 l)
      ∙ ap (λ (w : List ℤ). decide (entered window x) ∷ decisions decide w) (drop-append-le 1 (entered window x) xs (omega arith))

-- ---- the step rule

-- run and stage move as they do without the differences
pub control-sample : (s : Receiver) (x : ℤ) → control_of (after_sample s x) ≡ control_after (control_of s) (decision_at s x)
unfolding after_sample tracked_after
control-sample s x = refl

-- the decisions at the windows that the samples xs complete
abbrev pub decisions_over : Receiver → List ℤ → List Decision
decisions_over s xs = decisions_of s.band (drop 1 s.window ++ xs)

pub record ByWindows (s : Receiver) (xs : List ℤ) : Type 0 where
  pub control : control_of (state_after s xs) ≡ follow (control_of s) (decisions_over s xs)
  pub events : events_after s xs ≡ reports (control_of s) (decisions_over s xs)
  pub tracked : tracked_of (state_after s xs) ≡ track (tracked_of s) (decisions_over s xs)
  pub indexed : (k : ℕ) → indexed after_sample measured_at k s xs ≡ measures_from k (tracked_of s) (decisions_over s xs)

by_tracked : (s : Receiver) (xs : List ℤ) → length s.window ≡ 32
    → (events_after s xs ≡ reports (control_of s) (decisions_over s xs))
    × ((tracked_of (state_after s xs) ≡ track (tracked_of s) (decisions_over s xs))
    × ((k : ℕ) → indexed after_sample measured_at k s xs ≡ measures_from k (tracked_of s) (decisions_over s xs)))
unfolding after_sample events_at measured_at tracked_after after gives indexed
by_tracked s [] e =
    let none : decisions_over s [] ≡ [] =
    ap (decisions_of s.band) (append-nil (drop 1 s.window))
    ∙ decisions-none (decision_of (tones_of s.band)) (drop 1 s.window) (omega (arith, length-drop 1 s.window)) in
    (ap (reports (control_of s)) (sym none), (ap (track (tracked_of s)) (sym none), λ k. ap (measures_from k (tracked_of s)) (sym none)))
by_tracked s (x ∷ xs) e =
    let more = decisions-entered (decision_of (tones_of s.band)) s.window x xs e in
    let rest = by_tracked (after_sample s x) xs (length-entered s.window x e) in (
      ap (λ (l : List ℕ). reported (control_of s) (decision_at s x) ++ l) rest.0 ∙ ap (reports (control_of s)) (sym more),
      (
        rest.1.0 ∙ ap (track (tracked_of s)) (sym more),
        λ k.
            ap (λ (l : List ((ℕ × ℤ) × ℕ)). with_index k (measured (tracked_of s) (decision_at s x)) ++ l) (rest.1.1 (k + 1))
            ∙ ap (measures_from k (tracked_of s)) (sym more),
      ),
    )

pub by_windows : (s : Receiver) (xs : List ℤ) → length s.window ≡ 32 → ByWindows s xs
by_windows s xs e =
    let t = by_tracked s xs e in
    record {
      control = ap (λ (u : Tracked). u.control) t.1.0 ∙ control_part (tracked_of s) (decisions_over s xs);
      events = t.0;
      tracked = t.1.0;
      indexed = t.1.1;
    }

-- the events with their differences
pub measured_windows : (s : Receiver) (xs : List ℤ) → length s.window ≡ 32 → measured_after s xs ≡ measures (tracked_of s) (decisions_over s xs)
measured_windows s xs e =
    sym (indexed_values after_sample measured_at 0 s xs)
    ∙ ap values ((by_windows s xs e).indexed 0)
    ∙ indexed_values tracked_after measured 0 (tracked_of s) (decisions_over s xs)

pub band-after : (s : Receiver) (xs : List ℤ) → (state_after s xs).band ≡ s.band
unfolding after after_sample
band-after s [] = refl
band-after s (x ∷ xs) = band-after (after_sample s x) xs

-- the window after the samples is the end of the old one and the samples
pub window-after : (s : Receiver) (xs : List ℤ) → length s.window ≡ 32 → (state_after s xs).window ≡ drop (length xs) (s.window ++ xs)
unfolding after after_sample
window-after s [] e = sym (append-nil s.window)
window-after s (x ∷ xs) e =
    let one : 1 + length xs ≡ suc (length xs) = omega arith in
    window-after (after_sample s x) xs (length-entered s.window x e)
    ∙ ap (drop (length xs)) (append_snoc (drop 1 s.window) x xs ∙ sym (drop-append-le 1 s.window (x ∷ xs) (omega arith)))
    ∙ drop-drop (length xs) 1 (s.window ++ x ∷ xs)
    ∙ ap (λ (n : ℕ). drop n (s.window ++ x ∷ xs)) one
