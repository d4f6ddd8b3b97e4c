-- The windows that the code takes from the head and the block: one ends with each sample, and where the code finds it. And that the head
-- which the code makes holds those that begin before the block.
-- Assumes nothing.
use Rattle.std.proofs.Common.{rules}
use mathlib.Core.Path.{◌≡◌, sym, ap, ◌∙◌}
use mathlib.Core.Bool.{true}
use mathlib.Core.List.{List, ◌++◌}
use mathlib.Mathlib.Data.Bool.Basic.{and_intro}
use Prim.Native.Nat.{ℕ, ◌+◌, ◌-◌, ◌<◌, ◌≤◌, min}
use native.Mathlib.Omega.{arith}
use lib.IntN.{ℤ}
use lib.ListN.{length, take, drop, length-append, length-drop}
use lib.Seq.{length-take-le, take_at, drop-drop, take-append-add, drop-append-le, drop-append-add}
use Rattle.std.proofs.lemmas.List.{drop-take}
use Rattle.integers.proofs.Lists.{same_front}
use Rattle.tones.specs.Samples.{are_samples}
use Rattle.tones.proofs.Samples.{samples_append, samples-take, samples-drop}
use Rattle.receiver.specs.declared.source.Source.{Source}
use Rattle.receiver.specs.Weighed.{decision_by, recorded, IsSource, unjudged, judged}
use Rattle.receiver.specs.AsCoded.{decisions_in}
use Rattle.receiver.proofs.Windows.{length-decisions, decisions-at}

-- ---- the windows

module _ (s : Source) where
  abbrev xs : List ℤ
  xs = s.samples.now

  abbrev all : List ℤ
  all = recorded s.head xs

  before : length (take 31 (drop 1 s.head)) ≡ 31
  before = length-take-le 31 (drop 1 s.head) (omega (arith, length-drop 1 s.head, s.sound.long))

  all-long : length all ≡ 31 + length xs
  all-long = length-append (take 31 (drop 1 s.head)) xs ∙ ap (λ (n : ℕ). n + length xs) before

  -- one ends with each sample
  pub window_each : length (decisions_in s) ≡ length xs
  window_each = omega (arith, length-decisions (decision_by s.bank) all, all-long)

  -- it is found in the head, or in the block
  pub window-begun : (i : ℕ) → i < 31 → i < length xs → take (i + 33 - (i + 1)) (drop (i + 1) s.head) ≡ take 32 (drop i all)
  window-begun i h l = search rules

  pub window-whole : (i : ℕ) → 31 ≤ i → take (i + 1 - (i - 31)) (drop (i - 31) xs) ≡ take 32 (drop i all)
  window-whole i h =
      let e : i + 1 - (i - 31) ≡ 32 = omega arith in
      let f : i ≡ 31 + (i - 31) = omega arith in
      ap (λ (n : ℕ). take n (drop (i - 31) xs)) e
      ∙ sym (ap (λ (n : ℕ). take 32 (drop n all)) f ∙ ap (take 32) (rw before at (drop-append-add (take 31 (drop 1 s.head)) xs (i - 31))))

  -- there it is judged
  module _ (i : ℕ) (l : i < length (decisions_in s)) (window : List ℤ) (e : window ≡ take 32 (drop i all)) where
    pub window-samples : are_samples window ≡ true
    window-samples = rw e (samples-take 32 (drop i all) (samples-drop i all s.sound.inside))

    pub window-judged : decision_by s.bank window ≡ judged (decisions_in s) i
    window-judged =
        ap (decision_by s.bank) e ∙ sym (decisions-at (decision_by s.bank) i all unjudged (omega (arith, window_each, all-long)))

-- ---- the head: a window, with the first n samples behind it

module _ (window xs head : List ℤ) (e : let n : ℕ = min (length xs) 31 in take (32 + n) head ≡ window ++ take n xs)
    (wl : length window ≡ 32) (hl : length head ≡ 64) where
  abbrev n : ℕ
  n = min (length xs) 31

  abbrev old : List ℤ
  old = drop 1 window

  old_long : length old ≡ 31
  old_long = omega (arith, length-drop 1 window, wl)

  -- behind its first sample it begins as the old samples and the block do
  head_all : take (31 + n) (drop 1 head) ≡ take (31 + n) (old ++ xs)
  head_all =
      let f : 1 + (31 + n) ≡ 32 + n = omega arith in
      sym (drop-take 1 (31 + n) head)
      ∙ ap (λ (k : ℕ). drop 1 (take k head)) f
      ∙ ap (drop 1) e
      ∙ drop-append-le 1 window (take n xs) (rw wl (omega arith))
      ∙ sym (rw old_long at (take-append-add old xs n))

  pub head_recorded : recorded head xs ≡ old ++ xs
  head_recorded = ap (λ (l : List ℤ). l ++ xs) (same_front 31 (31 + n) (drop 1 head) (old ++ xs) head_all (omega arith) ∙ take_at old xs 31 old_long)

  begun : (i : ℕ) → i < 31 → i < length xs → take 32 (drop (i + 1) head) ≡ take 32 (drop i (recorded head xs))
  begun i b l =
      let f : i + 1 ≡ 1 + i = omega arith in
      ap (λ (k : ℕ). take 32 (drop k head)) f
      ∙ ap (take 32) (sym (drop-drop i 1 head))
      ∙ sym (drop-take i 32 (drop 1 head))
      ∙ ap (drop i) (same_front (i + 32) (31 + n) (drop 1 head) (old ++ xs) head_all (omega arith))
      ∙ drop-take i 32 (old ++ xs)
      ∙ ap (λ (l : List ℤ). take 32 (drop i l)) (sym head_recorded)

  pub head_source : are_samples window ≡ true → are_samples xs ≡ true → IsSource head xs
  head_source a b =
      record {
        inside = ap are_samples head_recorded ∙ samples_append old xs ∙ and_intro (samples-drop 1 window a) b;
        long = hl;
        begun = begun;
      }
