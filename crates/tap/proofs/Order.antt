-- The events of two receivers, merged by their indices, are those of the tap, sample by sample.
-- Assumes nothing.
use mathlib.Core.Path.{◌≡◌, refl, sym, ap, ap₂, ◌∙◌}
use mathlib.Core.Bool.{true, false}
use mathlib.Core.List.{List, [], ◌∷◌, ◌++◌, map, map-append, append_assoc}
use Prim.Native.Nat.{ℕ, ◌+◌}
use native.Mathlib.Omega.{arith}
use borrow.Author.Tests.{le-leb, lt-leb}
use lib.IntN.{ℤ}
use Rattle.integers.specs.All.{none, more}
use Rattle.integers.proofs.All.{all_append}
use Rattle.calls.specs.Runs.{gives, indexed, with_index}
use Rattle.calls.proofs.Indexed.{values, values_with, From, with_from, from-before, indexed-from}
use Rattle.receiver.specs.declared.Receiver.{Receiver}
use Rattle.receiver.specs.Step as receiver
use Rattle.tap.specs.declared.Tap.{Tap}
use Rattle.tap.specs.Step.{measured_in, after_sample, measured_at, measured_after}
use Rattle.tap.specs.AsCoded.{merged, banded, comes_first}
use Rattle.tap.proofs.Merging.{merged-first, merged-second}

-- ---- what comes with one sample goes before all that comes later

module _ {A : Type 0} where
  goes_first : (k : ℕ) (n : A) (xs zs : List (A × ℕ)) → From k zs → comes_first ((n, k) ∷ xs) zs ≡ true
  goes_first k n xs [] h = refl
  goes_first k n xs (z ∷ zs) (more l hs) = le-leb k z.1 l

  goes_second : (k : ℕ) (n : A) (xs zs : List (A × ℕ)) → From (k + 1) xs → comes_first xs ((n, k) ∷ zs) ≡ false
  goes_second k n [] zs h = refl
  goes_second k n (x ∷ xs) zs (more l hs) = lt-leb x.1 k (omega arith)

  first-events : (k : ℕ) (ns : List A) (xs zs : List (A × ℕ)) → From k zs → merged (with_index k ns ++ xs) zs ≡ with_index k ns ++ merged xs zs
  first-events k [] xs zs h = refl
  first-events k (n ∷ ns) xs zs h =
      merged-first (n, k) (with_index k ns ++ xs) zs (goes_first k n (with_index k ns ++ xs) zs h)
      ∙ ap (λ (l : List (A × ℕ)). (n, k) ∷ l) (first-events k ns xs zs h)

  second-events : (k : ℕ) (ns : List A) (xs zs : List (A × ℕ)) → From (k + 1) xs → merged xs (with_index k ns ++ zs) ≡ with_index k ns ++ merged xs zs
  second-events k [] xs zs h = refl
  second-events k (n ∷ ns) xs zs h =
      merged-second xs (n, k) (with_index k ns ++ zs) (goes_second k n xs (with_index k ns ++ zs) h)
      ∙ ap (λ (l : List (A × ℕ)). (n, k) ∷ l) (second-events k ns xs zs h)

  -- those of the first list, those of the second, and then the later ones
  one_sample : (k : ℕ) (ms ns : List A) (xs ys : List (A × ℕ)) → From (k + 1) xs → From (k + 1) ys
      → values (merged (with_index k ms ++ xs) (with_index k ns ++ ys)) ≡ (ms ++ ns) ++ values (merged xs ys)
  one_sample k ms ns xs ys hx hy =
      ap values
      (first-events k ms xs (with_index k ns ++ ys) (all_append (with_from k ns) (from-before hy))
      ∙ ap (λ (l : List (A × ℕ)). with_index k ms ++ l) (second-events k ns xs ys hx))
      ∙ told ms (with_index k ns ++ merged xs ys)
      ∙ ap (λ (l : List A). ms ++ l) (told ns (merged xs ys))
      ∙ sym (append_assoc ms ns (values (merged xs ys)))
    where
      told : (ls : List A) (zs : List (A × ℕ)) → values (with_index k ls ++ zs) ≡ ls ++ values zs
      told ls zs = map-append (λ (p : A × ℕ). p.0) (with_index k ls) zs ∙ ap (λ (l : List A). l ++ values zs) (values_with k ls)

-- ---- with their bands

abbrev Events : Type 0
Events = List ((ℕ × ℤ) × ℕ)

module _ (band : ℕ) where
  banded_with : (k : ℕ) (es : List (ℕ × ℤ)) → banded band (with_index k es) ≡ with_index k (map (measured_in band) es)
  banded_with k [] = refl
  banded_with k (e ∷ es) = ap (λ (l : Events). (measured_in band e, k) ∷ l) (banded_with k es)

  banded-from : {k : ℕ} {xs : Events} → From k xs → From k (banded band xs)
  banded-from none = none
  banded-from (more {x = x} h hs) = more {x = (measured_in band x.0, x.1)} h (banded-from hs)

  -- what a receiver gives from index k on
  abbrev pub told : ℕ → Receiver → List ℤ → Events
  told k s xs = banded band (indexed receiver.after_sample receiver.measured_at k s xs)

  told-next : (k : ℕ) (s : Receiver) (x : ℤ) (xs : List ℤ)
      → told k s (x ∷ xs) ≡ with_index k (map (measured_in band) (receiver.measured_at s x)) ++ told (k + 1) (receiver.after_sample s x) xs
  unfolding indexed
  told-next k s x xs =
      map-append (λ (e : (ℕ × ℤ) × ℕ). (measured_in band e.0, e.1)) (with_index k (receiver.measured_at s x)) (indexed receiver.after_sample receiver.measured_at (k + 1) (receiver.after_sample s x) xs)
      ∙ ap (λ (l : Events). l ++ told (k + 1) (receiver.after_sample s x) xs) (banded_with k (receiver.measured_at s x))

  told-from : (k : ℕ) (s : Receiver) (xs : List ℤ) → From k (told k s xs)
  told-from k s xs = banded-from (indexed-from receiver.after_sample receiver.measured_at k s xs)

-- ---- the tap

pub in_order : (k : ℕ) (t : Tap) (xs : List ℤ)
    → values (merged (told t.first.band k t.first xs) (told t.second.band k t.second xs)) ≡ measured_after t xs
unfolding gives indexed merged after_sample measured_at receiver.after_sample
in_order k t [] = refl
in_order k t (x ∷ xs) =
    let next : Tap = after_sample t x in
    let one = t.first.band in
    let two = t.second.band in
    ap₂ (λ (l m : Events). values (merged l m)) (told-next one k t.first x xs) (told-next two k t.second x xs)
    ∙ one_sample k (map (measured_in one) (receiver.measured_at t.first x)) (map (measured_in two) (receiver.measured_at t.second x))
    (told one (k + 1) next.first xs) (told two (k + 1) next.second xs)
    (told-from one (k + 1) next.first xs) (told-from two (k + 1) next.second xs)
    ∙ ap (λ (l : List (ℕ × ℤ)). measured_at t x ++ l) (in_order (k + 1) next xs)
