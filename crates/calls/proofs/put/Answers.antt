-- `calls::put` meets its contract: as many items as have a place are copied, and to store the others would do nothing.
-- Assumes nothing.
use mathlib.Core.Path.{◌≡◌, sym, ap, ◌∙◌}
use mathlib.Core.List.{List, ◌++◌, append_assoc}
use Prim.Native.Nat.{ℕ, ◌+◌, ◌-◌, ◌<◌, min}
use native.Mathlib.Omega.{arith}
use borrow.Rule.Slice.PartMut.{put_mid}
use lib.ListN.{length, take, drop, length-take, take-append-drop, drop_of_length-le}
use lib.Seq.{sets, sets-eq, length-sets, drop-drop}
use Rattle.integers.proofs.Tests.{lt_or_le}
use Rattle.integers.proofs.Lists.{sets_append, sets_out}
use Rattle.calls.proofs.put.Goals as goal

module _ {A : Type 0} (old xs : List A) (at n : ℕ) (lt : at < length old) (e : n ≡ min (length xs) (length old - at)) where
  long : length (take n xs) ≡ n
  long = omega (arith, length-take n xs)

  -- items that have no place
  others : sets (sets old at (take n xs)) (at + length (take n xs)) (drop n xs) ≡ sets old at (take n xs)
  others =
      let l = length-sets old at (take n xs) in
      let there = sets_out (sets old at (take n xs)) (at + length (take n xs)) (drop n xs) in
      lt_or_le n (length xs) (λ h. there (omega (arith, long))) (λ h. ap (sets (sets old at (take n xs)) (at + length (take n xs))) (drop_of_length-le xs {i = n} h))

  copied : (k : ℕ) → k ≡ n → put_mid at k old (take n xs) ≡ sets old at xs
  copied k ek =
      let m : k ≡ length (take n xs) = omega (arith, long) in
      ap (λ (l : List A). take at old ++ (take n xs ++ l)) (drop-drop k at old ∙ ap (λ (j : ℕ). drop (at + j) old) m)
      ∙ sym (sets-eq (take n xs) old at (omega (arith, long)) ∙ append_assoc (take at old) (take n xs) (drop (at + length (take n xs)) old))
      ∙ sym others
      ∙ sym (sets_append old at (take n xs) (drop n xs))
      ∙ ap (sets old at) (take-append-drop n xs)

pub returns-then-at-out : goal.returns-then-at-out
returns-then-at-out g c =
    let a = c.args in
    let n = c.min-n.result in
    let k = a.at + n - a.at in
    let same : k ≡ n = omega arith in
    ap (put_mid a.at k a.out.now) c.copy_from_slice.ensures.after ∙ copied a.out.now a.items.now a.at n c.if-at-out.true c.min-n.ensures k same

pub returns-else-at-out : goal.returns-else-at-out
returns-else-at-out g c = sym (sets_out c.args.out.now c.args.at c.args.items.now c.if-at-out.false)
