-- The two short lists that the code makes of a block: the head, which joins the old window and the first samples, and the last
-- window. From the laws of stores.
-- Assumes nothing.
use Rattle.std.proofs.lemmas.Grind.{common_steps}
use mathlib.Core.Path.{◌≡◌, sym, ap, ap₂, ◌∙◌}
use mathlib.Core.List.{List, ◌++◌, append-nil}
use Prim.Native.Nat.{ℕ, ◌+◌, ◌-◌, min}
use native.Mathlib.Omega.{arith}
use borrow.Rule.Slice.PartMut.{put_mid}
use lib.IntN.{ℤ}
use lib.ListN.{length, take, drop, length-append, length-drop, drop_of_length-le}
use lib.Seq.{length-take-le, take_all, take_at, drop-append-le, drop-append-add}
use Rattle.integers.proofs.Tests.{lt_or_le}

-- b stored behind a list a
over_end : (a rest b : List ℤ) (i k : ℕ) → length a ≡ i → put_mid i k (a ++ rest) b ≡ (a ++ b) ++ drop k (drop i (a ++ rest))
over_end a rest b i k l = grind (arith, common_steps)

-- the head: the window and the first n samples, stored one behind the other
pub head_is : (window samples rest a b : List ℤ) (n : ℕ) → length window ≡ 32 → n ≡ min (length samples) 31 → a ≡ window → b ≡ take n samples
    → take (32 + min (length samples) 31) (put_mid 32 (32 + n - 32) (a ++ rest) b) ≡ window ++ take (min (length samples) 31) samples
head_is window samples rest a b n l e ea eb =
    let k : length b ≡ n = ap length eb ∙ length-take-le n samples (omega (arith, e)) in
    let j : length a ≡ 32 = ap length ea ∙ l in
    rw (← e, ← ea, ← eb)
    (ap (take (32 + n)) (over_end a rest b 32 (32 + n - 32) j) ∙ take_at (a ++ b) _ (32 + n) (length-append a b ∙ omega (arith, k, j)))

-- the last window: the end of the old one, and that of the samples
pub last_is : (window samples zeros a b : List ℤ) (n : ℕ) → length window ≡ 32 → length zeros ≡ 32 → n ≡ min (length samples) 32
    → a ≡ take (32 - n) (drop n window) → b ≡ take (length samples - (length samples - n)) (drop (length samples - n) samples)
    → put_mid (32 - n) (32 - (32 - n)) (a ++ drop (32 - n) zeros) b ≡ drop (length samples) (window ++ samples)
last_is window samples zeros a b n l z e ea eb =
    let fa : a ≡ drop n window = ea ∙ take_all (32 - n) (drop n window) (omega (arith, length-drop n window)) in
    let fb : b ≡ drop (length samples - n) samples = eb ∙ take_all (length samples - (length samples - n)) (drop (length samples - n) samples) (omega (arith, length-drop (length samples - n) samples)) in
    let j : length a ≡ 32 - n = ap length fa ∙ length-drop n window ∙ omega arith in
    let whole : length (a ++ drop (32 - n) zeros) ≡ 32 = omega (arith, length-append a (drop (32 - n) zeros), length-drop (32 - n) zeros) in
    over_end a (drop (32 - n) zeros) b (32 - n) (32 - (32 - n)) j
    ∙ ap (λ (xs : List ℤ). (a ++ b) ++ xs) (drop_of_length-le (drop (32 - n) (a ++ drop (32 - n) zeros)) {i = 32 - (32 - n)} (omega (arith, length-drop (32 - n) (a ++ drop (32 - n) zeros))))
    ∙ append-nil (a ++ b)
    ∙ ap₂ (λ (xs ys : List ℤ). xs ++ ys) fa fb
    ∙ ends
  where
    ends : drop n window ++ drop (length samples - n) samples ≡ drop (length samples) (window ++ samples)
    ends =
        lt_or_le (length samples) 32
        (λ h.
        let f : n ≡ length samples = omega (arith, e) in
        let g : length samples - n ≡ 0 = omega arith in
        rw (g, f) (sym (drop-append-le (length samples) window samples (omega arith))))
        (λ h.
        let f : n ≡ 32 = omega (arith, e) in
        let g : length window + (length samples - 32) ≡ length samples = omega arith in
        rw f
        (ap (λ (xs : List ℤ). xs ++ drop (length samples - 32) samples) (drop_of_length-le window {i = 32} (omega arith))
        ∙ sym (drop-append-add window samples (length samples - 32))
        ∙ ap (λ (k : ℕ). drop k (window ++ samples)) g))
