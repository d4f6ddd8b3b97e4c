-- A read puts its bytes behind those that are counted, and consumes just these; one that failed consumes none.
-- Assumes nothing.
use Rattle.std.proofs.Common.{rules, arith, ◌≡◌, ℕ, ◌+◌, ◌-◌, ◌≤◌, List, ◌++◌, length, take, slice_range, sym, ap, ◌∙◌, subst, le_refl, drop_at, length-take-le}
use Rattle.std.proofs.lemmas.Slice.{take-put_mid_below}
use Rattle.std.proofs.KnownBytes.{Consumes-trans, Consumes-kept}
use Rattle.std.specs.Io.KnownBytes.{Consumes}
use borrow.Rule.Slice.PartMut.{put_mid, post_of}
use lib.Seq.{take-add, take-append-le}
use Rattle.streams.proofs.read_all.Goals as goal
use Rattle.streams.proofs.read_all.Goals.{in-Ok, in-Err}

take_split : (a b : ℕ) (old new : List ℕ) → a ≤ b → take a new ≡ take a old → take a old ++ slice_range new a b ≡ take b new
take_split a b old new h front =
    let same : a + (b - a) ≡ b = omega arith in
    ap (λ l. l ++ slice_range new a b) (sym front) ∙ sym (take-add a (b - a) new) ∙ ap (λ n. take n new) same

slice_range-put_mid : (a k n : ℕ) (xs ys : List ℕ) → a ≤ length xs → n ≤ length ys → slice_range (put_mid a k xs ys) a (a + n) ≡ take n ys
slice_range-put_mid a k n xs ys within fits =
    let same : (a + n) - a ≡ n = omega arith in
    let after = post_of a k xs in
    ap (take ((a + n) - a)) (drop_at (take a xs) (ys ++ after) a (length-take-le a xs within)) ∙ ap (λ m. take m (ys ++ after)) same ∙ take-append-le n ys after fits

pub loop-preserved : goal.loop-preserved
loop-preserved g c =
    let from = c.loop.count in
    let room = length c.loop.buf - from in
    let filled = put_mid from room c.loop.buf c.read.new.buf in
    let front : take from filled ≡ take from c.loop.buf = take-put_mid_below _ _ _ _ _ (le_refl _) c.loop.invariant.within in
    elim c.match-read.branch [
      | in-Ok w ↦
          let part = slice_range-put_mid from room w.in-Ok.n c.loop.buf c.read.new.buf c.loop.invariant.within w.in-Ok.ensures.bound.0 in
          let joined = take_split from (from + w.in-Ok.n) c.loop.buf filled (omega arith) front in
          record {
            same_length = search rules;
            within = search rules;
            consumed = rw w.count-is (subst (Consumes _ _) (ap (λ l. take from c.loop.buf ++ l) (sym part) ∙ joined) (Consumes-trans _ _ _ _ _ c.loop.invariant.consumed w.in-Ok.ensures.bytes.0));
          }
      | in-Err w ↦ record {
        same_length = search rules;
        within = search rules;
        consumed = rw w.count-is (subst (Consumes _ _) (sym front) (Consumes-kept _ _ _ _ c.loop.invariant.consumed w.in-Err.ensures.bytes));
      }
    ]
