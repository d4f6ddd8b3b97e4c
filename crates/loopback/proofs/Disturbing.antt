-- Samples to which numbers are added in place, one by one: what holds on the way, and what is left at the end.
-- Assumes nothing.
use mathlib.Core.Path.{◌≡◌, refl, sym, ap, ◌∙◌}
use mathlib.Core.List.{List}
use Prim.Native.Nat.{ℕ, ◌+◌, ◌≤◌, ◌<◌}
use native.Mathlib.Nat.{add-zero}
use native.Mathlib.Omega.{arith}
use lib.IntN.{ℤ, pos, ◌+ℤ◌}
use lib.ListN.{length, get_or, drop, set, drop_of_length-le}
use lib.Seq.{get_or-drop, drop-drop, drop-set-lt}
use Rattle.integers.specs.Near.{altered}
use Rattle.integers.proofs.Near.{length-altered, altered-at}
use Rattle.integers.proofs.Lists.{sets-whole}
use Rattle.calls.proofs.Filling.{Filling, filling_start, filling_next, filling_end}

-- the list `old` gets the numbers ds; it is `now`, and the places from i on are as they were
pub record Disturbed (old ds now : List ℤ) (i : ℕ) : Type 0 where
  pub filling : Filling old 0 (altered old ds) now i (drop i (altered old ds))
  pub kept : drop i now ≡ drop i old

module _ (old ds : List ℤ) where
  pub disturbed_start : Disturbed old ds old 0
  disturbed_start = record { filling = filling_start old 0 (altered old ds); kept = refl }

  module _ (now : List ℤ) (i : ℕ) (d : Disturbed old ds now i) where
    -- the sample of a turn
    pub as_before : get_or now i (pos 0) ≡ get_or old i (pos 0)
    as_before = at now ∙ ap (λ (l : List ℤ). get_or l 0 (pos 0)) d.kept ∙ sym (at old)
      where
        at : (l : List ℤ) → get_or l i (pos 0) ≡ get_or (drop i l) 0 (pos 0)
        at l = sym (get_or-drop i l 0 (pos 0) ∙ ap (λ (k : ℕ). get_or l k (pos 0)) (add-zero i))

    pub disturbed_more : i < length old → i < length ds → (x : ℤ) → x ≡ get_or old i (pos 0) +ℤ get_or ds i (pos 0) → Disturbed old ds (set now i x) (i + 1)
    disturbed_more h l x e =
        record {
          filling = filling_next (altered old ds) i (pos 0) x (omega (arith, length-altered old ds)) (e ∙ sym (altered-at old ds i h l)) d.filling;
          kept =
              drop-set-lt (i + 1) now i x (omega arith)
              ∙ sym (drop-drop 1 i now) ∙ ap (drop 1) d.kept ∙ drop-drop 1 i old;
        }

    pub disturbed_all : length old ≤ i → now ≡ altered old ds
    disturbed_all h =
        filling_end (rw (drop_of_length-le (altered old ds) {i = i} (omega (arith, length-altered old ds))) at d.filling)
        ∙ sets-whole (altered old ds) old (length-altered old ds)
