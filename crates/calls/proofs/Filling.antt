-- A caller's buffer that is filled part by part: what holds on the way, and what it holds at the end.
-- Assumes nothing.
use mathlib.Core.Path.{◌≡◌, refl, sym, ◌∙◌}
use mathlib.Core.List.{List, [], ◌∷◌, ◌++◌, map}
use Prim.Native.Nat.{ℕ, suc, ◌+◌, ◌<◌, ◌≤◌}
use native.Mathlib.Numerals.{add-one}
use lib.ListN.{length, get_or, drop, set, length-set, length-map, drop_of_length-le}
use lib.Seq.{sets, length-sets, drop-cons}
use Rattle.std.proofs.lemmas.List.{get_or-map}
use Rattle.integers.proofs.Lists.{sets_append, sets-front, sets_out}

-- `lent` is to get the list `all` from the place `from` on; it is `now`, and `rest` is still to come from the place `at` on
pub record Filling {A : Type 0} (lent : List A) (from : ℕ) (all now : List A) (at : ℕ) (rest : List A) : Type 0 where
  pub long : length now ≡ length lent
  pub whole : sets now at rest ≡ sets lent from all

module _ {A : Type 0} where
  pub filling_start : (lent : List A) (from : ℕ) (all : List A) → Filling lent from all lent from all
  filling_start lent from all = record { long = refl; whole = refl }

  module _ {lent : List A} {from : ℕ} {all now : List A} {at : ℕ} where
    -- the part xs is stored
    pub filling_more : (xs rest : List A) → Filling lent from all now at (xs ++ rest) → Filling lent from all (sets now at xs) (at + length xs) rest
    filling_more xs rest f =
        record { long = length-sets now at xs ∙ f.long; whole = sym (sets_append now at xs rest) ∙ f.whole }

    -- one place is stored
    filling_one : (x : A) (rest : List A) → Filling lent from all now at (x ∷ rest) → Filling lent from all (set now at x) (at + 1) rest
    filling_one x rest f = record { long = length-set now at x ∙ f.long; whole = rw add-one f.whole }

    -- one place is stored, from a list that is read place by place
    pub filling_next : (xs : List A) (i : ℕ) (d x : A) → i < length xs → x ≡ get_or xs i d → Filling lent from all now at (drop i xs)
        → Filling lent from all (set now at x) (at + 1) (drop (i + 1) xs)
    filling_next xs i d x h e f = rw (e, add-one i) (filling_one (get_or xs i d) (drop (suc i) xs) (rw (drop-cons xs i d) at f))

    -- there is no place any more, and what is still to come is not stored
    pub filling_skip : (rest less : List A) → length now ≤ at → Filling lent from all now at rest → Filling lent from all now at less
    filling_skip rest less h f = record { long = f.long; whole = sets_out now at less h ∙ sym (sets_out now at rest h) ∙ f.whole }

    -- nothing is left
    pub filling_end : Filling lent from all now at [] → now ≡ sets lent from all
    filling_end f = f.whole

  -- nothing is left, and the list was stored from the front on: what an accepted call leaves
  pub filling_front : {lent all now : List A} {at : ℕ} → Filling lent 0 all now at [] → length all ≤ length lent → now ≡ all ++ drop (length all) lent
  filling_front {lent} {all} f h = filling_end f ∙ sets-front all lent h

-- the same with a map of a list that is read place by place: one place is stored, and nothing is left
module _ {A B : Type 0} {lent now : List B} {from at : ℕ} (f : A → B) (xs : List A) (i : ℕ) where
  pub mapped_next : {all : List B} (a : A) (d x : B) → i < length xs → x ≡ f (get_or xs i a) → Filling lent from all now at (drop i (map f xs))
      → Filling lent from all (set now at x) (at + 1) (drop (i + 1) (map f xs))
  mapped_next a d x h e = filling_next (map f xs) i d x (rw (length-map xs f) h) (e ∙ sym (get_or-map f xs i a d h))

  pub mapped_end : length xs ≤ i → Filling lent from (map f xs) now at (drop i (map f xs)) → now ≡ sets lent from (map f xs)
  mapped_end h m = filling_end (rw (drop_of_length-le (map f xs) {i = i} (rw (length-map xs f) h)) at m)
