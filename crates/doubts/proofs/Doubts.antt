-- Doubtful bits, in one theorem. That a line inside the margin never shows one follows from what its events are.
-- Assumes nothing.
use mathlib.Core.Path.{◌≡◌, sym, subst}
use mathlib.Core.List.{List}
use Prim.Native.Nat.{ℕ, ◌<◌}
use native.Mathlib.Omega.{arith}
use Rattle.integers.specs.All.{All, none, more}
use Rattle.integers.proofs.All.{all_append}
use Rattle.calls.specs.Lists.{each}
use Rattle.control.specs.Rules.{break_begun, bit_doubtful}
use Rattle.promise.specs.Recordings.{AreBytes}
use Rattle.promise.proofs.Promise.{all_read}
use Rattle.breaks.specs.Line.{Item, character, break, IsItem, item_event}
use Rattle.breaks.proofs.Line.{lines-read}
use Rattle.doubts.specs.Doubts.{NoneDoubtful, Doubts}
use Rattle.doubts.proofs.Told.{told-exactly, then_searches, some_doubt}

-- neither a byte nor a break is 259
bytes-clear : {ns : List ℕ} → AreBytes ns → NoneDoubtful ns
bytes-clear none = none
bytes-clear (more {x = n} l ls) = more (λ e. omega arith) (bytes-clear ls)

item_clear : (item : Item) → IsItem item → NoneDoubtful (item_event item)
item_clear (character c) l = more (λ e. omega arith) none
item_clear (break bits) l = more (λ e. omega arith) none

items-clear : {items : List Item} → All IsItem items → NoneDoubtful (each item_event items)
items-clear none = none
items-clear (more {x = item} l ls) = all_append (item_clear item l) (items-clear ls)

pub doubts : Doubts
doubts =
    record {
      told = told-exactly;
      searches = then_searches;
      some = some_doubt;
      in_recordings = λ t. bytes-clear (all_read t t).first_no_fault;
      in_lines = λ l. subst NoneDoubtful (sym (lines-read l)) (items-clear l.are_items);
    }
