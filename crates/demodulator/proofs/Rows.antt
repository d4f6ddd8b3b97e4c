-- The table of kinds: every event that a receiver reports has its row there, what is known of a number that has one, and how long a kind's
-- name is.
-- Assumes nothing.
use mathlib.Core.Path.{◌≡◌, refl}
use mathlib.Core.Bool.{Bool, true, ◌&&◌, false≢true}
use mathlib.Core.List.{List, [], ◌∷◌}
use mathlib.Mathlib.Data.Bool.Basic.{and_elim_left, and_elim_right}
use Prim.Native.Nat.{ℕ, ◌<◌, ◌≤◌, zero-le}
use native.Mathlib.Omega.{arith}
use borrow.Author.Tests.{le-leb, leb-true}
use lib.Dec.{leb}
use lib.IntN.{ℤ}
use lib.ListN.{length}
use Rattle.integers.proofs.Tests.{cond_case, or_case}
use Rattle.integers.specs.All.{All, none, more}
use Rattle.control.specs.Rules.{is_event}
use Rattle.control.proofs.Events.{event_case}
use Rattle.receiver.specs.declared.Receiver.{Receiver}
use Rattle.receiver.specs.Step.{events_after}
use Rattle.receiver.specs.Calls.{in_range}
use Rattle.receiver.proofs.Events.{events-known}
use Rattle.demodulator.specs.Lines.{Kind, kinds, is_of, has_row, has_kind, HaveKinds, name_in, kind_of}

-- ---- events have rows

-- that of a character is the first
pub char_row : (n : ℕ) → n < 256 → leb 0 n ≡ true × leb n 255 ≡ true
char_row n h = (le-leb 0 n zero-le, le-leb n 255 (omega arith))

-- so an event that is new in `is_event` needs one too
pub event_row : (n : ℕ) → is_event n ≡ true → has_kind n ≡ true
event_row = event_case (λ (n : ℕ). has_kind n ≡ true) (λ n l. rw ((char_row n l).0, (char_row n l).1) refl) refl refl refl refl

event_rows : {ns : List ℕ} → All (λ n. is_event n ≡ true) ns → HaveKinds ns
event_rows none = none
event_rows (more {x = n} h hs) = more (event_row n h) (event_rows hs)

-- every number that a receiver in its ranges reports has a kind
pub reported-kinds : (s : Receiver) (xs : List ℤ) → in_range s ≡ true → HaveKinds (events_after s xs)
reported-kinds s xs h = event_rows (events-known s xs h)

-- ---- numbers that have rows

-- what holds of the numbers of every row holds of a number that has one
has_row_lem : {P : Type 0} (ks : List Kind) (n : ℕ) → All (λ k. k.first ≤ n → n ≤ k.last → P) ks → has_row ks n ≡ true → P
has_row_lem [] n none h = absurd (false≢true h)
has_row_lem (k ∷ ks) n (more p ps) h =
    let low : Bool = leb k.first n in
    let high : Bool = leb n k.last in
    or_case (low && high) (has_row ks n)
    (λ r. p (leb-true k.first n (and_elim_left low high r)) (leb-true n k.last (and_elim_right low high r)))
    (has_row_lem ks n ps) h

-- above 258 one number has a row
pub last_row : (n : ℕ) → 258 < n → has_kind n ≡ true → n ≡ 259
last_row n l =
    has_row_lem kinds n
    (more (λ low high. omega arith)
    (more (λ low high. omega arith) (more (λ low high. omega arith) (more (λ low high. omega arith) (more (λ low high. omega arith) none)))))

-- ---- how long a name is

length-name : (ks : List Kind) (event : ℕ) → All (λ k. length k.name ≤ 6) ks → length (name_in ks event) ≤ 6
length-name [] event none = zero-le
length-name (k ∷ ks) event (more h hs) = cond_case (λ (l : List ℕ). length l ≤ 6) (is_of k event) _ _ h (length-name ks event hs)

pub length-kind : (event : ℕ) → length (kind_of event) ≤ 6
length-kind event = length-name kinds event (more (omega arith) (more (omega arith) (more (omega arith) (more (omega arith) (more (omega arith) none)))))
