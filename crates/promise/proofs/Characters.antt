-- One character: where the control stands before the window with t of its samples is read, and that each window keeps it there.
-- The start bit is found at a window with 15 to 19 samples of the character, and slot m, 16 + 32 m windows later, is taken at one
-- with 31 + 32 m to 35 + 32 m. The window with t samples comes with the character's sample t - 1: the event, at slot 9, comes with
-- its sample 318 to 322, counted from 0.
-- Assumes nothing.
use mathlib.Core.Path.{◌≡◌, refl, sym, ap, ◌∙◌, subst}
use mathlib.Core.Bool.{Bool, true, false, false≢true}
use mathlib.Core.List.{List, ◌∷◌}
use Prim.Native.Nat.{ℕ, zero, suc, ◌+◌, ◌-◌, ◌*◌, ◌^◌, ◌/◌, ◌%◌, ◌≤◌, ◌<◌}
use native.Mathlib.Decide.{ℕ_discrete}
use native.Mathlib.Nat.{add_comm, mul_comm, mod-eq_of_lt}
use native.Mathlib.Numerals.{add-one, sub-one, one-add}
use native.Mathlib.Omega.{arith}
use lib.ListN.{get_or}
use lib.Pow.{mod-pow-add}
use Rattle.integers.proofs.Tests.{lt_or_le}
use Rattle.transmitter.specs.Samples.{char_bits}
use Rattle.transmitter.proofs.Laws.{bit_at, bit_start, bit_data, bit_stop}
use Rattle.control.specs.declared.Decision.{Decision}
use Rattle.control.specs.declared.Stage.TheVariants.{Searching, Waiting}
use Rattle.control.specs.declared.Control.{Control}
use Rattle.control.specs.Rules.{quiet, gathered}
use Rattle.control.proofs.Rules.{wait_taken, start_found, data_read}
use Rattle.promise.proofs.Steps.{at, Reads, Clear, Invariant, Moves, Keeps, moves_on, full, goes, waits, searches, finds, stops}
use Rattle.promise.proofs.Windows.{ReadAcross}

-- ---- before a character, and in every mark bit that follows a mark bit

-- With k samples of the next bit: the search goes on, or the stop slot of the character before is still to be taken; Y are the
-- events behind that.
pub data BetweenCharacters (Y : List ℕ) (k : ℕ) : Control → List ℕ → Type 0 where
  none_due : BetweenCharacters Y k (at 32 Searching) Y
  stop_due : (byte wait : ℕ) → 1 ≤ wait → wait + k ≤ 4 → BetweenCharacters Y k (at 32 (Waiting wait 9 byte)) (byte ∷ Y)

pub stays_between : (Y : List ℕ) (k : ℕ) (d : Decision) → Reads d 1 → (k ≤ 3 → Clear d 1)
    → Keeps (BetweenCharacters Y k) d (BetweenCharacters Y (suc k))
stays_between Y k d r clear s X none_due = searches d r none_due
stays_between Y k d r clear s X (stop_due byte zero a b) = absurd (omega arith)
stays_between Y k d r clear s X (stop_due byte (suc zero) a b) = stops d (clear (omega arith)) byte none_due
stays_between Y k d r clear s X (stop_due byte (suc (suc wait)) a b) = waits d 32 (full d r.good) wait 9 byte (stop_due byte (suc wait) (omega arith) (omega arith))

-- ---- a start bit is sought

-- In the window with t samples of it; Y are the events from it on, and `Next` holds while it is sought and where it is found.
module _ (Y : List ℕ) (t : ℕ) (d : Decision) (good : d.good ≡ true) (mark_before : t ≤ 14 → Reads d 1) (mark_clear : t ≤ 3 → Clear d 1)
    (start_bit : 19 ≤ t → Reads d 0) {Next : Invariant}
    (stays : t < 19 → (s : Control) (X : List ℕ) → BetweenCharacters Y (suc t) s X → Next s X) (found : 15 ≤ t → Next (at 32 (Waiting 16 0 0)) Y) where
  from_15 : 15 ≤ t → Keeps (BetweenCharacters Y t) d Next
  from_15 p s X (stop_due byte wait a b) = absurd (omega arith)
  from_15 p s X none_due = go d.space refl
    where
      go : (space : Bool) → d.space ≡ space → Moves Next (at 32 Searching) d Y
      go true e = finds d (record { good = good; space = e }) (found p)
      go false e =
          searches d (record { good = good; space = e })
          (lt_or_le t 19 (λ q. stays q (at 32 Searching) Y none_due) (λ q. absurd (false≢true (sym e ∙ (start_bit q).space))))

  pub seeks_start : t ≤ 19 → Keeps (BetweenCharacters Y t) d Next
  seeks_start l s X r =
      lt_or_le t 15 (λ p. moves_on (stays (omega arith)) (stays_between Y t d (mark_before (omega arith)) mark_clear s X r)) (λ p. from_15 p s X r)

-- ---- the byte gathered

-- before slot m of the character c
abbrev pub so_far : ℕ → ℕ → ℕ
so_far c zero = 0
so_far c (suc i) = c % 2 ^ i

with_bit_lem : (c i : ℕ) → c % 2 ^ i + 2 ^ (suc i - 1) * (c / 2 ^ i % 2) ≡ c % 2 ^ suc i
with_bit_lem c i =
    ap (λ (n : ℕ). c % 2 ^ i + 2 ^ n * (c / 2 ^ i % 2)) (sub-one (suc i))
    ∙ ap (λ (n : ℕ). c % 2 ^ i + n) (mul_comm (2 ^ i) (c / 2 ^ i % 2))
    ∙ add_comm (c % 2 ^ i) (c / 2 ^ i % 2 * 2 ^ i) ∙ sym (mod-pow-add c 1 i) ∙ ap (λ (k : ℕ). c % 2 ^ k) (one-add i)

-- ---- a character

-- the bit before bit j: before the start bit stands a mark
abbrev pub bit_before : ℕ → ℕ → ℕ
bit_before c j = get_or (1 ∷ char_bits c) j 1

-- What is read in the window with t samples of the character c: the mark before it, and bit m from 19 samples of it on, up to 14 of
-- the next; without doubt the mark up to 3 samples, and bit m from 31 of it on, up to 3 of the next.
record DecidedAt (c t : ℕ) (d : Decision) : Type 0 where
  good : d.good ≡ true
  mark_before : t ≤ 14 → Reads d 1
  mark_clear : t ≤ 3 → Clear d 1
  own_bit : (m : ℕ) → 19 + 32 * m ≤ t → t ≤ 46 + 32 * m → Reads d (bit_at c m)
  own-clear : (m : ℕ) → 31 + 32 * m ≤ t → t ≤ 35 + 32 * m → Clear d (bit_at c m)

-- In the window with k samples of bit j, P holds of the bit before up to `high` of them, and of bit j from `low` on.
module _ (c : ℕ) (P : ℕ → Type 0) (low high : ℕ) (small : high < 32) where
  holds-before : (j k : ℕ) → (k ≤ high → P (bit_before c j)) → 32 * j + k ≤ high → P 1
  holds-before zero k earlier h = earlier (omega arith)
  holds-before (suc j) k earlier h = absurd (omega arith)

  holds-own : (j k : ℕ) → k < 32 → (k ≤ high → P (bit_before c j)) → (low ≤ k → P (bit_at c j))
      → (m : ℕ) → low + 32 * m ≤ 32 * j + k → 32 * j + k ≤ 32 + high + 32 * m → Dec (m ≡ j) → P (bit_at c m)
  holds-own j k l earlier later m h g (yes p) = rw p (later (omega arith))
  holds-own zero k l earlier later m h g (no p) = absurd (omega arith)
  holds-own (suc j) k l earlier later m h g (no p) = let e : m ≡ j = omega arith in rw e (earlier (omega arith))

decided-at : (c : ℕ) (d : Decision) (j k : ℕ) → k < 32 → ReadAcross (bit_before c j) (bit_at c j) k d → DecidedAt c (32 * j + k) d
decided-at c d j k l r =
    record {
      good = r.good;
      mark_before = holds-before c (Reads d) 19 14 (omega arith) j k r.earlier;
      mark_clear = holds-before c (Clear d) 31 3 (omega arith) j k r.earlier_clear;
      own_bit = λ m h g. holds-own c (Reads d) 19 14 (omega arith) j k l r.earlier r.later m h g (ℕ_discrete m j);
      own-clear = λ m h g. holds-own c (Clear d) 31 3 (omega arith) j k l r.earlier_clear r.later_clear m h g (ℕ_discrete m j);
    }

-- The control before that window: X are the events still to come, and Y those behind this character.
pub data Underway (c : ℕ) (Y : List ℕ) (t : ℕ) : Control → List ℕ → Type 0 where
  -- its start is not yet found
  before : {s : Control} {X : List ℕ} → t ≤ 19 → BetweenCharacters (c ∷ Y) t s X → Underway c Y t s X
  -- slot m is to be taken at the window with wait + t - 1 samples
  reading : (wait m byte : ℕ) → 1 ≤ wait → m ≤ 9 → 32 + 32 * m ≤ wait + t → wait + t ≤ 36 + 32 * m → byte ≡ so_far c m
      → Underway c Y t (at 32 (Waiting wait m byte)) (c ∷ Y)
  -- its event is given
  ended : 320 ≤ t → Underway c Y t (at 32 Searching) Y

module _ (c : ℕ) (small : c < 256) (Y : List ℕ) (t : ℕ) (d : Decision) (h : DecidedAt c t d) where
  abbrev Next : Invariant
  Next = Underway c Y (suc t)

  start_bit : 19 ≤ t → t ≤ 46 → Reads d 0
  start_bit a b = subst (Reads d) (bit_start c) (h.own_bit 0 (omega arith) (omega arith))

  step-before : t ≤ 19 → Keeps (BetweenCharacters (c ∷ Y) t) d Next
  step-before l =
      seeks_start (c ∷ Y) t d h.good h.mark_before h.mark_clear (λ a. start_bit a (omega arith)) (λ q s X r. before (omega arith) r)
      (λ p. reading 16 0 0 (omega arith) (omega arith) (omega arith) (omega arith) refl) l

  -- a slot is taken at this window
  step_start : 32 ≤ 1 + t → 1 + t ≤ 36 → (byte : ℕ) → Moves Next (at 32 (Waiting 1 0 byte)) d (c ∷ Y)
  step_start a b byte =
      let r : Reads d 0 = start_bit (omega arith) (omega arith) in
      goes d h.good (Waiting 1 0 byte) (quiet (Waiting 32 1 0)) (c ∷ Y)
      (wait_taken 32 d 1 0 byte refl ∙ start_found byte d 0 refl h.good r.space)
      (reading 32 1 0 (omega arith) (omega arith) (omega arith) (omega arith) (omega arith))

  step_data : (i byte : ℕ) → i < 8 → 32 + 32 * suc i ≤ 1 + t → 1 + t ≤ 36 + 32 * suc i → byte ≡ so_far c (suc i)
      → Moves Next (at 32 (Waiting 1 (suc i) byte)) d (c ∷ Y)
  step_data i byte l a b e =
      let bit : ℕ = c / 2 ^ i % 2 in
      let r : Clear d bit = subst (Clear d) (bit_data c i l) (h.own-clear (suc i) (omega arith) (omega arith)) in
      let byte' : ℕ = byte + 2 ^ (suc i - 1) * bit in
      let sum : byte' ≡ so_far c (suc i + 1) =
      ap (λ (n : ℕ). n + 2 ^ (suc i - 1) * bit) e ∙ with_bit_lem c i ∙ ap (so_far c) (sym (add-one (suc i))) in
      goes d h.good (Waiting 1 (suc i) byte) (gathered (suc i) byte bit) (c ∷ Y)
      (wait_taken 32 d 1 (suc i) byte refl ∙ data_read byte d (suc i) (λ z. omega arith) bit (below (c / 2 ^ i)) h.good (omega arith) r.weighed)
      (reading 32 (suc i + 1) byte' (omega arith) (omega arith) (omega arith) (omega arith) sum)
    where
      below : (x : ℕ) → x % 2 < 2
      below x = omega arith

  step-stop : (byte : ℕ) → 320 ≤ 1 + t → 1 + t ≤ 324 → byte ≡ so_far c 9 → Moves Next (at 32 (Waiting 1 9 byte)) d (c ∷ Y)
  step-stop byte a b e =
      let q : c ≡ byte = sym (e ∙ mod-eq_of_lt small) in
      subst (λ (x : ℕ). Moves Next (at 32 (Waiting 1 9 byte)) d (x ∷ Y)) (sym q)
      (stops d (subst (Clear d) (bit_stop c) (h.own-clear 9 (omega arith) (omega arith))) byte (ended (omega arith)))

  step_reading : (wait m byte : ℕ) → 1 ≤ wait → m ≤ 9 → 32 + 32 * m ≤ wait + t → wait + t ≤ 36 + 32 * m → byte ≡ so_far c m
      → Moves Next (at 32 (Waiting wait m byte)) d (c ∷ Y)
  step_reading zero m byte l n a b e = absurd (omega arith)
  step_reading (suc (suc wait)) m byte l n a b e =
      waits d 32 (full d h.good) wait m byte (reading (suc wait) m byte (omega arith) n (omega arith) (omega arith) e)
  step_reading (suc zero) zero byte l n a b e = step_start (omega arith) (omega arith) byte
  step_reading (suc zero) (suc i) byte l n a b e = go (ℕ_discrete i 8)
    where
      go : Dec (i ≡ 8) → Moves Next (at 32 (Waiting 1 (suc i) byte)) d (c ∷ Y)
      go (yes p) = rw p (step-stop byte (omega arith) (omega arith) (e ∙ ap (λ (k : ℕ). so_far c (suc k)) p))
      go (no p) = step_data i byte (omega arith) a b e

  step : t < 320 → Keeps (Underway c Y t) d Next
  step l s X (before a r) = step-before a s X r
  step l s X (reading wait m byte a b p q e) = step_reading wait m byte a b p q e
  step l s X (ended a) = absurd (omega arith)

-- window k of bit j
pub underway_step : (c : ℕ) → c < 256 → (Y : List ℕ) (j k : ℕ) → j < 10 → k < 32 → (d : Decision) → ReadAcross (bit_before c j) (bit_at c j) k d
    → Keeps (Underway c Y (32 * j + k)) d (Underway c Y (32 * j + suc k))
underway_step c small Y j k l h d r s X w =
    let e : 32 * j + suc k ≡ suc (32 * j + k) = omega arith in
    rw e (step c small Y (32 * j + k) d (decided-at c d j k h r) (omega arith) s X w)

-- behind its last bit
pub leave : {c : ℕ} → c < 256 → {Y : List ℕ} {s : Control} {X : List ℕ} → Underway c Y 320 s X → BetweenCharacters Y 0 s X
leave small (before a r) = absurd (omega arith)
leave {c} small (reading wait m byte a b p q e) =
    let nine : m ≡ 9 = omega arith in
    let whole : byte ≡ c = e ∙ ap (so_far c) nine ∙ mod-eq_of_lt small in
    rw (nine, whole) (stop_due c wait a (omega arith))
leave small (ended a) = none_due
