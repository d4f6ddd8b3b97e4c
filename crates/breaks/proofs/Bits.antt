-- A break on the line: where the control stands before the window with t of its samples is read, and that each window keeps it there. It
-- begins as the character 0 does; its stop slot is taken in space.
-- Assumes nothing.
use mathlib.Core.Path.{◌≡◌, refl, sym, ap, ◌∙◌}
use mathlib.Core.Bool.{Bool, true, false, false≢true}
use mathlib.Core.List.{List, ◌∷◌}
use Prim.Native.Nat.{ℕ, zero, suc, ◌+◌, ◌-◌, ◌*◌, ◌^◌, ◌≤◌, ◌<◌}
use native.Mathlib.Decide.{ℕ_discrete}
use native.Mathlib.Omega.{arith}
use Rattle.integers.proofs.Tests.{lt_or_le}
use Rattle.control.specs.declared.Decision.{Decision}
use Rattle.control.specs.declared.Stage.TheVariants.{Searching, Waiting, Held}
use Rattle.control.specs.declared.Control.{Control}
use Rattle.control.specs.Rules.{break_begun, quiet, hold_break}
use Rattle.control.proofs.Rules.{wait_taken, start_found, start_mark, data_read, stop-break, held_on, held_ends}
use Rattle.promise.proofs.Steps.{at, Reads, Clear, Invariant, Moves, Keeps, moves_on, full, goes, waits, searches, finds}
use Rattle.promise.proofs.Windows.{ReadAcross}
use Rattle.promise.proofs.Characters.{BetweenCharacters, none_due, seeks_start}

-- ---- one window

-- a break is held over space, and ends with mark
holds : {P : Invariant} (d : Decision) → Reads d 0 → {X : List ℕ} → P (at 32 Held) X → Moves P (at 32 Held) d X
holds d r {X} p = goes d r.good Held (quiet Held) X (held_on 32 d (rw r.space)) p

releases : {P : Invariant} (d : Decision) → Reads d 1 → {X : List ℕ} → P (at 32 Searching) X → Moves P (at 32 Held) d X
releases d r {X} p = goes d r.good Held (quiet Searching) X (held_ends 32 d (rw r.space)) p

-- space at the stop slot, with the byte 0
begins : {P : Invariant} (d : Decision) → Clear d 0 → {X : List ℕ} → P (at 32 Held) X → Moves P (at 32 (Waiting 1 9 0)) d (break_begun ∷ X)
begins d r {X} p =
    goes d r.good (Waiting 1 9 0) hold_break X
    (wait_taken 32 d 1 9 0 refl ∙ stop-break 0 d 9 (λ z. omega arith) r.good (omega arith) r.weighed refl) p

-- ---- behind the tenth bit

-- With k samples of the next bit: the break is held, or its stop slot is still to be taken; Y are the events behind it.
pub data LateBreak (Y : List ℕ) (k : ℕ) : Control → List ℕ → Type 0 where
  held : LateBreak Y k (at 32 Held) Y
  break_due : (wait : ℕ) → 1 ≤ wait → wait + k ≤ 4 → LateBreak Y k (at 32 (Waiting wait 9 0)) (break_begun ∷ Y)

pub stays_late : (Y : List ℕ) (k : ℕ) (d : Decision) → Reads d 0 → (k ≤ 3 → Clear d 0) → Keeps (LateBreak Y k) d (LateBreak Y (suc k))
stays_late Y k d r clear s X held = holds d r held
stays_late Y k d r clear s X (break_due zero a b) = absurd (omega arith)
stays_late Y k d r clear s X (break_due (suc zero) a b) = begins d (clear (omega arith)) held
stays_late Y k d r clear s X (break_due (suc (suc wait)) a b) =
    waits d 32 (full d r.good) wait 9 0 (break_due (suc wait) (omega arith) (omega arith))

-- behind that bit
pub late_over : {Y : List ℕ} {s : Control} {X : List ℕ} → LateBreak Y 32 s X → LateBreak Y 0 s X
late_over held = held
late_over (break_due wait a b) = absurd (omega arith)

-- ---- the first ten bits

-- in the window with t samples of them the mark before is read, and then space, without doubt up to 3 samples and where slot m falls
pub record SpaceAt (t : ℕ) (d : Decision) : Type 0 where
  pub good : d.good ≡ true
  pub mark_before : t ≤ 14 → Reads d 1
  pub mark_clear : t ≤ 3 → Clear d 1
  pub space : 19 ≤ t → Reads d 0
  pub space-clear : (m : ℕ) → 31 + 32 * m ≤ t → t ≤ 35 + 32 * m → Clear d 0

pub data FirstBits (Y : List ℕ) (t : ℕ) : Control → List ℕ → Type 0 where
  -- the start is not yet found
  before : {s : Control} {X : List ℕ} → t ≤ 19 → BetweenCharacters (break_begun ∷ Y) t s X → FirstBits Y t s X
  -- slot m is to be taken at the window with wait + t - 1 samples
  reading : (wait m : ℕ) → 1 ≤ wait → m ≤ 9 → 32 + 32 * m ≤ wait + t → wait + t ≤ 36 + 32 * m
      → FirstBits Y t (at 32 (Waiting wait m 0)) (break_begun ∷ Y)
  -- its event is given
  begun : 320 ≤ t → FirstBits Y t (at 32 Held) Y

module _ (Y : List ℕ) (t : ℕ) (d : Decision) (h : SpaceAt t d) where
  abbrev Next : Invariant
  Next = FirstBits Y (suc t)

  step-before : t ≤ 19 → Keeps (BetweenCharacters (break_begun ∷ Y) t) d Next
  step-before l =
      seeks_start (break_begun ∷ Y) t d h.good h.mark_before h.mark_clear h.space (λ q s X r. before (omega arith) r)
      (λ p. reading 16 0 (omega arith) (omega arith) (omega arith) (omega arith)) l

  -- slot m is taken at this window
  step-slot : (m : ℕ) → m ≤ 9 → 32 + 32 * m ≤ 1 + t → 1 + t ≤ 36 + 32 * m → Dec (m ≡ 9) → Moves Next (at 32 (Waiting 1 m 0)) d (break_begun ∷ Y)
  step-slot zero n a b e =
      let r : Reads d 0 = h.space (omega arith) in
      goes d h.good (Waiting 1 0 0) (quiet (Waiting 32 1 0)) (break_begun ∷ Y)
      (wait_taken 32 d 1 0 0 refl ∙ start_found 0 d 0 refl r.good r.space)
      (reading 32 1 (omega arith) (omega arith) (omega arith) (omega arith))
  step-slot (suc i) n a b (yes e) = rw e (begins d (h.space-clear (suc i) (omega arith) (omega arith)) (begun (omega arith)))
  step-slot (suc i) n a b (no e) =
      let r : Clear d 0 = h.space-clear (suc i) (omega arith) (omega arith) in
      let zeros : 0 + 2 ^ (suc i - 1) * 0 ≡ 0 = omega arith in
      goes d h.good (Waiting 1 (suc i) 0) (quiet (Waiting 32 (suc i + 1) 0)) (break_begun ∷ Y)
      (wait_taken 32 d 1 (suc i) 0 refl ∙ data_read 0 d (suc i) (λ z. omega arith) 0 (omega arith) h.good (omega arith) r.weighed
      ∙ ap (λ (n : ℕ). quiet (Waiting 32 (suc i + 1) n)) zeros)
      (reading 32 (suc i + 1) (omega arith) (omega arith) (omega arith) (omega arith))

  step : t < 320 → Keeps (FirstBits Y t) d Next
  step l s X (before a r) = step-before a s X r
  step l s X (reading zero m a b p q) = absurd (omega arith)
  step l s X (reading (suc zero) m a b p q) = step-slot m b p q (ℕ_discrete m 9)
  step l s X (reading (suc (suc wait)) m a b p q) =
      waits d 32 (full d h.good) wait m 0 (reading (suc wait) m (omega arith) b (omega arith) (omega arith))
  step l s X (begun a) = absurd (omega arith)

-- window k of bit j, behind the mark or another bit of space
abbrev pub bit_before : ℕ → ℕ
bit_before zero = 1
bit_before (suc j) = 0

space-at : (j k : ℕ) (d : Decision) → ReadAcross (bit_before j) 0 k d → SpaceAt (32 * j + k) d
space-at zero k d r =
    record {
      good = r.good;
      mark_before = λ a. r.earlier (omega arith);
      mark_clear = λ a. r.earlier_clear (omega arith);
      space = λ a. r.later (omega arith);
      space-clear = λ m a b. r.later_clear (omega arith);
    }
space-at (suc j) k d r =
    record {
      good = r.good;
      mark_before = λ a. absurd (omega arith);
      mark_clear = λ a. absurd (omega arith);
      space = λ a. r.steady refl;
      space-clear = λ m a b. lt_or_le k 4 (λ q. r.earlier_clear (omega arith)) (λ q. r.later_clear (omega arith));
    }

pub first_bits_step : (Y : List ℕ) (j k : ℕ) → j < 10 → k < 32 → (d : Decision) → ReadAcross (bit_before j) 0 k d
    → Keeps (FirstBits Y (32 * j + k)) d (FirstBits Y (32 * j + suc k))
first_bits_step Y j k l h d r s X w =
    let e : 32 * j + suc k ≡ suc (32 * j + k) = omega arith in
    rw e (step Y (32 * j + k) d (space-at j k d r) (omega arith) s X w)

pub leave : {Y : List ℕ} {s : Control} {X : List ℕ} → FirstBits Y 320 s X → LateBreak Y 0 s X
leave (before a r) = absurd (omega arith)
leave (reading wait m a b p q) =
    let nine : m ≡ 9 = omega arith in
    rw nine (break_due wait a (omega arith))
leave (begun a) = held

-- ---- the mark bits behind it

-- Between 15 and 18 samples of the first the decision is not known: the break may end there, and space be taken for a start once more,
-- whose slot then meets mark.
pub data FirstMark (Y : List ℕ) (k : ℕ) : Control → List ℕ → Type 0 where
  late : {s : Control} {X : List ℕ} → k ≤ 19 → LateBreak Y k s X → FirstMark Y k s X
  over : 16 ≤ k → FirstMark Y k (at 32 Searching) Y
  false_start : (wait : ℕ) → 33 ≤ wait + k → wait + k ≤ 35 → FirstMark Y k (at 32 (Waiting wait 0 0)) Y

module _ (Y : List ℕ) (k : ℕ) (h : k < 32) (d : Decision) (r : ReadAcross 0 1 k d) where
  abbrev AfterMark : Invariant
  AfterMark = FirstMark Y (suc k)

  -- space is read before the 19th sample
  space_early : d.space ≡ true → k < 19
  space_early e = lt_or_le k 19 (λ q. q) (λ q. absurd (false≢true (sym (r.later q).space ∙ e)))

  from-held : 15 ≤ k → (space : Bool) → d.space ≡ space → Moves AfterMark (at 32 Held) d Y
  from-held q true e = let l : k < 19 = space_early e in holds d (record { good = r.good; space = e }) (late (omega arith) held)
  from-held q false e = releases d (record { good = r.good; space = e }) (over (omega arith))

  from-over : 16 ≤ k → (space : Bool) → d.space ≡ space → Moves AfterMark (at 32 Searching) d Y
  from-over q true e =
      let l : k < 19 = space_early e in finds d (record { good = r.good; space = e }) (false_start 16 (omega arith) (omega arith))
  from-over q false e = searches d (record { good = r.good; space = e }) (over (omega arith))

  from_late : 15 ≤ k → Keeps (LateBreak Y k) d AfterMark
  from_late q s X held = from-held q d.space refl
  from_late q s X (break_due wait a b) = absurd (omega arith)

  pub first_mark_step : Keeps (FirstMark Y k) d AfterMark
  first_mark_step s X (late a l) =
      lt_or_le k 15 (λ q. moves_on (λ s X l. late (omega arith) l) (stays_late Y k d (r.earlier (omega arith)) r.earlier_clear s X l)) (λ q. from_late q s X l)
  first_mark_step s X (over a) = from-over a d.space refl
  first_mark_step s X (false_start zero a b) = absurd (omega arith)
  first_mark_step s X (false_start (suc zero) a b) = absurd (omega arith)
  first_mark_step s X (false_start (suc (suc wait)) a b) =
      waits d 32 (full d r.good) wait 0 0 (false_start (suc wait) (omega arith) (omega arith))

-- with k samples of the second
pub data SecondMark (Y : List ℕ) (k : ℕ) : Control → List ℕ → Type 0 where
  searching : SecondMark Y k (at 32 Searching) Y
  start_due : (wait : ℕ) → 1 ≤ wait → wait + k ≤ 3 → SecondMark Y k (at 32 (Waiting wait 0 0)) Y

pub first_mark_over : {Y : List ℕ} {s : Control} {X : List ℕ} → FirstMark Y 32 s X → SecondMark Y 0 s X
first_mark_over (late a l) = absurd (omega arith)
first_mark_over (over a) = searching
first_mark_over (false_start wait a b) = start_due wait (omega arith) (omega arith)

pub second_mark_step : (Y : List ℕ) (k : ℕ) (d : Decision) → Reads d 1 → Keeps (SecondMark Y k) d (SecondMark Y (suc k))
second_mark_step Y k d r s X searching = searches d r searching
second_mark_step Y k d r s X (start_due zero a b) = absurd (omega arith)
second_mark_step Y k d r s X (start_due (suc zero) a b) =
    goes d r.good (Waiting 1 0 0) (quiet Searching) Y (wait_taken 32 d 1 0 0 refl ∙ start_mark 0 d 0 refl r.good r.space) searching
second_mark_step Y k d r s X (start_due (suc (suc wait)) a b) =
    waits d 32 (full d r.good) wait 0 0 (start_due (suc wait) (omega arith) (omega arith))

pub second_mark_over : {Y : List ℕ} {s : Control} {X : List ℕ} → SecondMark Y 32 s X → BetweenCharacters Y 0 s X
second_mark_over searching = none_due
second_mark_over (start_due wait a b) = absurd (omega arith)
