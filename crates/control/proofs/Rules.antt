-- The cases of the rules, each an equation under the tests that lead to it.
-- Assumes nothing.
use mathlib.Core.Path.{◌≡◌, refl, ap, ◌∙◌}
use mathlib.Core.Bool.{Bool, true, false, cond, not, ◌&&◌, and-false}
use Prim.Native.Nat.{ℕ, zero, suc, ◌-◌, ◌<◌, ◌≤◌}
use native.Mathlib.Omega.{arith}
use borrow.Author.Tests.{le-leb, lt-leb, eq-eqb, ne_eqb, leb-true, leb-false, eqb-true, eqb-false, not-false}
use lib.Dec.{leb, eqb}
use Rattle.std.proofs.Common.{rules}
use Rattle.integers.proofs.Tests.{cond_case, cond-split}
use Rattle.control.specs.declared.Bit.{Bit}
use Rattle.control.specs.declared.Bit.TheVariants.{Mark, Space, Doubtful}
use Rattle.control.specs.declared.Decision.{Decision}
use Rattle.control.specs.declared.Asked.{Asked}
use Rattle.control.specs.declared.Asked.TheVariants.{Tone, Slot}
use Rattle.control.specs.declared.event.Event.TheVariants.{Character, NoStop, CarrierLost, DoubtfulBit}
use Rattle.control.specs.declared.Next.{Next}
use Rattle.control.specs.declared.Stage.{Stage}
use Rattle.control.specs.declared.Stage.TheVariants.{Searching, Waiting, Held}
use Rattle.control.specs.declared.Control.{Control}
use Rattle.control.specs.Ranges.{is_slot}
use Rattle.control.specs.Rules.{numbers, quiet, report, hold_break, ends_break, run_after, bit_of, gathered, bit_taken, taken, next_of, moved_by, control_after, reported}
use Rattle.control.specs.AsCoded.{is_found, asked_by, wait_over}

-- ---- the run

pub run_full : (run : ℕ) → 32 ≤ run → run_after run true ≡ 32
run_full run h = omega arith

-- ---- a slot is taken

module _ (byte : ℕ) (d : Decision) where
  module _ (slot : ℕ) (z : slot ≡ 0) where
    pub start_found : d.good ≡ true → d.space ≡ true → taken slot byte d ≡ quiet (Waiting 32 1 0)
    unfolding taken
    start_found g s = simp (z, g, s)

    pub start_weak : d.good ≡ false → taken slot byte d ≡ quiet Searching
    unfolding taken
    start_weak g = simp (z, g)

    pub start_mark : d.good ≡ true → d.space ≡ false → taken slot byte d ≡ quiet Searching
    unfolding taken
    start_mark g s = simp (z, g, s)

  module _ (slot : ℕ) (nz : slot ≡ 0 → ⊥) where
    pub bit_taken_good : d.good ≡ true → taken slot byte d ≡ bit_taken slot byte d.bit
    unfolding taken
    bit_taken_good g = simp (ne_eqb slot 0 nz, g)

    -- by the bit
    pub data_read : (bit : ℕ) → bit < 2 → d.good ≡ true → slot ≤ 8 → d.bit ≡ bit_of bit → taken slot byte d ≡ gathered slot byte bit
    data_read bit l g h e = bit_taken_good g ∙ ap (bit_taken slot byte) e ∙ of_number bit l
      where
        of_number : (bit : ℕ) → bit < 2 → bit_taken slot byte (bit_of bit) ≡ gathered slot byte bit
        of_number zero l = rw (le-leb slot 8 h)
        of_number (suc zero) l = rw (le-leb slot 8 h)
        of_number (suc (suc bit)) l = absurd (omega arith)

    pub stop-break : d.good ≡ true → 8 < slot → d.bit ≡ Space → byte ≡ 0 → taken slot byte d ≡ hold_break
    stop-break g h e b = bit_taken_good g ∙ simp (e, lt-leb slot 8 h, eq-eqb byte 0 b)

    pub stop_mark : d.good ≡ true → 8 < slot → d.bit ≡ Mark → taken slot byte d ≡ report (Character byte)
    stop_mark g h e = bit_taken_good g ∙ simp (e, lt-leb slot 8 h)

    pub doubt_taken : d.good ≡ true → d.bit ≡ Doubtful → taken slot byte d ≡ report DoubtfulBit
    doubt_taken g e = bit_taken_good g ∙ rw e

-- What holds in every case of a slot that is taken holds of what it comes to.
pub record Cases (P : Next → Type 0) (slot byte : ℕ) (d : Decision) : Type 0 where
  pub start : slot ≡ 0 → P (quiet (Waiting 32 1 0))
  pub no_start : slot ≡ 0 → P (quiet Searching)
  pub level_lost : (slot ≡ 0 → ⊥) → P (report CarrierLost)
  pub bit : (slot ≡ 0 → ⊥) → slot ≤ 8 → (bit : ℕ) → bit < 2 → P (gathered slot byte bit)
  pub doubt : (slot ≡ 0 → ⊥) → d.good ≡ true → d.bit ≡ Doubtful → P (report DoubtfulBit)
  pub break : 8 < slot → d.good ≡ true → d.bit ≡ Space → byte ≡ 0 → P hold_break
  pub no_stop_told : 8 < slot → P (report NoStop)
  pub character : 8 < slot → P (report (Character byte))

module _ (P : Next → Type 0) (slot byte : ℕ) (d : Decision) (c : Cases P slot byte d) where
  bit_case : (slot ≡ 0 → ⊥) → d.good ≡ true → (b : Bit) → d.bit ≡ b → P (bit_taken slot byte b)
  bit_case nz g Doubtful e = c.doubt nz g e
  bit_case nz g Mark e =
      cond-split P (leb slot 8) _ _ (λ h. c.bit nz (leb-true slot 8 h) 1 (omega arith)) (λ h. c.character (leb-false slot 8 h))
  bit_case nz g Space e =
      cond-split P (leb slot 8) _ _
      (λ h. c.bit nz (leb-true slot 8 h) 0 (omega arith))
      (λ h. cond-split P (eqb byte 0) _ _ (λ z. c.break (leb-false slot 8 h) g e (eqb-true byte 0 z)) (λ z. c.no_stop_told (leb-false slot 8 h)))

  pub taken_case : P (taken slot byte d)
  unfolding taken
  taken_case =
      cond-split P (eqb slot 0) _ _
      (λ z. let e : slot ≡ 0 = eqb-true slot 0 z in cond_case P (d.good && d.space) _ _ (c.start e) (c.no_start e))
      (λ z.
      let nz : slot ≡ 0 → ⊥ = eqb-false slot 0 z in
      cond-split P (not d.good) _ _ (λ g. c.level_lost nz) (λ g. bit_case nz (not-false d.good g) d.bit refl))

-- ---- the stage after a sample

module _ (run : ℕ) (d : Decision) where
  pub search_found : run ≡ 32 → d.space ≡ true → next_of Searching run d ≡ quiet (Waiting 16 0 0)
  unfolding next_of
  search_found e s = simp (eq-eqb run 32 e, s)

  pub search_short : (run ≡ 32 → ⊥) → next_of Searching run d ≡ quiet Searching
  unfolding next_of
  search_short e = simp (ne_eqb run 32 e)

  pub search_mark : d.space ≡ false → next_of Searching run d ≡ quiet Searching
  unfolding next_of
  search_mark s = simp (s, and-false (eqb run 32))

  pub held_on : ends_break run d ≡ false → next_of Held run d ≡ quiet Held
  unfolding next_of
  held_on e = rw e

  pub held_ends : ends_break run d ≡ true → next_of Held run d ≡ quiet Searching
  unfolding next_of
  held_ends e = rw e

  module _ (wait slot byte : ℕ) where
    pub wait_more : 1 < wait → next_of (Waiting wait slot byte) run d ≡ quiet (Waiting (wait - 1) slot byte)
    unfolding next_of
    wait_more h = simp (ne_eqb (wait - 1) 0 (λ e. omega arith))

    pub wait_taken : wait ≡ 1 → next_of (Waiting wait slot byte) run d ≡ taken slot byte d
    unfolding next_of
    wait_taken e = rw e

  -- in the parts that the code has
  pub wait_parts : (wait slot byte : ℕ) → wait ≡ 1 → is_slot slot byte ≡ true → next_of (Waiting wait slot byte) run d ≡ wait_over slot byte d
  wait_parts wait slot byte e h = wait_taken wait slot byte e ∙ rw h

-- a stage that is a search: it stays until a decision ends it, which leads to the stage `next`; there is no event
pub record IsSearch (space : Bool) (stage next : Stage) : Type 0 where
  pub step : (run : ℕ) (d : Decision) → next_of stage run d ≡ quiet (cond (is_found space run d) next stage)

-- a stage goes on by what it asks for
abbrev pub Asks : Stage → Asked → Type 0
Asks stage (Tone space next) = IsSearch space stage next
Asks stage (Slot wait slot byte) = stage ≡ Waiting wait slot byte

asks_by : (stage : Stage) → Asks stage (asked_by stage)
unfolding next_of
asks_by Searching = record { step = λ run d. search rules }
asks_by (Waiting wait slot byte) = refl
asks_by Held = record { step = λ run d. search rules }

pub asks : (stage : Stage) (a : Asked) → a ≡ asked_by stage → Asks stage a
asks stage a e = rw e (asks_by stage)

-- ---- run and stage after a decision, and its events

module _ (c : Control) (d : Decision) (run : ℕ) (n : Next) (er : run ≡ run_after c.run d.good) (en : n ≡ next_of c.stage run d) where
  pub control-after : control_after c d ≡ record { run = run; stage = n.stage }
  unfolding control_after moved_by
  control-after = rw (en, er)

  pub events-reported : reported c d ≡ numbers n.event
  unfolding reported moved_by
  events-reported = rw (en, er)
