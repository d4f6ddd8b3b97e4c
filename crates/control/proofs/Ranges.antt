-- What the range tests of run and stage say, and that the rules keep the ranges.
-- Assumes nothing.
use mathlib.Core.Path.{◌≡◌, refl, ap, ◌∙◌}
use mathlib.Core.Bool.{Bool, true}
use mathlib.Core.List.{List, [], ◌∷◌}
use mathlib.Mathlib.Data.Bool.Basic.{and_intro}
use Prim.Native.Nat.{ℕ, zero, suc, ◌+◌, ◌-◌, ◌*◌, ◌^◌, ◌<◌, ◌≤◌}
use native.Mathlib.Omega.{arith}
use borrow.Author.Tests.{le-leb}
use lib.Dec.{eqb}
use Rattle.std.proofs.Common.{rules}
use Rattle.integers.proofs.Tests.{cond-split}
use Rattle.calls.specs.Runs.{after}
use Rattle.control.specs.declared.Decision.{Decision}
use Rattle.control.specs.declared.Next.{Next}
use Rattle.control.specs.declared.Stage.{Stage}
use Rattle.control.specs.declared.Stage.TheVariants.{Searching, Waiting, Held}
use Rattle.control.specs.declared.Control.{Control}
use Rattle.control.specs.Ranges.{is_wait, is_slot, is_stage, is_control}
use Rattle.control.specs.Rules.{run_after, taken, next_of, moved_by, control_after, follow}
use Rattle.control.proofs.Rules.{taken_case}

-- ---- waits

pub wait_low : (wait slot : ℕ) → is_wait wait slot ≡ true → 1 ≤ wait
wait_low wait slot h = search rules

pub wait_high : (wait slot : ℕ) → is_wait wait slot ≡ true → wait ≤ 32
wait_high wait slot h = search rules

-- ---- slots

pub slot-most : (slot byte : ℕ) → is_slot slot byte ≡ true → slot ≤ 9
unfolding is_slot
slot-most slot byte h = search rules

-- the byte is below the weight of the next data bit
pub slot_below : (slot byte : ℕ) → (slot ≡ 0 → ⊥) → is_slot slot byte ≡ true → byte < 2 ^ (slot - 1)
unfolding is_slot
slot_below slot byte nz h = search rules

-- the next slot, with the bit gathered
slot_next : (slot byte bit : ℕ) → (slot ≡ 0 → ⊥) → slot ≤ 8 → bit < 2 → byte < 2 ^ (slot - 1) → is_slot (slot + 1) (byte + 2 ^ (slot - 1) * bit) ≡ true
unfolding is_slot
slot_next slot byte bit nz h l b =
    search (rules, below)
  where
    doubled : 2 ^ (slot + 1 - 1) ≡ 2 * 2 ^ (slot - 1)
    doubled = let e : slot + 1 - 1 ≡ suc (slot - 1) = omega arith in ap (λ (n : ℕ). 2 ^ n) e ∙ omega arith

    one_bit : (bit : ℕ) → bit < 2 → byte + 2 ^ (slot - 1) * bit < 2 * 2 ^ (slot - 1)
    one_bit zero l = omega arith
    one_bit (suc zero) l = omega arith
    one_bit (suc (suc bit)) l = absurd (omega arith)

    below : byte + 2 ^ (slot - 1) * bit < 2 ^ (slot + 1 - 1)
    below = rw doubled (one_bit bit l)

-- ---- stages

pub stage_wait : (wait slot byte : ℕ) → is_stage (Waiting wait slot byte) ≡ true → is_wait wait slot ≡ true
unfolding is_stage
stage_wait wait slot byte h = search rules

pub stage-slot : (wait slot byte : ℕ) → is_stage (Waiting wait slot byte) ≡ true → is_slot slot byte ≡ true
unfolding is_stage
stage-slot wait slot byte h = search rules

-- the stage after a sample
abbrev Kept : Next → Type 0
Kept n = is_stage n.stage ≡ true

taken_kept : (slot byte : ℕ) (d : Decision) → is_slot slot byte ≡ true → Kept (taken slot byte d)
unfolding is_stage is_slot
taken_kept slot byte d h =
    taken_case Kept slot byte d
    (record {
      start = λ z. refl;
      no_start = λ z. refl;
      level_lost = λ nz. refl;
      bit = λ nz l bit b. and_intro (search rules) (slot_next slot byte bit nz l b (slot_below slot byte nz h));
      doubt = λ nz g e. refl;
      break = λ l g e z. refl;
      no_stop_told = λ l. refl;
      character = λ l. refl;
    })

next_kept : (stage : Stage) (run : ℕ) (d : Decision) → is_stage stage ≡ true → Kept (next_of stage run d)
unfolding next_of is_stage is_slot
next_kept Searching run d h = search rules
next_kept (Waiting wait slot byte) run d h =
    cond-split Kept (eqb (wait - 1) 0) _ _ (λ e. taken_kept slot byte d (stage-slot wait slot byte h)) (λ e. search rules)
next_kept Held run d h = search rules

-- ---- run and stage

pub control_stage : (c : Control) → is_control c ≡ true → is_stage c.stage ≡ true
unfolding is_control
control_stage c h = search rules

pub control-run : (c : Control) → is_control c ≡ true → c.run ≤ 32
unfolding is_control
control-run c h = search rules

pub run_kept : (run : ℕ) (good : Bool) → run_after run good ≤ 32
run_kept run good = search rules

pub control_kept : (c : Control) (d : Decision) → is_control c ≡ true → is_control (control_after c d) ≡ true
unfolding is_control control_after moved_by
control_kept c d h =
    let run : ℕ = run_after c.run d.good in
    and_intro (le-leb run 32 (run_kept c.run d.good)) (next_kept c.stage run d (control_stage c h))

pub follow_kept : (c : Control) (ds : List Decision) → is_control c ≡ true → is_control (follow c ds) ≡ true
unfolding after
follow_kept c [] h = h
follow_kept c (d ∷ ds) h = follow_kept (control_after c d) ds (control_kept c d h)
