-- From run and stage in their ranges every number that is reported is an event, as `is_event` has them, and a break and a doubtful bit are
-- reported in one case alone.
-- Assumes nothing.
use mathlib.Core.Path.{◌≡◌, refl}
use mathlib.Core.Bool.{true}
use mathlib.Core.List.{List, [], ◌∷◌}
use Prim.Native.Nat.{ℕ, ◌-◌, ◌<◌, ◌≤◌}
use borrow.Author.Tests.{lt-ltb, ltb-true, eqb-true}
use lib.Dec.{ltb, eqb}
use Rattle.std.proofs.Common.{rules}
use Rattle.integers.specs.All.{All, none, more}
use Rattle.integers.proofs.All.{all_append}
use Rattle.integers.proofs.Tests.{cond_case, or_case}
use Rattle.calls.specs.Runs.{gives}
use Rattle.control.specs.declared.Bit.TheVariants.{Space, Doubtful}
use Rattle.control.specs.declared.Decision.{Decision}
use Rattle.control.specs.declared.event.Event.{Event}
use Rattle.control.specs.declared.event.Event.TheVariants.{Character, NoStop, CarrierLost, Break, DoubtfulBit}
use Rattle.control.specs.declared.Next.{Next}
use Rattle.control.specs.declared.Stage.{Stage}
use Rattle.control.specs.declared.Stage.TheVariants.{Searching, Waiting, Held}
use Rattle.control.specs.declared.Control.{Control}
use Rattle.control.specs.Ranges.{is_slot, is_stage, is_control}
use Rattle.control.specs.Rules.{no_stop, carrier_lost, break_begun, bit_doubtful, is_event, event_number, numbers, run_after, taken, next_of, moved_by, control_after, reported, reports}
use Rattle.control.proofs.Ranges.{stage-slot, control_stage, control_kept}

-- ---- the events

-- every byte is one
byte-known : (byte : ℕ) → byte < 256 → is_event byte ≡ true
unfolding is_event
byte-known byte l = rw (lt-ltb byte 256 l) refl

-- the number of every event is one, where a character is a byte
pub number_known : (event : Event) → ((byte : ℕ) → event ≡ Character byte → byte < 256) → is_event (event_number event) ≡ true
unfolding is_event
number_known (Character byte) h = byte-known byte (h byte refl)
number_known NoStop h = refl
number_known CarrierLost h = refl
number_known Break h = refl
number_known DoubtfulBit h = refl

-- what holds of the characters and of each other event holds of every event
pub event_case : (P : ℕ → Type 0) → ((n : ℕ) → n < 256 → P n) → P no_stop → P carrier_lost → P break_begun → P bit_doubtful
    → (n : ℕ) → is_event n ≡ true → P n
unfolding is_event
event_case P char no_stop_told lost break doubtful n =
    or_case (ltb n 256) _ (λ e. char n (ltb-true n 256 e))
    (or_case (eqb n no_stop) _ (λ e. rw (eqb-true n no_stop e) no_stop_told)
    (or_case (eqb n carrier_lost) _ (λ e. rw (eqb-true n carrier_lost e) lost)
    (or_case (eqb n break_begun) (eqb n bit_doubtful) (λ e. rw (eqb-true n break_begun e) break) (λ e. rw (eqb-true n bit_doubtful e) doubtful))))

abbrev pub Known : List ℕ → Type 0
Known ns = All (λ n. is_event n ≡ true) ns

-- what a stage comes to tells only events
abbrev Tells : Next → Type 0
Tells n = Known (numbers n.event)

-- a byte is one, behind slot 9 too
byte-below : (slot byte : ℕ) → (slot ≡ 0 → ⊥) → is_slot slot byte ≡ true → byte < 256
unfolding is_slot
byte-below slot byte nz h = search rules

taken-known : (slot byte : ℕ) (d : Decision) → is_slot slot byte ≡ true → Tells (taken slot byte d)
unfolding is_event taken
taken-known slot byte d h = search (rules, byte-known, byte-below, none, more)

next_known : (stage : Stage) (run : ℕ) (d : Decision) → is_stage stage ≡ true → Tells (next_of stage run d)
unfolding next_of
next_known Searching run d h = none
next_known (Waiting wait slot byte) run d h =
    cond_case Tells (eqb (wait - 1) 0) _ _ (taken-known slot byte d (stage-slot wait slot byte h)) none
next_known Held run d h = none

pub reported-known : (c : Control) (d : Decision) → is_control c ≡ true → Known (reported c d)
unfolding reported moved_by
reported-known c d h = next_known c.stage (run_after c.run d.good) d (control_stage c h)

pub reports-known : (c : Control) (ds : List Decision) → is_control c ≡ true → Known (reports c ds)
unfolding gives
reports-known c [] h = none
reports-known c (d ∷ ds) h = all_append (reported-known c d h) (reports-known (control_after c d) ds (control_kept c d h))

-- ---- what tells a break, and what tells a doubtful bit

-- a break: at the stop slot, with the byte 0, a good level and the bit space
pub break-only : (stage : Stage) (run : ℕ) (d : Decision) → is_stage stage ≡ true → numbers (next_of stage run d).event ≡ break_begun ∷ []
    → (stage ≡ Waiting 1 9 0) × (d.good ≡ true) × (d.bit ≡ Space)
unfolding next_of taken is_stage is_slot
break-only Searching run d h e = search rules
break-only (Waiting wait slot byte) run d h e = search rules
break-only Held run d h e = search rules

-- a doubtful bit: at a data or stop slot, with a good level
pub record AtDoubt (stage : Stage) (d : Decision) : Type 0 where
  pub slot : ℕ
  pub byte : ℕ
  pub stands : stage ≡ Waiting 1 slot byte
  pub behind_start : 1 ≤ slot
  pub good : d.good ≡ true
  pub doubtful : d.bit ≡ Doubtful

pub doubt_only : (stage : Stage) (run : ℕ) (d : Decision) → is_stage stage ≡ true → numbers (next_of stage run d).event ≡ bit_doubtful ∷ []
    → AtDoubt stage d
unfolding next_of taken is_stage is_slot
doubt_only Searching run d h e = search rules
doubt_only (Waiting wait slot byte) run d h e =
    record { slot = slot; byte = byte; stands = search rules; behind_start = search rules; good = search rules; doubtful = search rules }
doubt_only Held run d h e = search rules
