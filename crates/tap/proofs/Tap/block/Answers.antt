-- `tap::Tap::block` meets its contract: it is refused, or the events of both receivers are merged.
-- Assumes nothing.
use mathlib.Core.Path.{sym, ◌∙◌}
use Prim.Native.Nat.{ℕ}
use native.Mathlib.Omega.{arith}
use Rattle.std.specs.Prelude.{Result, Ok}
use Rattle.calls.specs.declared.Refusal.{Refusal}
use Rattle.calls.specs.Outcome.{as_answer, outcome}
use Rattle.calls.proofs.Refusals.{answer-number}
use Rattle.receiver.specs.declared.Receiver.{Receiver}
use Rattle.receiver.specs.Calls.{EventLists, shorter}
use Rattle.tap.specs.declared.heard.Heard.{Heard}
use Rattle.tap.proofs.Blocks.{Given, IsHeard, read_number, read_bound, read-lists, BothReadable, both_known, bands-few, both_refused, both_room, both_read}
use Rattle.tap.proofs.Tap.block.Goals as goal
use Rattle.tap.proofs.Tap.block.Goals.{In-Ok}

-- what a receiver gave
abbrev given : Result ℕ Refusal → Receiver → Heard → Given
given answer state lists = outcome (as_answer answer) state ((lists.numbers, lists.differences), lists.indices)

pub counts-requires : goal.counts-requires
counts-requires c =
    record {
      first = sym (answer-number _) ∙ read_number (record { own = _; enough = c.new-one.ensures; read = c.read-first.ensures });
      second = sym (answer-number _) ∙ read_number (record { own = _; enough = c.new-two.ensures; read = c.read-second.ensures });
    }

pub returns-in-Err : goal.returns-in-Err
returns-in-Err c = both_refused _ _ _ _ (rw c.min-places.ensures at c.in-Err.ensures.number)

module _ (c : In-Ok) where
  first : IsHeard c.args.self.first c.args.samples.now (given (Ok c.in-Ok.m) c.read-first.result.state c.read-first.new.self)
  first = record { own = _; enough = c.new-one.ensures; read = rw c.in-Ok.ensures.counts.0 at c.read-first.ensures }

  second : IsHeard c.args.self.second c.args.samples.now (given (Ok c.in-Ok.n) c.read-second.result.state c.read-second.new.self)
  second = record { own = _; enough = c.new-two.ensures; read = rw c.in-Ok.ensures.counts.1 at c.read-second.ensures }

  abbrev lent : EventLists
  lent = (c.args.events.now, c.args.differences.now)

  -- no test holds
  known : BothReadable c.args.self c.args.samples.now (shorter lent)
  known = both_known c.args.self c.args.samples.now (shorter lent) (rw c.min-places.ensures at (sym c.in-Ok.ensures.number))

pub events-requires : goal.events-requires
events-requires c =
    let p = (goal.at.events-requires c).In-Ok in
    let k = known p in record { band = (bands-few _ _ k).0; count = read_bound (first p) k.first; events = read-lists (first p) k.first }

pub events-requires-in-Ok : goal.events-requires-in-Ok
events-requires-in-Ok c =
    let p = (goal.at.events-requires-in-Ok c).In-Ok in
    let k = known p in record { band = (bands-few _ _ k).1; count = read_bound (second p) k.second; events = read-lists (second p) k.second }

pub put-requires : goal.put-requires
put-requires c =
    let p = (goal.at.put-requires c).In-Ok in
    let room = both_room _ _ (lent p) (known p) (first p) (second p) in
    rw (c.events.ensures, c.events-in-Ok.ensures) (record { events_room = omega (arith, room); differences_room = omega (arith, room) })

pub returns-in-Ok : goal.returns-in-Ok
returns-in-Ok c =
    let p = (goal.at.returns-in-Ok c).In-Ok in
    let put = rw (c.events.ensures, c.events-in-Ok.ensures) at c.put.ensures in
    both_read _ _ (lent p) (known p) (first p) (second p) _ _ _ put.count put.events put.differences
