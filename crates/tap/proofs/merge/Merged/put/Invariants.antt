-- `tap::merge::Merged::put` meets its contract.
-- Assumes nothing.
use Rattle.std.proofs.Common.{◌≡◌, ◌+◌, length}
use Rattle.std.proofs.lemmas.List.Edits.{sets}
use Rattle.tap.specs.AsCoded.{numbers_of, differences_of}
use Rattle.tap.proofs.merge.Merged.put.Given as goal

abbrev pub invariant-loop-event : goal.invariant-loop-event
invariant-loop-event l =
    record {
      count : l.count + length l.event-iterator ≡ length l.fn.self;
      events : sets l.events l.count (numbers_of l.event-iterator) ≡ sets l.initial.events 0 (numbers_of l.fn.self);
      differences : sets l.differences l.count (differences_of l.event-iterator) ≡ sets l.initial.differences 0 (differences_of l.fn.self);
    }
