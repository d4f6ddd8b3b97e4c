-- Each turn reads one block, and behind the last one nothing is left.
-- Assumes nothing.
use Rattle.std.proofs.Common.{rules, ◌≡◌, ap, ◌∙◌, []}
use Rattle.std.proofs.lemmas.List.{nil_from_length}
use Rattle.std.specs.Slice.Iter.{chunks_rest}
use Rattle.calls.specs.Outcome.{Opening}
use Rattle.receiver.specs.declared.Receiver.{Receiver}
use Rattle.receiver.specs.Calls.{fresh}
use Rattle.receiver.proofs.Ranges.{open_band, fresh_kept}
use Rattle.loopback.proofs.Receiving.{reading_start, block_sound, block_room, reading_more, reading_count, events_end, differences_end}
use Rattle.loopback.proofs.receive.receive.Goals as goal

pub loop-block-init : goal.loop-block-init
loop-block-init c =
    let a = c.args in
    let band = a.band in
    let opened = ap (λ (o : Opening Receiver). o.state) c.open.ensures ∙ open_band band c.requires.known in
    let begun = reading_start (fresh band) a.samples.now (a.events.now, a.differences.now) (fresh_kept band c.requires.known) c.requires.sound in
    record { sized = search rules; read = rw (opened, c.into_iter-block-iterator.ensures.into_iter_gives, c.chunks-block-items.ensures.rest) begun }

pub read-count-requires-clause-sound : goal.read-count-requires-clause-sound
read-count-requires-clause-sound c =
    let d = rw c.in-Some.ensures.steps.1.0 at c.loop-block.invariant.read in
    block_sound _ _ _ _ _ _ _ _ d

pub read-count-requires-clause-room : goal.read-count-requires-clause-room
read-count-requires-clause-room c =
    let d = rw c.in-Some.ensures.steps.1.0 at c.loop-block.invariant.read in
    block_room _ _ _ _ _ _ _ _ d c.requires.room

pub loop-block-preserved : goal.loop-block-preserved
loop-block-preserved c =
    let steps = c.in-Some.ensures.steps in
    let d = rw steps.1.0 at c.loop-block.invariant.read in
    let p = c.read-count.ensures in
    record { sized = steps.0 ∙ c.loop-block.invariant.sized; read = rw (p.next, p.count, p.told, p.beside) (reading_more _ _ _ _ _ _ _ _ d) }

pub returns-clause-count : goal.returns-clause-count
returns-clause-count c =
    let none : chunks_rest c.loop-block.block-iterator ≡ [] = nil_from_length _ c.in-None.ensures.steps.1.0 in
    reading_count _ _ _ _ _ _ (rw none at c.loop-block.invariant.read)

pub returns-clause-told : goal.returns-clause-told
returns-clause-told c =
    let none : chunks_rest c.loop-block.block-iterator ≡ [] = nil_from_length _ c.in-None.ensures.steps.1.0 in
    events_end _ _ _ _ _ _ (rw none at c.loop-block.invariant.read)

pub returns-clause-beside : goal.returns-clause-beside
returns-clause-beside c =
    let none : chunks_rest c.loop-block.block-iterator ≡ [] = nil_from_length _ c.in-None.ensures.steps.1.0 in
    differences_end _ _ _ _ _ _ (rw none at c.loop-block.invariant.read)
