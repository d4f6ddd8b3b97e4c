-- The block is accepted, and its events and their differences are put behind those that are there.
-- Assumes nothing.
use Rattle.std.proofs.Common.{rules, arith, ap, ◌∙◌, ◌+◌}
use lib.ListN.{length-take}
use Rattle.std.proofs.lemmas.List.Edits.{sets}
use Rattle.loopback.proofs.Receiving.{block_ok, block_told}
use Rattle.loopback.proofs.receive.read.Goals as goal

pub unwrap-n-requires : goal.unwrap-n-requires
unwrap-n-requires c =
    let ok = block_ok _ _ _ _ _ c.requires.ranged c.requires.few c.requires.sound c.block.ensures in
    search rules

pub slice_bounds-told-end : goal.slice_bounds-told-end
slice_bounds-told-end c =
    let told = block_told _ _ _ _ _ c.requires.ranged c.requires.few c.requires.sound c.block.ensures _ c.unwrap-n.ensures in
    omega (arith, told.events_part, length-take c.unwrap-n.result c.block.new.events)

pub slice_bounds-put-end : goal.slice_bounds-put-end
slice_bounds-put-end c =
    let told = block_told _ _ _ _ _ c.requires.ranged c.requires.few c.requires.sound c.block.ensures _ c.unwrap-n.ensures in
    told.events_part

pub slice_bounds-measured-end : goal.slice_bounds-measured-end
slice_bounds-measured-end c =
    let told = block_told _ _ _ _ _ c.requires.ranged c.requires.few c.requires.sound c.block.ensures _ c.unwrap-n.ensures in
    omega (arith, told.differences_part, length-take c.unwrap-n.result c.block.new.differences)

pub slice_bounds-put-end-2 : goal.slice_bounds-put-end-2
slice_bounds-put-end-2 c =
    let told = block_told _ _ _ _ _ c.requires.ranged c.requires.few c.requires.sound c.block.ensures _ c.unwrap-n.ensures in
    told.differences_part

pub overflow_add-result : goal.overflow_add-result
overflow_add-result c =
    let told = block_told _ _ _ _ _ c.requires.ranged c.requires.few c.requires.sound c.block.ensures _ c.unwrap-n.ensures in
    omega (arith, told.count, c.requires.room)

pub returns : goal.returns
returns c =
    let told = block_told _ _ _ _ _ c.requires.ranged c.requires.few c.requires.sound c.block.ensures _ c.unwrap-n.ensures in
    record {
      next = told.state;
      count = ap (λ n. c.args.count + n) told.count;
      told = c.put.ensures ∙ ap (sets c.args.events.now c.args.count) told.events;
      beside = c.put-2.ensures ∙ ap (sets c.args.differences.now c.args.count) told.differences;
    }
