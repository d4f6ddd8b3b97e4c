-- `receiver::block::read` meets its contract: the windows of the source are those that the samples complete.
-- Assumes nothing.
use Rattle.std.proofs.Common.{rules, ◌≤◌, ap, ◌∙◌, length, arith}
use Rattle.quality.specs.declared.Tracked.{Tracked}
use Rattle.quality.specs.Quality.{track, measures_from}
use Rattle.receiver.specs.Calls.{places_for}
use Rattle.receiver.specs.AsCoded.{decisions_in}
use Rattle.receiver.proofs.Ranges.{in_range_lem}
use Rattle.receiver.proofs.Blocks.{block-long, block-told, block-few, block-state}
use Rattle.receiver.proofs.block.read.Goals as goal

pub new-requires-clause-window : goal.new-requires-clause-window
new-requires-clause-window c = (in_range_lem c.args.receiver c.requires.ranged).window

pub scan-last-requires : goal.scan-last-requires
scan-last-requires c =
    let s = c.args.receiver in
    let xs = c.args.samples.now in
    let ds = decisions_in c.new.result in
    let few : length (measures_from 0 c.tracked.result ds) ≤ places_for (length xs) =
    rw c.tracked.ensures (block-few s xs (search rules) ds c.new.ensures c.requires.ranged) in
    record {
      few = omega (arith, block-long s xs (search rules) ds c.new.ensures, c.requires.few);
      control = rw c.tracked.ensures (in_range_lem s c.requires.ranged).control;
      events = omega (arith, few, c.requires.events);
      differences = omega (arith, few, c.requires.differences);
    }

pub returns : goal.returns
returns c =
    let s = c.args.receiver in
    let xs = c.args.samples.now in
    let ds = decisions_in c.new.result in
    record {
      state =
          block-state s xs (search rules) ds c.new.ensures c.scan-last.result
          (c.scan-last.ensures.state ∙ ap (λ (t : Tracked). track t ds) c.tracked.ensures) c.last_window.result c.last_window.ensures;
      told = rw (← block-told s xs (search rules) ds c.new.ensures, ← c.tracked.ensures) c.scan-last.ensures.told;
    }
