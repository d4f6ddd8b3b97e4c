-- `demodulator::lines::put_events` meets its contract: the lines of the events so far are put.
-- Assumes nothing.
use mathlib.Core.Path.{◌≡◌}
use lib.ListN.{length}
use lib.Seq.{sets}
use Rattle.demodulator.proofs.Printed.{text_before}
use Rattle.demodulator.proofs.lines.put_events.Given as goal

abbrev pub invariant-loop-place : goal.invariant-loop-place
invariant-loop-place l =
    record {
      counted : l.at ≡ length (text_before l.events l.place);
      filled : l.out ≡ sets l.fn.out 0 (text_before l.events l.place);
    }
