-- A held break, in one theorem.
-- Assumes nothing.
use Rattle.breaks.specs.Breaks.{Breaks}
use Rattle.breaks.proofs.Held.{told-exactly, held-over, held_over_calls, one_event, some-break}
use Rattle.breaks.proofs.Line.{lines-read, lines-possible}

pub breaks : Breaks
breaks =
    record {
      told = told-exactly;
      held = held-over;
      held_over_calls = held_over_calls;
      one_event = one_event;
      some = some-break;
      lines = lines-read;
      possible = lines-possible;
    }
