-- The count stays within the buffer, and what is counted stands in front and is what was consumed.
-- Assumes nothing.
use Rattle.std.proofs.Common.{length, ◌≡◌, ◌≤◌, take}
use Rattle.std.specs.Io.KnownBytes.{Consumes}
use Rattle.streams.proofs.read_all.Given as goal

abbrev pub invariant-loop : goal.invariant-loop
invariant-loop g l = record {
  same_length : length l.buf ≡ length l.initial.buf;
  within : l.count ≤ length l.buf;
  consumed : Consumes (g.R.Read.remaining l.initial.reader) (g.R.Read.remaining l.reader) (take l.count l.buf);
}
