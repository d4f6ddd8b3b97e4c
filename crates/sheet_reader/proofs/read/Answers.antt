-- `sheet_reader::read` meets its contract.
-- Assumes nothing.
use Rattle.std.proofs.Common.{rules, ◌≡◌, Some}
use Rattle.sheet_reader.specs.AsCoded.{IsHead, seen_of}
use Rattle.sheet_reader.proofs.Judged.{accepted_as}
use Rattle.sheet_reader.proofs.read.Goals as goal

pub returns : goal.returns
returns c =
    let h : IsHead c.args.text.now c.in_ok-band.band c.in_ok-band.lines.now = search rules in
    let s : Some c.in_ok-seen.seen ≡ seen_of c.in_ok-band.lines.now = search rules in
    accepted_as _ c.args.out.now c.if-text-gt-MOST_BYTES.false h _ s c.in_ok-check.ensures _ c.fill.ensures
