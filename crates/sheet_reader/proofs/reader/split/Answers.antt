-- `sheet_reader::reader::split` meets its contract.
-- Assumes nothing.
use Rattle.std.proofs.Common.{rules, ◌≡◌, get_or}
use Rattle.sheet_reader.proofs.Head.{is_head}
use Rattle.sheet_reader.proofs.reader.split.Goals as goal

pub returns : goal.returns
returns c =
    let text = c.args.text.now in
    let d : c.in_ok-digit.field-0.now ≡ get_or text 5 0 = search rules in
    is_head text _ d (search rules) (search rules)
