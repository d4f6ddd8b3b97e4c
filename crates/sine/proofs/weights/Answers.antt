-- The four waves are stored one behind the other.
-- Assumes nothing.
use Rattle.std.proofs.Common.{ap, ◌∙◌, refl}
use Rattle.std.proofs.lemmas.List.Edits.{sets}
use Rattle.sine.proofs.Parts.{weights_stored}
use Rattle.sine.proofs.weights.Goals as goal

pub returns : goal.returns
returns c =
    weights_stored _ c.args.first c.args.second refl
    (c.put.ensures ∙ ap (sets _ 0) c.sines.ensures)
    (c.put-2.ensures ∙ ap (sets _ 32) c.sines-2.ensures)
    (c.put-3.ensures ∙ ap (sets _ 64) c.sines-3.ensures)
    (c.put-4.ensures ∙ ap (sets _ 96) c.sines-4.ensures)
