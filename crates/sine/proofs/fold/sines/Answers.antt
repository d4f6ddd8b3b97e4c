-- The phases are those of the wave, taken modulo 1,920; their sines are those of the wave.
-- Assumes nothing.
use Rattle.std.proofs.Common.{ap, ◌∙◌, map}
use Rattle.sine.specs.Sine.{S}
use Rattle.sine.proofs.Folding.{in_quarter}
use Rattle.sine.proofs.Wave.{map-phases, wave_reduced}
use Rattle.sine.proofs.fold.sines.Goals as goal

pub look_up-found-requires-clause-in_quarter : goal.look_up-found-requires-clause-in_quarter
look_up-found-requires-clause-in_quarter c = rw c.places.ensures (in_quarter _)

pub returns : goal.returns
returns c = c.signed.ensures ∙ ap (map S) c.phases-phases.ensures ∙ map-phases 32 _ _ ∙ wave_reduced 32 _ _
