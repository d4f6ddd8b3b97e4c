-- S at the phases of the specification's starred examples, so that nothing above this crate opens S for them.
-- Assumes nothing.
use mathlib.Core.Path.{◌≡◌, refl}
use lib.IntN.{pos}
use Rattle.sine.specs.Sine.{S, half, nearest}
use Rattle.sine.specs.Examples.{SineExamples}

pub sine-examples : SineExamples
unfolding S half nearest
sine-examples =
    record { at_0 = refl; at_1 = refl; at_80 = refl; at_160 = refl; at_240 = refl; at_320 = refl; at_480 = refl; at_1440 = refl }

-- the samples of the step 214 after S(0)
pub step_214 : (S 214 ≡ pos 3867) × (S 428 ≡ pos 5913) × (S 642 ≡ pos 5176)
unfolding S half nearest
step_214 = (refl, refl, refl)
