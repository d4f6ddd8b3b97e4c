-- The sines among the starred bench examples of the specification.
-- Assumes nothing.
use Rattle.std.specs.Prelude.{◌≡◌, pos, negsuc}
use Rattle.sine.specs.Sine.{S}

-- S(0) = 0, S(1) = 20, S(80) = 1553, S(160) = 3000, S(240) = 4243, S(320) = 5196, S(480) = 6000, S(1440) = -6000
pub record SineExamples : Type 0 where
  pub at_0 : S 0 ≡ pos 0
  pub at_1 : S 1 ≡ pos 20
  pub at_80 : S 80 ≡ pos 1553
  pub at_160 : S 160 ≡ pos 3000
  pub at_240 : S 240 ≡ pos 4243
  pub at_320 : S 320 ≡ pos 5196
  pub at_480 : S 480 ≡ pos 6000
  pub at_1440 : S 1440 ≡ negsuc 5999
