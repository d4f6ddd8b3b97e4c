-- What two energies decide, as natural numbers.
-- Assumes nothing.
use mathlib.Core.Path.{◌≡◌}
use mathlib.Core.Bool.{true}
use mathlib.Core.Logic.{◌↔◌}
use Prim.Native.Nat.{ℕ, ◌-◌, max, min}
use lib.Dec.{leb}
use lib.IntN.{ℤ, pos}
use lib.Signed.{le_z}
use Rattle.std.proofs.Common.{rules}
use Rattle.control.specs.declared.Bit.{Bit}
use Rattle.control.specs.declared.Bit.TheVariants.{Mark, Space, Doubtful}
use Rattle.weighing.specs.Weighing.{level, is_doubtful, weighed, apart, decided, Means}

-- ---- the difference

-- it is never negative
pub apart_least : (space mark : ℤ) → le_z (pos 0) (apart space mark) ≡ true
unfolding apart
apart_least space mark = search rules

-- ---- as natural numbers

module _ (space mark : ℕ) where
  pub apart-ℕ : apart (pos space) (pos mark) ≡ pos (max space mark - min space mark)
  unfolding apart
  apart-ℕ = search rules

  pub level-ℕ : (decided (pos space) (pos mark)).good ≡ leb level (max space mark)
  level-ℕ = search rules

  -- the bit, by what it says
  pub weighed_as : (bit : Bit) → Means bit space mark → weighed (pos space) (pos mark) ≡ bit
  unfolding weighed is_doubtful
  weighed_as Doubtful h = search rules
  weighed_as Space h = search rules
  weighed_as Mark h = search rules

  -- every bit that is told says what it means
  means : Means (weighed (pos space) (pos mark)) space mark
  unfolding weighed is_doubtful
  means = search rules

  pub weighed_means : (bit : Bit) → (weighed (pos space) (pos mark) ≡ bit) ↔ Means bit space mark
  weighed_means bit = (λ e. rw e at means, weighed_as bit)
