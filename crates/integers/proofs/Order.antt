-- The order of whole numbers, by its tests.
-- Assumes nothing.
use mathlib.Core.Path.{◌≡◌, refl}
use mathlib.Core.Bool.{true, false, false≢true, true≢false}
use native.Mathlib.Omega.{arith}
use borrow.Author.Tests.{le-leb, ltb-true, ltb-false}
use lib.IntN.{ℤ, pos, negsuc}
use lib.Signed.{lt_z, le_z}

-- what is below is at most
pub below-at-most : (a b : ℤ) → lt_z a b ≡ true → le_z a b ≡ true
below-at-most (pos a) (pos b) h = le-leb a b (omega (arith, ltb-true a b h))
below-at-most (pos a) (negsuc b) h = absurd (false≢true h)
below-at-most (negsuc a) (pos b) h = refl
below-at-most (negsuc a) (negsuc b) h = le-leb b a (omega (arith, ltb-true b a h))

-- what is not below is at least
pub not-below-at_least : (a b : ℤ) → lt_z a b ≡ false → le_z b a ≡ true
not-below-at_least (pos a) (pos b) h = le-leb b a (ltb-false a b h)
not-below-at_least (pos a) (negsuc b) h = refl
not-below-at_least (negsuc a) (pos b) h = absurd (true≢false h)
not-below-at_least (negsuc a) (negsuc b) h = le-leb a b (ltb-false b a h)
