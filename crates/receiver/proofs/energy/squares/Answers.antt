-- `receiver::energy::squares` meets its contract: the squares and their sum fit an i64.
-- Assumes nothing.
use Prim.Native.Nat.{◌≤◌}
use lib.IntN.{ℤ, nat_abs, ◌+ℤ◌, ◌*ℤ◌}
use mir.Syntax.{w64}
use mir.Val.{SFits}
use mir.Facts.{to_z-of_z, sfits_widen}
use Rattle.integers.proofs.Size.{add_size, mul_size, fits_size}
use Rattle.receiver.proofs.energy.squares.Goals as goal
use Rattle.receiver.proofs.energy.squares.Goals.{Start}

square : (z : ℤ) → nat_abs z ≤ 1572672000 → nat_abs (z *ℤ z) ≤ 2473297219584000000
square z h = mul_size z z h h

module _ (c : Start) where
  i64 : SFits w64 c.args.i
  i64 = sfits_widen tt c.ranges.i

  q64 : SFits w64 c.args.q
  q64 = sfits_widen tt c.ranges.q

  ii64 : SFits w64 (c.args.i *ℤ c.args.i)
  ii64 = fits_size (square c.args.i c.requires.0) tt

  qq64 : SFits w64 (c.args.q *ℤ c.args.q)
  qq64 = fits_size (square c.args.q c.requires.1) tt

  sum64 : SFits w64 (c.args.i *ℤ c.args.i +ℤ c.args.q *ℤ c.args.q)
  sum64 = fits_size (add_size (c.args.i *ℤ c.args.i) (c.args.q *ℤ c.args.q) (square c.args.i c.requires.0) (square c.args.q c.requires.1)) tt

pub overflow_add-result : goal.overflow_add-result
overflow_add-result c =
    let s = (goal.at.overflow_add-result c).Start in
    simp
    (c.from-a.ensures, c.from-b.ensures, to_z-of_z c.ranges.i, to_z-of_z c.ranges.q, to_z-of_z (i64 s), to_z-of_z (q64 s), to_z-of_z (ii64 s), to_z-of_z (qq64 s))
    (sum64 s)

pub returns : goal.returns
returns c =
    let s = (goal.at.returns c).Start in
    simp
    (c.from-a.ensures, c.from-b.ensures, to_z-of_z c.ranges.i, to_z-of_z c.ranges.q, to_z-of_z (i64 s), to_z-of_z (q64 s), to_z-of_z (ii64 s), to_z-of_z (qq64 s), to_z-of_z (sum64 s))
