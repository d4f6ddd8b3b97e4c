-- Each turn adds to one sample.
-- Assumes nothing.
use Rattle.std.proofs.Common.{rules, arith, ◌≡◌, ◌≤◌, ℕ, List, ℤ, pos, ◌+ℤ◌, nat_abs, get_or, to_z, of_z, w16, FitsSigned}
use mir.Facts.{to_z-of_z}
use Rattle.integers.specs.Sums.{Bounded}
use Rattle.integers.proofs.Size.{fits_size, nat_abs-+ℤ}
use Rattle.margin.specs.Windows.{disturbance}
use Rattle.loopback.proofs.Disturbing.{as_before, disturbed_more, disturbed_all}
use Rattle.loopback.proofs.disturb.disturb.Goals as goal

-- a sample as it is stored
stored : {x y : ℤ} → FitsSigned w16 x → x ≡ y → to_z w16 (of_z w16 x) ≡ y
stored f e = rw (to_z-of_z f) e

sum_fits : (xs ds : List ℤ) (i : ℕ) → Bounded 6000 xs → Bounded disturbance ds → FitsSigned w16 (get_or xs i (pos 0) +ℤ get_or ds i (pos 0))
sum_fits xs ds i h l =
    let both : nat_abs (get_or xs i (pos 0) +ℤ get_or ds i (pos 0)) ≤ 6100 = omega (arith, nat_abs-+ℤ (get_or xs i (pos 0)) (get_or ds i (pos 0)), h.at i, l.at i) in
    fits_size both tt

pub overflow_add-sample : goal.overflow_add-sample
overflow_add-sample c =
    let l = c.loop-i in
    let s : FitsSigned w16 (get_or l.samples l.i (pos 0)) = search rules in
    let d : FitsSigned w16 (get_or c.args.added.now l.i (pos 0)) = search rules in
    rw (stored s (as_before _ _ _ _ l.invariant), to_z-of_z d) (sum_fits c.args.samples.now c.args.added.now l.i c.requires.sent c.requires.small)

pub loop-i-preserved : goal.loop-i-preserved
loop-i-preserved c =
    let l = c.loop-i in
    let s : FitsSigned w16 (get_or l.samples l.i (pos 0)) = search rules in
    let d : FitsSigned w16 (get_or c.args.added.now l.i (pos 0)) = search rules in
    let sum = sum_fits c.args.samples.now c.args.added.now l.i c.requires.sent c.requires.small in
    disturbed_more _ _ _ _ l.invariant (search rules) (omega (arith, c.requires.enough)) _
    (rw (stored s (as_before _ _ _ _ l.invariant), to_z-of_z d) (to_z-of_z sum))

pub returns : goal.returns
returns c = disturbed_all _ _ _ _ c.loop-i.invariant (search rules)
