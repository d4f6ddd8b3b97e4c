-- Assumes nothing.
use Rattle.std.proofs.Common.{rules, ◌≡◌, ℕ, ◌≤◌, List, ℤ, pos, get_or, to_z, of_z, w16}
use mir.Facts.{to_z-of_z}
use Rattle.sine.specs.Sine.{S}
use Rattle.sine.specs.Fold.{HoldsQuarter}
use Rattle.sine.proofs.Filled.{mapped_more}
use Rattle.sine.proofs.Laws.{S_fits}
use Rattle.sine.proofs.fold.look_up.Goals as goal

-- what is read at a place
read : (quarter : List ℤ) (place : ℕ) → HoldsQuarter quarter → place ≤ 480 → to_z w16 (of_z w16 (get_or quarter place (pos 0))) ≡ S place
read quarter place h l = rw (h.at place l) (to_z-of_z (S_fits place))

pub loop-j-preserved : goal.loop-j-preserved
loop-j-preserved c =
    let l = c.loop-j in
    let places = c.args.places.now in
    let found = read c.args.quarter.now (get_or places l.j 0) c.requires.holds_quarter (c.requires.in_quarter.at l.j) in
    record { long = search rules; made = mapped_more S places l.found l.j 0 _ (search rules) (search rules) found l.invariant.made }
