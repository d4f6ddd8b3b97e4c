-- Assumes nothing.
use Rattle.std.proofs.Common.{rules, arith, ap, ◌∙◌, ◌≡◌, ℕ, ◌<◌, List, ℤ, pos, ◌*ℤ◌, length, map, get_or, to_z, of_z, w16}
use Rattle.std.proofs.lemmas.List.{get_or-map}
use lib.ListN.{length-map}
use mir.Facts.{to_z-of_z}
use Rattle.sine.specs.Sine.{S}
use Rattle.sine.specs.Fold.{place_of, sign_of}
use Rattle.sine.proofs.Filled.{mapped_more}
use Rattle.sine.proofs.Folding.{sign_fits, S_folded}
use Rattle.sine.proofs.Laws.{S_fits}
use Rattle.sine.proofs.fold.signed.Goals as goal

-- the number that was found at the place of a phase, times the phase's sign
product : (ps : List ℕ) (found : List ℤ) (k : ℕ) (s : ℤ) → found ≡ map S (map place_of ps) → k < length ps → s ≡ sign_of (get_or ps k 0)
    → to_z w16 (of_z w16 (get_or found k (pos 0))) *ℤ to_z w16 (of_z w16 s) ≡ S (get_or ps k 0)
product ps found k s f h e =
    let p = get_or ps k 0 in
    let at : get_or found k (pos 0) ≡ S (place_of p) = rw f (get_or-map S (map place_of ps) k 0 (pos 0) (omega (arith, length-map ps place_of)) ∙ ap S (get_or-map place_of ps k 0 0 h)) in
    rw (at, e, to_z-of_z (S_fits (place_of p)), to_z-of_z (sign_fits p)) (S_folded p)

pub overflow_mul-sines : goal.overflow_mul-sines
overflow_mul-sines c =
    rw (product c.args.phases.now _ c.loop-j.j _ c.requires (search rules) c.sign_of.ensures) (S_fits _)

pub loop-j-preserved : goal.loop-j-preserved
loop-j-preserved c =
    let l = c.loop-j in
    let sine = product c.args.phases.now _ l.j _ c.requires (search rules) c.sign_of.ensures in
    record { long = search rules; made = mapped_more S _ l.sines l.j 0 _ (search rules) (search rules) (rw sine (to_z-of_z (S_fits _))) l.invariant.made }
