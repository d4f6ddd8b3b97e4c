-- A write takes the bytes behind those that are written, and appends just these; one that failed appends none.
-- Assumes nothing.
use Rattle.std.proofs.Common.{rules, ◌++◌, take, sym, ap, ◌∙◌, subst}
use Rattle.std.proofs.lemmas.List.{take_rest}
use Rattle.std.proofs.KnownBytes.{Appends-trans, Appends-kept}
use Rattle.std.specs.Io.KnownBytes.{Appends}
use lib.Seq.{take-add}
use Rattle.streams.proofs.write_all.Goals as goal
use Rattle.streams.proofs.write_all.Goals.{in-Ok, in-Err}

pub loop-preserved : goal.loop-preserved
loop-preserved g c =
    let all = c.args.bytes.now in
    elim c.match-write.branch [
      | in-Ok w ↦
          let joined = ap (λ l. take c.loop.written all ++ take w.in-Ok.n l) (take_rest all c.loop.written) ∙ sym (take-add c.loop.written w.in-Ok.n all) in
          record { within = search rules; appended = rw w.written-is (subst (Appends _ _) joined (Appends-trans _ _ _ _ _ c.loop.invariant.appended w.in-Ok.ensures.bytes)) }
      | in-Err w ↦ record { within = search rules; appended = rw w.written-is (Appends-kept _ _ _ _ c.loop.invariant.appended w.in-Err.ensures.bytes) }
    ]
