-- `transmitter::Transmitter::put_bits` meets its contract: each turn sends one bit.
-- Assumes nothing.
use mathlib.Core.Path.{◌≡◌, ap, ◌∙◌}
use Prim.Native.Nat.{◌+◌, ◌*◌}
use native.Mathlib.Omega.{arith}
use lib.ListN.{drop, get_or, drop_of_length-le}
use Rattle.tones.specs.declared.Tones.{Tones}
use Rattle.tones.specs.Bands.{step_of}
use Rattle.transmitter.proofs.Progress.{AllSent, progress_start, progress_bit, progress_end, bits_left}
use Rattle.transmitter.proofs.Transmitter.put_bits.Goals as goal

pub loop-i-init : goal.loop-i-init
loop-i-init c =
    let a = c.args in
    let e : a.at + 32 * 0 ≡ a.at = omega arith in
    rw e (progress_start a.self a.bits.now a.out.now a.at)

pub loop-i-preserved : goal.loop-i-preserved
loop-i-preserved c =
    let l = c.loop-i in
    let a = c.args in
    let bits = a.bits.now in
    let step = c.step_of-step in
    progress_bit l.invariant (get_or bits l.i 0) (drop (l.i + 1) bits) step.result c.next_phase-phase.result (a.at + 32 * (l.i + 1))
    c.tone.result c.put.new.out (bits_left bits l.i c.loop-i-test.true)
    (step.ensures ∙ ap (λ (t : Tones). step_of t (get_or bits l.i 0)) c.tones_of-tones.ensures)
    c.tone.ensures c.next_phase-phase.ensures (omega arith) c.put.ensures

all : (c : goal.After-loop-i) → AllSent c.loop-i.invariant
all c = progress_end c.loop-i.invariant (drop_of_length-le c.args.bits.now {i = c.loop-i.i} c.loop-i-test.false)

pub returns-clause-next : goal.returns-clause-next
returns-clause-next c = (all c).state

pub returns-clause-lent : goal.returns-clause-lent
returns-clause-lent c = (all c).filled
