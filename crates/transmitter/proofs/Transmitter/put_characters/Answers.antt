-- `transmitter::Transmitter::put_characters` meets its contract: each turn sends the ten bits of one character.
-- Assumes nothing.
use mathlib.Core.Path.{◌≡◌, sym, ap, ◌∙◌}
use mathlib.Core.List.{List, ◌++◌}
use Prim.Native.Nat.{ℕ, ◌+◌, ◌*◌}
use native.Mathlib.Omega.{arith}
use lib.ListN.{length, drop, get_or}
use Rattle.transmitter.specs.Samples.{char_bits, characters_bits}
use Rattle.transmitter.proofs.Laws.{length_char}
use Rattle.transmitter.proofs.Progress.{AllSent, progress_start, progress_more, progress_end, characters_left, characters-none}
use Rattle.transmitter.proofs.Transmitter.put_characters.Goals as goal

pub loop-i-init : goal.loop-i-init
loop-i-init c = let a = c.args in progress_start a.self (characters_bits a.bytes.now) a.out.now 0

pub loop-i-preserved : goal.loop-i-preserved
loop-i-preserved c =
    let l = c.loop-i in
    let bytes = c.args.bytes.now in
    let bits = c.char_bits.result in
    let rest = characters_bits (drop (l.i + 1) bytes) in
    let e : bits ≡ char_bits (get_or bytes l.i 0) = c.char_bits.ensures in
    let n : length bits ≡ 10 = ap length e ∙ length_char (get_or bytes l.i 0) in
    let put = c.put_bits-next in
    progress_more l.invariant bits rest put.result (320 * (l.i + 1)) put.new.out
    (characters_left bytes l.i c.loop-i-test.true ∙ ap (λ (bs : List ℕ). bs ++ rest) (sym e))
    put.ensures.next (omega arith) put.ensures.lent

all : (c : goal.After-loop-i) → AllSent c.loop-i.invariant
all c = progress_end c.loop-i.invariant (characters-none c.args.bytes.now c.loop-i.i c.loop-i-test.false)

pub returns-clause-next : goal.returns-clause-next
returns-clause-next c = (all c).state

pub returns-clause-lent : goal.returns-clause-lent
returns-clause-lent c = (all c).filled
