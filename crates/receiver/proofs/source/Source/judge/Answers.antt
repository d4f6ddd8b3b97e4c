-- `receiver::source::Source::judge` meets its contract: the window is a part of the head or of the block.
-- Assumes nothing.
use Rattle.std.proofs.Common.{◌≡◌, ◌<◌, Bor, List, ap, ◌∙◌, arith, length, take, drop}
use lib.IntN.{ℤ}
use Rattle.receiver.specs.Weighed.{recorded}
use Rattle.receiver.proofs.Sources.{window_each, window-begun, window-whole, window-samples, window-judged}
use Rattle.receiver.proofs.source.Source.judge.Goals as goal
use Rattle.receiver.proofs.source.Source.judge.Goals.{After-unwrap, then-i-lt31, else-i-lt31}

-- the window is the one that ends with sample i
window : (c : After-unwrap) → c.unwrap.result.now ≡ take 32 (drop c.args.i (recorded c.args.self.now.head c.args.self.now.samples.now))
window c =
    let s = c.args.self.now in
    let l : c.args.i < length s.samples.now = omega (arith, window_each s) in
    let whole = rw c.unwrap.ensures at c.as_array.ensures.cases in
    whole.same
    ∙ elim c.if-i-lt31.branch [
      | then-i-lt31 w ↦ ap (λ (b : Bor (List ℤ)). b.now) w.window-is ∙ window-begun s c.args.i w.if-i-lt31.true l
      | else-i-lt31 w ↦ ap (λ (b : Bor (List ℤ)). b.now) w.window-is ∙ window-whole s c.args.i w.if-i-lt31.false
    ]

pub decide-requires : goal.decide-requires
decide-requires c = window-samples c.args.self.now c.args.i c.requires _ (window c)

pub returns : goal.returns
returns c = c.decide.ensures ∙ window-judged c.args.self.now c.args.i c.requires _ (window (goal.at.returns c).After-unwrap)
