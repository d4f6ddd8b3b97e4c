-- The test that antt computes: in the windows of two successive bits, of a mark bit with silence behind it, and of silence, the
-- bounds of the two energies decide. Waves and weights that a loop uses many times are passed as arguments, so that each is computed
-- once.
-- Assumes nothing.
use mathlib.Core.Bool.{Bool, true, false, cond, ◌&&◌, beq}
use mathlib.Core.List.{List, [], ◌∷◌, ◌++◌}
use Prim.Native.Nat.{ℕ, ◌+◌, ◌*◌, max}
use lib.Dec.{leb, ltb}
use lib.IntN.{ℤ, pos}
use lib.ListN.{take, drop, replicate}
use Rattle.integers.proofs.Tests.{passes, passes_below}
use Rattle.sine.specs.Wave.{wave}
use Rattle.tones.specs.declared.Tones.{Tones}
use Rattle.tones.specs.Bands.{step_of}
use Rattle.weighing.specs.Weighing.{level}
use Rattle.margin.specs.Windows.{phase_after_bit, is_space}
use Rattle.margin.proofs.Energies.{Bounds, ToneWeights, tone_weights, bounds}

-- ---- one window, by the bounds of the energies of space and mark

-- the level is good
unfoldable pub carrier_sure : (space mark : Bounds) → Bool
carrier_sure space mark = leb level (max space.least mark.least)

-- the level is not good
unfoldable pub silence_sure : (space mark : Bounds) → Bool
silence_sure space mark = ltb (max space.most mark.most) level

-- space is above mark, or it is not, as `above` says
unfoldable pub wins_sure : (above : Bool) (space mark : Bounds) → Bool
wins_sure true space mark = ltb mark.most space.least
wins_sure false space mark = leb space.most mark.least

-- the bit is space, or mark, as `above` says, and not doubtful, and the difference is at least `clear`
unfoldable pub clear_sure : (clear : ℕ) (above : Bool) (space mark : Bounds) → Bool
clear_sure clear true space mark = leb (5 * mark.most) (4 * space.least) && leb (clear + mark.most) space.least
clear_sure clear false space mark = leb (5 * space.most) (4 * mark.least) && leb (clear + space.most) mark.least

-- k samples of a later bit are in the window: the level is good, the earlier bit is read up to 14 of them, the later from 19 on, and
-- a bit that follows itself throughout; the earlier is clear up to 3 of them, and so is the later with 31; `earlier` and `later` say
-- whether these bits are space
unfoldable pub read_tests : (clear : ℕ) (earlier later : Bool) (k : ℕ) (space mark : Bounds) → List Bool
unfolding carrier_sure wins_sure clear_sure
read_tests clear earlier later k space mark =
    carrier_sure space mark
    ∷ cond (leb k 14) (wins_sure earlier space mark) true
    ∷ cond (leb 19 k) (wins_sure later space mark) true
    ∷ cond (beq earlier later) (wins_sure later space mark) true
    ∷ cond (leb k 3) (clear_sure clear earlier space mark) true
    ∷ cond (leb 31 k) (clear_sure clear later space mark) true
    ∷ []

unfoldable pub read_sure : (clear : ℕ) (earlier later : Bool) (k : ℕ) (space mark : Bounds) → Bool
unfolding read_tests
read_sure clear earlier later k space mark = passes (λ i b. b) 0 (read_tests clear earlier later k space mark)

-- ---- all windows at a phase

-- the weights of both tones, and the difference that is asked for where slots fall
pub record Weights : Type 0 where
  pub space : ToneWeights
  pub mark : ToneWeights
  pub clear : ℕ

unfoldable pub weights_of : (noise clear : ℕ) → Tones → Weights
unfolding tone_weights
weights_of noise clear t = record { space = tone_weights noise t.space; mark = tone_weights noise t.mark; clear = clear }

module _ (w : Weights) where
  unfoldable pub window_sure : ((space mark : Bounds) → Bool) → (sent : List ℤ) → Bool
  unfolding bounds
  window_sure sure sent = sure (bounds w.space sent) (bounds w.mark sent)

  -- xs are the samples of the earlier bit, ys those of the later
  unfoldable pub across_sure : (earlier later : Bool) (xs ys : List ℤ) → Bool
  unfolding window_sure read_sure
  across_sure earlier later xs ys = passes_below (λ k. window_sure (read_sure w.clear earlier later k) (drop k xs ++ take k ys)) 32

  -- xs are the samples of a mark bit
  unfoldable pub silence_behind_sure : (xs : List ℤ) → Bool
  unfolding window_sure wins_sure
  silence_behind_sure xs = passes_below (λ k. window_sure (wins_sure false) (drop k xs ++ replicate k (pos 0))) 16

  module _ (t : Tones) (p : ℕ) where
    -- the bit a, whose samples are xs, begins at the phase p, and the bit b follows
    unfoldable pub pair_sure : (a : ℕ) (xs : List ℤ) (b : ℕ) → Bool
    unfolding across_sure wave
    pair_sure a xs b = across_sure (is_space a) (is_space b) xs (wave 32 (step_of t b) (phase_after_bit t p a))

    -- both bits behind it
    unfoldable pub bit_sure : (a : ℕ) (xs : List ℤ) → Bool
    unfolding pair_sure
    bit_sure a xs = passes_below (pair_sure a xs) 2

    unfoldable pub phase_sure : Bool
    unfolding bit_sure silence_behind_sure wave
    phase_sure = passes_below (λ a. bit_sure a (wave 32 (step_of t a) p)) 2 && silence_behind_sure (wave 32 t.mark p)

  -- ---- silence, and `count` phases that are `stride` apart

  unfoldable pub all_sure : (t : Tones) (stride count : ℕ) → Bool
  unfolding window_sure silence_sure phase_sure
  all_sure t stride count = window_sure silence_sure (replicate 32 (pos 0)) && passes_below (λ i. phase_sure t (stride * i)) count

unfoldable pub test : (noise clear : ℕ) (t : Tones) (stride count : ℕ) → Bool
unfolding all_sure weights_of
test noise clear t = all_sure (weights_of noise clear t) t
