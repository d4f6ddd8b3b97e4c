-- The windows of a sending, and what a receiver decides in them under every disturbance up to a bound: the numbers behind demand 3
-- (the specification, "Whole recordings"). The definitions are ours.
-- Assumes nothing.
use Rattle.std.specs.Prelude.{◌≡◌, Bool, true, false, List, ◌++◌, ℕ, zero, suc, ◌+◌, ◌*◌, ◌%◌, ◌<◌, ◌≤◌, ℤ, pos, take, drop, replicate}
use Rattle.integers.specs.Near.{Near}
use Rattle.sine.specs.Wave.{wave}
use Rattle.tones.specs.declared.Tones.{Tones}
use Rattle.tones.specs.Bands.{step_of}
use Rattle.control.specs.declared.Decision.{Decision}
use Rattle.control.specs.Rules.{bit_of}

-- the most that a sample is altered by, either way: the specification, "Whole recordings"
abbrev pub disturbance : ℕ
disturbance = 100

-- what the two energies then still differ by wherever a data or stop slot falls: the specification, "Quality beside each character"
abbrev pub clearance : ℕ
clearance = 200000000000000000

-- the phase after a bit that begins at the phase p
abbrev pub phase_after_bit : Tones → ℕ → ℕ → ℕ
phase_after_bit t p bit = (p + 32 * step_of t bit) % 1920

-- the last 32 - k samples of the bit a, which begins at the phase p, and the first k of the bit b behind it
unfoldable pub across : (t : Tones) (p a b k : ℕ) → List ℤ
across t p a b k = drop k (wave 32 (step_of t a) p) ++ take k (wave 32 (step_of t b) (phase_after_bit t p a))

-- the last 32 - k samples of a mark bit that begins at the phase p, and k silent ones behind it
unfoldable pub mark_then_silence : (t : Tones) (p k : ℕ) → List ℤ
mark_then_silence t p k = drop k (wave 32 t.mark p) ++ replicate k (pos 0)

-- the bit 0 is space, and every other number mark, as `step_of` has it
abbrev pub is_space : ℕ → Bool
is_space zero = true
is_space (suc bit) = false

-- What is decided in every window of a sending by the tones t, each of whose samples is altered by at most `noise`. `decide` is what
-- decides in a window: `decision_of t`, as in the receiver, or a rule that doubts more; with the second the promise also says how far the
-- energies differ where slots fall. `Begins` holds of the phases at which a bit can begin.
pub record Margins (noise : ℕ) (t : Tones) (decide : List ℤ → Decision) : Type 1 where
  pub Begins : ℕ → Type 0
  pub first_bit : Begins 0
  pub next_bit : (p : ℕ) → Begins p → (bit : ℕ) → Begins (phase_after_bit t p bit)
  -- the level is good in every window of two successive bits
  pub carrier : (p : ℕ) → Begins p → (a b k : ℕ) → k < 32 → (w : List ℤ) → Near noise (across t p a b k) w → (decide w).good ≡ true
  -- the earlier bit is read up to 14 samples of the later one, the later from 19 on, and a bit that follows itself throughout
  pub earlier : (p : ℕ) → Begins p → (a b k : ℕ) → k ≤ 14 → (w : List ℤ) → Near noise (across t p a b k) w → (decide w).space ≡ is_space a
  pub later : (p : ℕ) → Begins p → (a b k : ℕ) → 19 ≤ k → k < 32 → (w : List ℤ) → Near noise (across t p a b k) w
      → (decide w).space ≡ is_space b
  pub steady : (p : ℕ) → Begins p → (a k : ℕ) → k < 32 → (w : List ℤ) → Near noise (across t p a a k) w → (decide w).space ≡ is_space a
  -- where a slot falls, with up to 3 samples of the later bit or 31, the bit is not doubtful
  pub earlier_clear : (p : ℕ) → Begins p → (a b k : ℕ) → k ≤ 3 → (w : List ℤ) → Near noise (across t p a b k) w → (decide w).bit ≡ bit_of a
  pub later_clear : (p : ℕ) → Begins p → (a b k : ℕ) → 31 ≤ k → k < 32 → (w : List ℤ) → Near noise (across t p a b k) w
      → (decide w).bit ≡ bit_of b
  -- space is not above mark while at most 15 silent samples have followed a mark bit
  pub mark_then_silence : (p : ℕ) → Begins p → (k : ℕ) → k ≤ 15 → (w : List ℤ) → Near noise (mark_then_silence t p k) w → (decide w).space ≡ false
  -- silence has no good level
  pub silent : (w : List ℤ) → Near noise (replicate 32 (pos 0)) w → (decide w).good ≡ false
