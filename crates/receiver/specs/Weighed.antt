-- The windows of a block as the code weighs them: energies and decisions by the weights of a band's tones, and the lists that the windows are
-- parts of. The definitions are ours.
-- Assumes nothing.
use Rattle.std.specs.Prelude.{◌≡◌, false, true, List, ◌++◌, ℕ, ◌+◌, ◌<◌, ℤ, pos, ◌+ℤ◌, ◌*ℤ◌, length, get_or, take, drop}
use Rattle.integers.specs.Sums.{dot}
use Rattle.tones.specs.Samples.{are_samples}
use Rattle.control.specs.declared.Bit.TheVariants.{Doubtful}
use Rattle.control.specs.declared.Decision.{Decision}
use Rattle.weighing.specs.Weighing.{decided}
use Rattle.receiver.specs.declared.energy.Tone.{Tone}
use Rattle.receiver.specs.declared.energy.Bank.{Bank}

-- ---- energies by the weights of a tone

abbrev pub energy_by : Tone → List ℤ → ℤ
energy_by tone window = dot window tone.cos *ℤ dot window tone.cos +ℤ dot window tone.sin *ℤ dot window tone.sin

abbrev pub decision_by : Bank → List ℤ → Decision
decision_by bank window = decided (energy_by bank.space window) (energy_by bank.mark window)

-- ---- the windows of a block

-- the last 31 samples before the block, which stand in the head behind an older one, and the block
abbrev pub recorded : List ℤ → List ℤ → List ℤ
recorded head samples = take 31 (drop 1 head) ++ samples

-- what the code takes windows from
pub record IsSource (head samples : List ℤ) : Type 0 where
  pub inside : are_samples (recorded head samples) ≡ true
  pub long : length head ≡ 64
  -- the windows that begin before the block stand in the head
  pub begun : (i : ℕ) → i < 31 → i < length samples → take 32 (drop (i + 1) head) ≡ take 32 (drop i (recorded head samples))

-- decision i, where there is one
abbrev pub unjudged : Decision
unjudged = record { good = false; space = false; bit = Doubtful; difference = pos 0 }

abbrev pub judged : List Decision → ℕ → Decision
judged ds i = get_or ds i unjudged
