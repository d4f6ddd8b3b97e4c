-- A held break, in one theorem: the specification, "A held break key".
-- Assumes nothing.
use Rattle.std.specs.Prelude.{◌≡◌, true, List, ℕ, ℤ}
use Rattle.tones.specs.Bands.{is_band}
use Rattle.receiver.specs.declared.Receiver.{Receiver}
use Rattle.receiver.specs.Lists.{Call}
use Rattle.margin.specs.Windows.{disturbance}
use Rattle.breaks.specs.Held.{ToldExactly, HeldOver, HeldOverCalls, OneEvent, SomeBreak}
use Rattle.breaks.specs.Line.{Line, ReadAsKeyed, LinesPossible}

pub record Breaks : Type 0 where
  -- over the step rule: what brings 258, and that nothing is told while the break is held
  pub told : (s : Receiver) (x : ℤ) → ToldExactly s x
  pub held : (s : Receiver) (xs : List ℤ) → HeldOver s xs
  -- over every list of block calls, refused ones among them
  pub held_over_calls : (s : Receiver) (calls : List Call) → HeldOverCalls s calls
  pub one_event : (s : Receiver) (calls : List Call) → OneEvent s calls
  pub some : (band : ℕ) → is_band band ≡ true → SomeBreak band
  -- on lines with breaks among their characters, each sample altered by at most 100
  pub lines : (l : Line disturbance) → ReadAsKeyed l
  pub possible : LinesPossible
