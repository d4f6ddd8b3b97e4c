-- Demand 3: the guide's promise. Of two recordings of sendings, each in a known band, the same or another, with silence around it and every
-- sample altered by at most 100, each list of events is the characters sent, no event is a fault, and the two lists are equal exactly when
-- the characters are: over lists of calls, refused ones among them. Decision 15; the specification, "Whole recordings".
-- Assumes nothing.
use Rattle.margin.specs.Windows.{disturbance}
use Rattle.promise.specs.Recordings.{Transmission, events}
use Rattle.promise.specs.ReadAsSent.{ReadAsSent}
use Rattle.promise.specs.Possible.{NotVacuous}
use Rattle.doubts.specs.Doubts.{NoneDoubtful}
use Rattle.differences.specs.Differences.{AllClear}
use Rattle.tapped.specs.Tapped.{PairsPossible, Tapped, ReadOnTap, TapsPossible, Indexed, ReadWithIndices}
use Rattle.modulator.specs.Modulate as modulate
use Rattle.demodulator.specs.Demodulate as demodulate
use Rattle.read_back.specs.ReadBack.{ReadBack}

pub record Demand3 : Type 0 where
  pub promise : (a b : Transmission disturbance) → ReadAsSent a b
  -- it speaks of something: every message and every cut of it and of its recording has such calls
  pub possible : NotVacuous
  -- and it never shows a doubtful bit
  pub never_doubtful : (t : Transmission disturbance) → NoneDoubtful (events t)
  -- and no event has a difference below `clearance`
  pub clear : (t : Transmission disturbance) → AllClear t
  -- read by a tap on a pair that has the sending's band, the events of that band are the characters sent, whatever the other receiver
  -- tells; and so are the events that are read with indices
  pub on_tap : (t : Tapped disturbance) → ReadOnTap t
  pub pairs_possible : PairsPossible
  pub taps_possible : TapsPossible
  pub with_indices : (t : Indexed disturbance) → ReadWithIndices t
  -- the two programs, one behind the other
  pub programs : ReadBack
  -- what each of them prints for its whole input, it prints for the part that it reads
  pub sending_cut : modulate.CutInput
  pub reading_cut : demodulate.CutInput
