-- Demand 1: every call is answered, whoever made it. It is accepted, or refused with the number of the first condition in its row of
-- the table that holds; a refused call reports count 0, gives back the state it was handed and changes no lent place; an accepted
-- reading has read all it was handed. Decision 15; the specification, "Refused calls".
--
-- The contracts equate what the code returns and leaves with the outcomes named here, so what is said of these is said of the code.
-- Assumes nothing.
use Rattle.std.specs.Prelude.{◌≡◌, List, [], ◌∷◌, ℕ, ℤ, length}
use Rattle.calls.specs.Outcome.{Outcome, accepted_in, one_list, both_in, accepted, front}
use Rattle.transmitter.specs.declared.Transmitter.{Transmitter}
use Rattle.transmitter.specs.Samples.{idle_bits, characters_bits}
use Rattle.transmitter.specs.Calls as transmitter
use Rattle.receiver.specs.declared.Receiver.{Receiver}
use Rattle.receiver.specs.Step.{state_after, measured_after, indexed_after}
use Rattle.receiver.specs.Calls as receiver
use Rattle.receiver.specs.Lists as reading
use Rattle.tap.specs.declared.Tap.{Tap}
use Rattle.tap.specs.Step as tap-step
use Rattle.tap.specs.Calls as tap
use Rattle.tap.specs.Lists as tapping
use Rattle.sheet.specs.Text.{sheet_of}
use Rattle.sheet.specs.Calls as sheet
use Rattle.demands.specs.Answers.{Answers, Opens}

-- an accepted reading of a sheet: band and samples are those of which the whole text is the sheet, and nothing else is written
pub record WholeSheet (text : List ℕ) (lent : List ℤ) (o : Outcome ℕ (List ℤ)) : Type 0 where
  pub whole : text ≡ sheet_of o.state (front o)
  pub given : o ≡ accepted o.state (front o) lent

pub record Demand1 : Type 0 where
  -- an opening gives the fresh state of its band, or of band 1; a tap's that of its pair, or of bands 1 and 2
  pub transmitter_opening : (band : ℕ) → let o = transmitter.open_of band in
      Opens (1 ∷ []) (transmitter.open_tests band) (transmitter.fresh band) (transmitter.fresh 1) o.number o.state
  pub receiver_opening : (band : ℕ) → let o = receiver.open_of band in
      Opens (1 ∷ []) (receiver.open_tests band) (receiver.fresh band) (receiver.fresh 1) o.number o.state
  pub tap_opening : (first second : ℕ) → let o = tap.open_of first second in
      Opens (1 ∷ 8 ∷ []) (tap.open_tests first second) (tap.fresh first second) (tap.fresh 1 2) o.number o.state
  -- idle and characters have sent every bit
  pub idle : (s : Transmitter) (lent : List ℤ)
      → Answers (2 ∷ 4 ∷ []) (transmitter.idle_tests s (length lent)) s lent
      (λ o. o ≡ accepted (transmitter.after_bits s idle_bits) (transmitter.samples_of s idle_bits) lent) (transmitter.idle_of s lent)
  pub characters : (s : Transmitter) (bytes : List ℕ) (lent : List ℤ)
      → Answers (2 ∷ 3 ∷ 4 ∷ []) (transmitter.characters_tests s (length bytes) (length lent)) s lent
      (λ o. o ≡ accepted (transmitter.after_bits s (characters_bits bytes)) (transmitter.samples_of s (characters_bits bytes)) lent)
      (transmitter.characters_of s bytes lent)
  -- a block, through either entry, has read every sample: state and events, with their differences, are those of the step rule over all of
  -- them
  pub block : (s : Receiver) (c : reading.Call)
      → Answers (2 ∷ 3 ∷ 5 ∷ 4 ∷ []) (receiver.block_tests s c.samples (receiver.shorter c.lent)) s c.lent
      (λ o. o ≡ accepted_in receiver.two_lists (state_after s c.samples) (measured_after s c.samples) c.lent) (reading.call_of s c)
  -- with indices it has told with which sample each event came
  pub block_indexed : (s : Receiver) (c : reading.IndexedCall)
      → Answers (2 ∷ 3 ∷ 5 ∷ 4 ∷ []) (receiver.block_tests s c.samples (receiver.shortest (c.lent, c.indices))) s (c.lent, c.indices)
      (λ o. o ≡ accepted_in (both_in receiver.two_lists one_list) (state_after s c.samples) (indexed_after s c.samples) (c.lent, c.indices))
      (reading.indexed_call_of s c)
  -- a tap has read every sample with both receivers
  pub tap_block : (t : Tap) (c : tapping.Call)
      → Answers (2 ∷ 3 ∷ 5 ∷ 4 ∷ []) (tap.block_tests t c.samples (receiver.shorter c.lent)) t c.lent
      (λ o. o ≡ accepted_in receiver.two_lists (tap-step.state_after t c.samples) (tap-step.measured_after t c.samples) c.lent) (tapping.call_of t c)
  -- a sheet is read whole, or written whole; a refused reading gives band 0
  pub sheet_reading : (text : List ℕ) (lent : List ℤ)
      → Answers (6 ∷ 7 ∷ 1 ∷ 3 ∷ 5 ∷ 4 ∷ []) (sheet.read_tests text (length lent)) 0 lent (WholeSheet text lent) (sheet.read_of text lent)
  pub sheet_writing : (band : ℕ) (samples : List ℤ) (lent : List ℕ)
      → Answers (1 ∷ 3 ∷ 5 ∷ 6 ∷ 4 ∷ []) (sheet.write_tests band samples (length lent)) tt lent
      (λ o. o ≡ accepted tt (sheet_of band samples) lent) (sheet.write_of band samples lent)
