-- A message that is sent, disturbed and read back in one call. The call is ours; it sends as the specification's "Transmitter" has it, alters
-- the samples as its "Whole recordings" allows, and reads in blocks of one size.
-- Assumes nothing.
use Rattle.std.specs.Prelude.{Bool, not, ◌&&◌, List, [], ◌∷◌, map, ℕ, leb, ℤ, pos, neg_ℤ, length}
use Rattle.integers.specs.Near.{altered}
use Rattle.calls.specs.Refusals.{Test, test}
use Rattle.calls.specs.Outcome.{Outcome, unless_refused, over}
use Rattle.tones.specs.Bands.{is_band}
use Rattle.tones.specs.Samples.{most_samples, are_between}
use Rattle.transmitter.specs.Calls.{most_characters}
use Rattle.receiver.specs.Step.{measured_after}
use Rattle.receiver.specs.Calls.{fresh}
use Rattle.message.specs.Message.{message_of, samples_for}
use Rattle.margin.specs.Windows.{disturbance}

-- the three lent lists
pub record Lists : Type 0 where
  pub samples : List ℤ
  pub events : List ℕ
  pub differences : List ℤ

abbrev pub lists : List ℤ → List ℕ → List ℤ → Lists
lists samples events differences = record { samples = samples; events = events; differences = differences }

-- the samples of the message, each with the number at its place added
abbrev pub recorded_of : (band : ℕ) (characters : List ℕ) (added : List ℤ) → List ℤ
recorded_of band characters added = altered (message_of band characters) added

-- the differences of its events, as the fresh receiver of the band reads it
abbrev pub differences_of : (band : ℕ) (characters : List ℕ) (added : List ℤ) → List ℤ
differences_of band characters added = map (λ (e : ℕ × ℤ). e.1) (measured_after (fresh band) (recorded_of band characters added))

-- as many characters as one call takes, and blocks of 1 to 16,384 samples
abbrev pub is_size : (characters size : ℕ) → Bool
is_size characters size = leb characters most_characters && leb 1 size && leb size most_samples

-- no number is larger than a disturbance may be, either way
abbrev pub are_disturbances : List ℤ → Bool
are_disturbances = are_between (neg_ℤ (pos disturbance)) (pos disturbance)

-- a number for each sample, and a place for each sample, each event and each difference
abbrev pub is_room : (characters added samples events differences : ℕ) → Bool
is_room characters added samples events differences =
    leb (samples_for characters) added && leb (samples_for characters) samples && leb characters events && leb characters differences

-- after the specification's table: 1 no band, 3 too many characters or no size of a block, 5 some number outside its range, 4 a list too short
abbrev pub loopback_tests : (band characters : ℕ) (added : List ℤ) (size samples events differences : ℕ) → List Test
loopback_tests band characters added size samples events differences =
    test 1 (not (is_band band))
    ∷ test 3 (not (is_size characters size))
    ∷ test 5 (not (are_disturbances added))
    ∷ test 4 (not (is_room characters (length added) samples events differences))
    ∷ []

-- accepted: the events are the characters, the samples are left as they were read, and beside each event is its difference
abbrev pub accepted_loopback : (band : ℕ) (characters : List ℕ) (added : List ℤ) → Lists → Outcome Unit Lists
accepted_loopback band characters added lent =
    record {
      number = 0;
      count = length characters;
      state = tt;
      lent =
          lists (over (recorded_of band characters added) lent.samples) (over characters lent.events)
          (over (differences_of band characters added) lent.differences);
    }

unfoldable pub loopback_of : (band : ℕ) (characters : List ℕ) (added : List ℤ) (size : ℕ) → Lists → Outcome Unit Lists
loopback_of band characters added size lent =
    unless_refused (loopback_tests band (length characters) added size (length lent.samples) (length lent.events) (length lent.differences))
    tt lent (accepted_loopback band characters added lent)
