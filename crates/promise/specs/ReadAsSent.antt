-- What is read is what was sent, said of two recordings: the specification, "Whole recordings"; decision 15.
-- Assumes nothing.
use Rattle.std.specs.Prelude.{◌≡◌, ◌↔◌, ℕ}
use Rattle.promise.specs.Recordings.{AreBytes, Transmission, characters, events}

-- Two recordings: each list of events is the characters sent, no event is a fault, and the two lists are equal exactly when the
-- characters sent are.
pub record ReadAsSent {noise : ℕ} (a b : Transmission noise) : Type 0 where
  pub first : events a ≡ characters a
  pub second : events b ≡ characters b
  pub first_no_fault : AreBytes (events a)
  pub second_no_fault : AreBytes (events b)
  pub equal : (events a ≡ events b) ↔ (characters a ≡ characters b)
