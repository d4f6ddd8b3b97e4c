-- What a reading answers and what it leaves in the buffer, as an outcome: the specification, "Refused calls".
-- Assumes nothing.
use Rattle.std.specs.Prelude.{List, ℕ, ℤ, Result, Ok, Err}
use Rattle.calls.specs.declared.Refusal.{Refusal}
use Rattle.calls.specs.Refusals.{number_of}
use Rattle.calls.specs.Outcome.{Outcome, refused}
use Rattle.sheet_reader.specs.declared.Sheet.{Sheet}

-- the state is the band, and 0 in a refusal
abbrev pub reading : Result Sheet Refusal → List ℤ → Outcome ℕ (List ℤ)
reading (Ok sheet) lent = record { number = 0; count = sheet.count; state = sheet.band; lent = lent }
reading (Err refusal) lent = refused (number_of refusal) 0 lent
