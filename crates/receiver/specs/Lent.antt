-- The lists that are lent for the events of a block, as the code fills them. The definitions are ours.
-- Assumes nothing.
use Rattle.std.specs.Prelude.{◌≡◌, List, [], ◌∷◌, map, ℕ, ◌+◌, ℤ, length, Option, Some, None}
use Rattle.std.proofs.lemmas.List.Edits.{sets}
use Rattle.control.specs.Rules.{event_number}
use Rattle.receiver.specs.declared.filling.Lists.{Lists}
use Rattle.receiver.specs.declared.filling.Told.{Told}

-- its number with the difference, if there is an event
abbrev pub told_by : Option Told → List (ℕ × ℤ)
told_by None = []
told_by (Some told) = (event_number told.event, told.difference) ∷ []

-- the three sides of events with their differences and indices
abbrev pub numbers_told : List ((ℕ × ℤ) × ℕ) → List ℕ
numbers_told = map (λ (e : (ℕ × ℤ) × ℕ). e.0.0)

abbrev pub differences_told : List ((ℕ × ℤ) × ℕ) → List ℤ
differences_told = map (λ (e : (ℕ × ℤ) × ℕ). e.0.1)

abbrev pub indices_told : List ((ℕ × ℤ) × ℕ) → List ℕ
indices_told = map (λ (e : (ℕ × ℤ) × ℕ). e.1)

-- the lists are those that were lent
pub record SameLists (old new : Lists) : Type 0 where
  pub events : new.events.ghost_name ≡ old.events.ghost_name
  pub differences : new.differences.ghost_name ≡ old.differences.ghost_name
  pub indices : new.indices.ghost_name ≡ old.indices.ghost_name

-- The events are put behind those that were there, with their differences and, as far as there are places, their indices.
pub record Put (old new : Lists) (told : List ((ℕ × ℤ) × ℕ)) : Type 0 where
  pub count : new.count ≡ old.count + length told
  pub events : new.events.now ≡ sets old.events.now old.count (numbers_told told)
  pub differences : new.differences.now ≡ sets old.differences.now old.count (differences_told told)
  pub indices : new.indices.now ≡ sets old.indices.now old.count (indices_told told)
  pub same : SameLists old new
