-- Demand 2.
-- Assumes nothing.
use Rattle.sine.proofs.Rule.{S_rule, S_unique, S-only}
use Rattle.transmitter.proofs.Lists.{continuous}
use Rattle.transmitter.proofs.Examples.{examples}
use Rattle.receiver.proofs.Lists.{one_reading, two_blocks}
use Rattle.receiver.proofs.Indexed.{indexed_reading}
use Rattle.receiving.proofs.Stored.{state-stored}
use Rattle.differences.proofs.Differences.{differences}
use Rattle.tap.proofs.Lists.{both_directions}
use Rattle.demands.specs.Demand2.{Demand2}

pub demand_2 : Demand2
demand_2 =
    record {
      sine = S_rule;
      nearest = S_unique;
      only = S-only;
      samples = continuous;
      events = one_reading;
      joined_blocks = two_blocks;
      indices = indexed_reading;
      unsteered = differences.unsteered;
      own_slots = differences.own_slots;
      both_directions = both_directions;
      stored = state-stored;
      tap_stored = λ t i. record { first = state-stored t.first i; second = state-stored t.second i };
      examples = examples;
    }
