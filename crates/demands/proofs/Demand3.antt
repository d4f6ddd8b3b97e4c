-- Demand 3.
-- Assumes nothing.
use Rattle.promise.proofs.Promise.{all_read}
use Rattle.promise.proofs.Possible.{not_vacuous}
use Rattle.doubts.proofs.Doubts.{doubts}
use Rattle.differences.proofs.Differences.{differences}
use Rattle.tapped.proofs.Tapped.{read_on_tap, pairs_possible, taps_possible, read_with_indices}
use Rattle.modulator.proofs.Cut as modulate
use Rattle.demodulator.proofs.Cut as demodulate
use Rattle.read_back.proofs.ReadBack.{read_back}
use Rattle.demands.specs.Demand3.{Demand3}

pub demand_3 : Demand3
demand_3 =
    record {
      promise = all_read;
      possible = not_vacuous;
      never_doubtful = doubts.in_recordings;
      clear = differences.clear;
      on_tap = read_on_tap;
      pairs_possible = pairs_possible;
      taps_possible = taps_possible;
      with_indices = read_with_indices;
      programs = read_back;
      sending_cut = modulate.cut_input;
      reading_cut = demodulate.cut_input;
    }
