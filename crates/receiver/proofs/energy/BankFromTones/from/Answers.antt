-- `<receiver::energy::Bank as From<Tones>>::from` meets its contract.
-- Assumes nothing.
use Rattle.receiver.proofs.Energies.{decision_by_parts}
use Rattle.receiver.proofs.energy.BankFromTones.from.Goals as goal

pub returns : goal.returns
returns c =
    decision_by_parts c.args.tones c.weights-weights.result c.of.result c.of-2.result c.weights-weights.ensures
    c.of.ensures.cos c.of.ensures.sin c.of-2.ensures.cos c.of-2.ensures.sin
