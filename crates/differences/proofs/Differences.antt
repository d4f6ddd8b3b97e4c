-- The differences, in one theorem. That those of a line inside the margin are at least `clearance` is the promise, read by a receiver that
-- doubts every smaller one.
-- Assumes nothing.
use mathlib.Core.Path.{refl, sym, ◌∙◌, subst}
use Rattle.quality.proofs.Clear.{AllAtLeast}
use Rattle.receiver.specs.Calls.{fresh}
use Rattle.receiver.specs.Lists.{samples_read}
use Rattle.receiver.proofs.Lists.{one_reading}
use Rattle.receiver.proofs.Windows.{measured_windows}
use Rattle.margin.specs.Windows.{disturbance, clearance}
use Rattle.promise.specs.Recordings.{Transmission}
use Rattle.promise.proofs.Promise.{clear-differences}
use Rattle.differences.specs.Differences.{AllClear, Differences}
use Rattle.differences.proofs.Plain.{unsteered}
use Rattle.differences.proofs.Slots.{own_slots}

pub all_clear : (t : Transmission disturbance) → AllClear t
all_clear t =
    subst (AllAtLeast clearance)
    (sym ((one_reading (fresh t.band) t.blocks).measured ∙ measured_windows (fresh t.band) (samples_read (fresh t.band) t.blocks) refl))
    (clear-differences t)

pub differences : Differences
differences = record { unsteered = unsteered; own_slots = own_slots; clear = all_clear }
