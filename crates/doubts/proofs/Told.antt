-- What tells a doubtful bit, from the case laws of `control` and what each bit says of the energies; and that there are such bits.
-- Assumes nothing.
use mathlib.Core.Path.{◌≡◌, refl, sym, ap, ◌∙◌}
use mathlib.Core.Bool.{Bool, true, cond, ◌&&◌}
use mathlib.Core.List.{List, [], ◌∷◌}
use mathlib.Mathlib.Data.Bool.Basic.{and_elim_left, and_elim_right}
use Prim.Native.Nat.{ℕ, ◌*◌, ◌<◌}
use native.Mathlib.Omega.{arith}
use borrow.Author.Tests.{le-leb, leb-true, ltb-true}
use lib.Dec.{leb, ltb}
use lib.IntN.{ℤ, pos}
use lib.ListN.{get_or, take}
use Rattle.std.specs.Prelude.{None}
use Rattle.integers.specs.Sums.{sum_to}
use Rattle.integers.proofs.Tests.{passes_below, below_at}
use Rattle.sine.specs.Sine.{S, half, nearest}
use Rattle.sine.specs.Wave.{wave}
use Rattle.tones.specs.Bands.{bands, is_band, tones_of}
use Rattle.tones.specs.Samples.{are_between}
use Rattle.tones.proofs.Laws.{band-digit}
use Rattle.control.specs.declared.Bit.TheVariants.{Doubtful}
use Rattle.control.specs.declared.Decision.{Decision}
use Rattle.control.specs.declared.event.Event.TheVariants.{DoubtfulBit}
use Rattle.control.specs.declared.Stage.{Stage}
use Rattle.control.specs.declared.Stage.TheVariants.{Waiting}
use Rattle.control.specs.declared.Control.{Control}
use Rattle.control.specs.Ranges.{is_slot, is_stage, is_control}
use Rattle.control.specs.Rules.{bit_doubtful, report, run_after, next_of}
use Rattle.control.proofs.Rules.{control-after, events-reported, wait_taken, doubt_taken}
use Rattle.control.proofs.Ranges.{control_stage}
use Rattle.control.proofs.Events.{doubt_only}
use Rattle.weighing.specs.Weighing.{level}
use Rattle.weighing.proofs.Laws.{level-ℕ, weighed_means}
use Rattle.quality.specs.Quality.{is_kept}
use Rattle.receiver.specs.declared.Receiver.{Receiver}
use Rattle.receiver.specs.Energy.{energyℕ}
use Rattle.receiver.specs.Step.{control_of, entered, decision_at, events_at}
use Rattle.receiver.specs.Calls.{in_range}
use Rattle.receiver.proofs.Energies.{decision_ℕ}
use Rattle.receiver.proofs.Ranges.{in_range_lem}
use Rattle.receiver.proofs.Windows.{control-sample}
use Rattle.margin.specs.Windows.{across}
use Rattle.doubts.specs.Doubts.{space_at, mark_at, larger_at, smaller_at, Doubted, ToldExactly, ThenSearches, SomeDoubt}

-- ---- one sample

module _ (s : Receiver) (x : ℤ) where
  abbrev d : Decision
  d = decision_at s x

  abbrev run : ℕ
  run = run_after s.run d.good

  good-level : d.good ≡ leb level (larger_at s x)
  good-level =
      ap (λ (d : Decision). d.good) (decision_ℕ (tones_of s.band) (entered s.window x)) ∙ level-ℕ (space_at s x) (mark_at s x)

  -- the bit is doubtful exactly if the energies are close
  doubtful_close : d.bit ≡ Doubtful → 4 * larger_at s x < 5 * smaller_at s x
  doubtful_close e =
      (weighed_means (space_at s x) (mark_at s x) Doubtful).0
      (sym (ap (λ (d : Decision). d.bit) (decision_ℕ (tones_of s.band) (entered s.window x))) ∙ e)

  close_doubtful : 4 * larger_at s x < 5 * smaller_at s x → d.bit ≡ Doubtful
  close_doubtful h =
      ap (λ (d : Decision). d.bit) (decision_ℕ (tones_of s.band) (entered s.window x))
      ∙ (weighed_means (space_at s x) (mark_at s x) Doubtful).1 h

  next : Doubted s x → next_of s.stage run d ≡ report DoubtfulBit
  next k =
      let slot : ℕ = k.slot in
      let nz : slot ≡ 0 → ⊥ = λ z. omega (arith, k.no_start) in
      ap (λ (stage : Stage). next_of stage run d) k.taken ∙ wait_taken run d 1 slot k.byte refl
      ∙ doubt_taken k.byte d slot nz (good-level ∙ le-leb level (larger_at s x) k.good) (close_doubtful k.close)

  pub told-exactly : ToldExactly s x
  unfolding events_at
  told-exactly h = (only, λ k. events-reported (control_of s) d run (report DoubtfulBit) refl (sym (next k)))
    where
      only : events_at s x ≡ bit_doubtful ∷ [] → Doubted s x
      only e =
          let k = doubt_only s.stage run d (control_stage (control_of s) (in_range_lem s h).control)
          (sym (events-reported (control_of s) d run (next_of s.stage run d) refl refl) ∙ e) in
          record {
            slot = k.slot;
            byte = k.byte;
            taken = k.stands;
            no_start = k.behind_start;
            good = leb-true level (larger_at s x) (sym good-level ∙ k.good);
            close = doubtful_close k.doubtful;
          }

  pub then_searches : ThenSearches s x
  then_searches k = ap (λ (c : Control). c.stage) (control-sample s x ∙ control-after (control_of s) d run (report DoubtfulBit) refl (sym (next k)))

-- ---- that there are such bits: in the window with half a mark bit and half a space bit behind it, at the phase 0

module _ (band : ℕ) where
  abbrev halfway : List ℤ
  halfway = across (tones_of band) 0 1 0 16

  -- all but its last sample behind a silent one, before slot 1
  abbrev state : Receiver
  state = record { band = band; window = pos 0 ∷ take 31 halfway; run = 32; stage = Waiting 1 1 0; smallest = None }

  abbrev sample : ℤ
  sample = get_or halfway 31 (pos 0)

  abbrev is_doubted : Bool
  is_doubted =
      in_range state && (leb level (larger_at state sample) && ltb (4 * larger_at state sample) (5 * smaller_at state sample))

  -- of numbers that are no band nothing is asked
  unfoldable doubted_in : Bool
  doubted_in = cond (is_band band) is_doubted true

all_doubted : passes_below doubted_in 10 ≡ true
unfolding doubted_in bands is_band tones_of are_between sum_to in_range is_control is_stage is_slot is_kept across energyℕ wave S half nearest
all_doubted = refl

pub some_doubt : (band : ℕ) (known : is_band band ≡ true) → SomeDoubt band
unfolding doubted_in
some_doubt band known =
    let passed : is_doubted band ≡ true = rw known at (below_at doubted_in 10 all_doubted band (band-digit band known)) in
    let s : Receiver = state band in
    let x : ℤ = sample band in
    let good : Bool = leb level (larger_at s x) in
    let close : Bool = ltb (4 * larger_at s x) (5 * smaller_at s x) in
    let energies : good && close ≡ true = and_elim_right (in_range s) (good && close) passed in
    record {
      state = s;
      sample = x;
      in_band = refl;
      in_range = and_elim_left (in_range s) (good && close) passed;
      doubted =
          record {
            slot = 1;
            byte = 0;
            taken = refl;
            no_start = omega arith;
            good = leb-true level (larger_at s x) (and_elim_left good close energies);
            close = ltb-true (4 * larger_at s x) (5 * smaller_at s x) (and_elim_right good close energies);
          };
    }
