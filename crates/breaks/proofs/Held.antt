-- A held break over samples and over lists of calls, from the case laws of `control` and the law of lists of calls.
-- Assumes nothing.
use mathlib.Core.Path.{◌≡◌, refl, sym, ap, ◌∙◌}
use mathlib.Core.Bool.{true, false}
use mathlib.Core.List.{List, [], ◌∷◌, ◌++◌}
use Prim.Native.Nat.{ℕ}
use native.Mathlib.Omega.{arith}
use lib.IntN.{ℤ, pos}
use lib.ListN.{take, drop}
use Rattle.std.specs.Prelude.{Some}
use Rattle.integers.specs.Near.{Near}
use Rattle.integers.proofs.Near.{near_self}
use Rattle.calls.specs.Runs.{after, gives}
use Rattle.calls.proofs.Runs.{run_laws}
use Rattle.sine.specs.Sine.{S}
use Rattle.sine.specs.Wave.{wave}
use Rattle.sine.proofs.Wave.{wave-more, wave_bound}
use Rattle.tones.specs.declared.Tones.{Tones}
use Rattle.tones.specs.Bands.{is_band, tones_of}
use Rattle.tones.proofs.Samples.{bounded_samples}
use Rattle.control.specs.declared.Decision.{Decision}
use Rattle.control.specs.declared.Next.{Next}
use Rattle.control.specs.declared.Stage.{Stage}
use Rattle.control.specs.declared.Stage.TheVariants.{Waiting, Held}
use Rattle.control.specs.declared.Control.{Control}
use Rattle.control.specs.Ranges.{is_slot, is_stage, is_control}
use Rattle.control.specs.Rules.{break_begun, numbers, quiet, hold_break, run_after, next_of}
use Rattle.control.proofs.Rules.{control-after, events-reported, held_on, wait_taken, stop-break}
use Rattle.control.proofs.Ranges.{control_stage}
use Rattle.control.proofs.Events.{break-only}
use Rattle.quality.specs.Quality.{is_kept}
use Rattle.receiver.specs.declared.Receiver.{Receiver}
use Rattle.receiver.specs.Energy.{decision_of}
use Rattle.receiver.specs.Step.{control_of, entered, decision_at, after_sample, events_at, state_after, events_after}
use Rattle.receiver.specs.Lists.{Call, samples_read}
use Rattle.receiver.proofs.Ranges.{in_range_lem, from_ranges}
use Rattle.receiver.proofs.Lists.{one_reading}
use Rattle.receiver.proofs.Windows.{control-sample}
use Rattle.margin.specs.Windows.{disturbance, phase_after_bit, across, Margins}
use Rattle.margin.proofs.Bands.{margins}
use Rattle.breaks.specs.Held.{BeginsBreak, ToldExactly, SomeBreak, ended_by, NoneEnds, HeldOver, HeldOverCalls, EndsInBreak, OneEvent}

-- ---- one sample

module _ (s : Receiver) (x : ℤ) (n : Next) (e : next_of s.stage (run_after s.run (decision_at s x).good) (decision_at s x) ≡ n) where
  abbrev run : ℕ
  run = run_after s.run (decision_at s x).good

  stage-after : (after_sample s x).stage ≡ n.stage
  stage-after = ap (λ (c : Control). c.stage) (control-sample s x ∙ control-after (control_of s) (decision_at s x) run n refl (sym e))

  events_with : events_at s x ≡ numbers n.event
  unfolding events_at
  events_with = events-reported (control_of s) (decision_at s x) run n refl (sym e)

-- a sample that does not end a held break
held_next : (s : Receiver) (x : ℤ) → s.stage ≡ Held → ended_by s x ≡ false
    → next_of s.stage (run_after s.run (decision_at s x).good) (decision_at s x) ≡ quiet Held
held_next s x h e = rw h (held_on (run_after s.run (decision_at s x).good) (decision_at s x) e)

-- a sample that begins one
break-next : (s : Receiver) (x : ℤ) → BeginsBreak s x → next_of s.stage (run_after s.run (decision_at s x).good) (decision_at s x) ≡ hold_break
break-next s x b =
    let d : Decision = decision_at s x in
    let run : ℕ = run_after s.run d.good in
    ap (λ (stage : Stage). next_of stage run d) b.stop ∙ wait_taken run d 1 9 0 refl
    ∙ stop-break 0 d 9 (λ z. omega arith) b.good (omega arith) b.space refl

pub told-exactly : (s : Receiver) (x : ℤ) → ToldExactly s x
told-exactly s x h = (only, λ b. events_with s x hold_break (break-next s x b))
  where
    d : Decision
    d = decision_at s x

    only : events_at s x ≡ break_begun ∷ [] → BeginsBreak s x
    only e =
        let k = break-only s.stage (run_after s.run d.good) d (control_stage (control_of s) (in_range_lem s h).control)
        (sym (events_with s x _ refl) ∙ e) in
        record { stop = k.0; good = k.1; space = k.2 }

-- ---- samples

pub held-over : (s : Receiver) (xs : List ℤ) → HeldOver s xs
unfolding after gives NoneEnds
held-over s [] h n = (refl, h)
held-over s (x ∷ xs) h n =
    let next = held_next s x h n.0 in
    let rest = held-over (after_sample s x) xs (stage-after s x (quiet Held) next) n.1 in
    ((λ i. events_with s x (quiet Held) next i ++ rest.0 i), rest.1)

-- ---- lists of calls

pub held_over_calls : (s : Receiver) (calls : List Call) → HeldOverCalls s calls
held_over_calls s calls h n =
    let one = one_reading s calls in
    let k = held-over s (samples_read s calls) h n in
    (one.events ∙ k.0, ap (λ (t : Receiver). t.stage) one.state ∙ k.1)

-- the part before, the sample that begins the break, and the part behind
module _ (s : Receiver) (xs : List ℤ) (b : EndsInBreak s xs) where
  abbrev here : Receiver
  here = state_after s b.before

  next : next_of here.stage (run_after here.run (decision_at here b.first).good) (decision_at here b.first) ≡ hold_break
  next = break-next here b.first b.begins

  behind : (events_after (after_sample here b.first) b.behind ≡ []) × ((state_after (after_sample here b.first) b.behind).stage ≡ Held)
  behind = held-over (after_sample here b.first) b.behind (stage-after here b.first hold_break next) b.lasts

  break-events : events_after s xs ≡ events_after s b.before ++ break_begun ∷ []
  unfolding gives
  break-events =
      ap (events_after s) b.parts
      ∙ (run_laws after_sample events_at).gives_append s b.before (b.first ∷ b.behind)
      ∙ (λ i. events_after s b.before ++ (events_with here b.first hold_break next i ++ behind.0 i))

  break-stage : (state_after s xs).stage ≡ Held
  unfolding after
  break-stage =
      ap (λ (l : List ℤ). (state_after s l).stage) b.parts
      ∙ ap (λ (t : Receiver). t.stage) ((run_laws after_sample events_at).after_append s b.before (b.first ∷ b.behind))
      ∙ behind.1

pub one_event : (s : Receiver) (calls : List Call) → OneEvent s calls
one_event s calls b =
    let one = one_reading s calls in
    (one.events ∙ break-events s (samples_read s calls) b, ap (λ (t : Receiver). t.stage) one.state ∙ break-stage s (samples_read s calls) b)

-- ---- that there are breaks: 32 samples of space, and one more

module _ (band : ℕ) (known : is_band band ≡ true) where
  abbrev tones : Tones
  tones = tones_of band

  abbrev state : Receiver
  state = record { band = band; window = wave 32 tones.space 0; run = 32; stage = Waiting 1 9 0; smallest = Some (pos 0) }

  abbrev sample : ℤ
  sample = S (phase_after_bit tones 0 0)

  -- the window behind it
  space-window : across tones 0 0 0 1 ≡ entered state.window sample
  unfolding across
  space-window = ap (λ (xs : List ℤ). drop 1 state.window ++ take 1 xs) (wave-more 31 tones.space (phase_after_bit tones 0 0))

  near : Near disturbance (across tones 0 0 0 1) (entered state.window sample)
  near = rw space-window (near_self (entered state.window sample))

  pub some-break : SomeBreak band
  unfolding is_control is_stage is_slot is_kept
  some-break =
      let M : Margins disturbance tones (decision_of tones) = margins band in
      record {
        state = state;
        sample = sample;
        in_band = refl;
        in_range = from_ranges state (record { band = known; window = bounded_samples state.window (omega arith) (wave_bound 32 tones.space 0); control = refl; kept = refl });
        begins =
            record {
              stop = refl;
              good = M.carrier 0 M.first_bit 0 0 1 (omega arith) (entered state.window sample) near;
              space = M.earlier_clear 0 M.first_bit 0 0 1 (omega arith) (entered state.window sample) near;
            };
      }
