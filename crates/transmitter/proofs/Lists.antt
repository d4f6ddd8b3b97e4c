-- Demand 2 over lists of calls, from the law of lists of calls and the laws of sending.
-- Assumes nothing.
use mathlib.Core.Path.{◌≡◌, ◌∙◌, ap}
use mathlib.Core.Bool.{true}
use mathlib.Core.List.{List}
use mathlib.Mathlib.Data.Bool.Basic.{and_elim_left, and_elim_right, and_intro}
use Prim.Native.Nat.{ℕ, suc, ◌%◌}
use borrow.Author.Tests.{lt-ltb, ltb-true}
use lib.Dec.{ltb}
use lib.IntN.{ℤ, pos}
use lib.ListN.{length, get_or}
use Rattle.calls.specs.Outcome.{Outcome, refused}
use Rattle.calls.specs.Lists.{state_after}
use Rattle.calls.proofs.Lists.{one_keeps, IsRun, refused-run, accepted-run, joined-state, joined-front}
use Rattle.tones.specs.Bands.{is_band}
use Rattle.transmitter.specs.declared.Transmitter.{Transmitter}
use Rattle.transmitter.specs.Samples.{send, phase_after}
use Rattle.transmitter.specs.Calls.{in_range, sent}
use Rattle.transmitter.specs.Lists.{Call, idle, characters, call_of, bits_of, samples_written, steps_sent, Continuous}
use Rattle.transmitter.proofs.Laws.{length-send, send_at, phase-total, phase-below, sending_laws}
use Rattle.transmitter.proofs.Rules.{idle_case, characters_case}

-- each call is a run over its bits
abbrev CallRuns : Call → Transmitter → Outcome Transmitter (List ℤ) → Type 0
CallRuns c = IsRun one_keeps sending_laws (bits_of c)

module _ (c : Call) (s : Transmitter) (lent : List ℤ) where
  refuses : (n : ℕ) → CallRuns c s (refused (suc n) s lent)
  refuses n = refused-run one_keeps sending_laws n s (bits_of c) lent

  sends : CallRuns c s (sent s (bits_of c) lent)
  sends = accepted-run one_keeps sending_laws s (bits_of c) lent

call-runs : (s : Transmitter) (c : Call) → CallRuns c s (call_of s c)
call-runs s (idle lent) =
    let c = idle lent in
    idle_case (CallRuns c s) s lent (refuses c s lent) (sends c s lent)
call-runs s (characters bytes lent) =
    let c = characters bytes lent in
    characters_case (CallRuns c s) s lent (refuses c s lent) bytes (sends c s lent)

-- steps keep a state in its ranges
pub steps_kept : (s : Transmitter) (steps : List ℕ) → in_range s ≡ true
    → in_range (record { band = s.band; phase = phase_after s.phase steps }) ≡ true
unfolding in_range
steps_kept s steps h =
    let band = and_elim_left (is_band s.band) (ltb s.phase 1920) h in
    let phase = ltb-true s.phase 1920 (and_elim_right (is_band s.band) (ltb s.phase 1920) h) in
    and_intro band (lt-ltb (phase_after s.phase steps) 1920 (phase-below s.phase steps phase))

-- the samples written are those of the bits of the accepted calls
pub samples-written : (s : Transmitter) (calls : List Call) → samples_written s calls ≡ send s.phase (steps_sent s calls)
samples-written s calls = joined-front one_keeps sending_laws call_of bits_of call-runs s calls

pub continuous : (s : Transmitter) (calls : List Call) → Continuous s calls
continuous s calls =
    record {
      long = ap length (samples-written s calls) ∙ length-send s.phase (steps_sent s calls);
      sample = λ i h. ap (λ (l : List ℤ). get_or l i (pos 0)) (samples-written s calls) ∙ send_at s.phase (steps_sent s calls) i h;
      phase = ap (λ (t : Transmitter). t.phase % 1920) state ∙ phase-total s.phase (steps_sent s calls);
      band = ap (λ (t : Transmitter). t.band) state;
      range = λ h. rw state (steps_kept s (steps_sent s calls) h);
    }
  where
    state : state_after call_of s calls ≡ record { band = s.band; phase = phase_after s.phase (steps_sent s calls) }
    state = joined-state one_keeps sending_laws call_of bits_of call-runs s calls
