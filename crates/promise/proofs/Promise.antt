-- That what is read is what was sent, from what a receiver gives of a recording and the laws of lists of calls.
-- Assumes nothing.
use mathlib.Core.Path.{◌≡◌, refl, sym, ap, ◌∙◌, subst}
use mathlib.Core.List.{List, [], ◌∷◌, ◌++◌, map, append_assoc}
use Prim.Native.Nat.{ℕ, ◌<◌}
use native.Mathlib.Omega.{arith}
use lib.IntN.{ℤ}
use Rattle.std.specs.Prelude.{None}
use Rattle.integers.specs.All.{none, more}
use Rattle.integers.specs.Near.{Near}
use Rattle.integers.proofs.Near.{near_self, near_append, near_altered}
use Rattle.calls.specs.Lists.{accepted_calls, each}
use Rattle.calls.proofs.Lists.{joined-each}
use Rattle.tones.specs.declared.Tones.{Tones}
use Rattle.tones.specs.Bands.{tones_of}
use Rattle.transmitter.specs.Samples.{send_bits, idle_bits, char_bits, characters_bits, message_bits}
use Rattle.transmitter.specs.Calls as transmitter
use Rattle.transmitter.specs.Lists as sending
use Rattle.transmitter.proofs.Lists.{samples-written}
use Rattle.control.specs.declared.Decision.{Decision}
use Rattle.control.specs.Rules.{carrier_lost, bit_doubtful, reports}
use Rattle.quality.specs.Quality.{measures}
use Rattle.quality.proofs.Clear.{strict, AreRead, none_yet, AllAtLeast, all_clear}
use Rattle.receiver.specs.Energy.{decision_of}
use Rattle.receiver.specs.Step.{control_of}
use Rattle.receiver.specs.Windows.{decisions}
use Rattle.receiver.specs.Calls as receiver
use Rattle.receiver.specs.Lists as reading
use Rattle.receiver.proofs.Lists.{one_reading}
use Rattle.receiver.proofs.Windows.{decisions_over, by_windows}
use Rattle.margin.specs.Windows.{disturbance, clearance, Margins}
use Rattle.margin.proofs.Bands.{margins, clear_margins}
use Rattle.promise.specs.Recordings.{AreBytes, bytes_of, characters_sent, EndsSending, IsSending, trailer, text, leader, silence, Recording, Transmission, characters, events}
use Rattle.promise.specs.ReadAsSent.{ReadAsSent}
use Rattle.promise.proofs.Windows.{decisions-map}
use Rattle.promise.proofs.Recording.{recorded}

-- ---- the bits of a sending

characters_append : (bs cs : List ℕ) → characters_bits (bs ++ cs) ≡ characters_bits bs ++ characters_bits cs
unfolding characters_bits
characters_append [] cs = refl
characters_append (b ∷ bs) cs =
    ap (λ (l : List ℕ). char_bits b ++ l) (characters_append bs cs) ∙ sym (append_assoc (char_bits b) (characters_bits bs) (characters_bits cs))

end_bits : (calls : List sending.Call) → EndsSending calls → each sending.bits_of calls ≡ characters_bits (each bytes_of calls) ++ idle_bits
unfolding characters_bits
end_bits calls (trailer lent) = refl
end_bits calls (text bytes lent {calls = rest} e) =
    ap (λ (l : List ℕ). characters_bits bytes ++ l) (end_bits rest e)
    ∙ sym (append_assoc (characters_bits bytes) (characters_bits (each bytes_of rest)) idle_bits)
    ∙ ap (λ (l : List ℕ). l ++ idle_bits) (sym (characters_append bytes (each bytes_of rest)))

sending_bits : (calls : List sending.Call) → IsSending calls → each sending.bits_of calls ≡ message_bits (each bytes_of calls)
sending_bits calls (leader lent {calls = rest} e) = ap (λ (l : List ℕ). idle_bits ++ l) (end_bits rest e)

-- ---- one transmission

-- a recording differs from what was sent by at most the noise, at each sample
pub recording_near : {noise : ℕ} {samples recorded : List ℤ} (r : Recording noise samples recorded)
    → Near noise (silence r.before ++ (samples ++ silence r.after)) recorded
recording_near {samples = samples} r = rw r.sum (near_altered (silence r.before ++ (samples ++ silence r.after)) r.added r.small)

-- the samples of a sending are those of the leader, the characters and the trailer
pub sent-samples : (band : ℕ) (calls : List sending.Call) → IsSending (accepted_calls sending.call_of (transmitter.fresh band) calls)
    → sending.samples_written (transmitter.fresh band) calls ≡ send_bits (tones_of band) 0 (message_bits (characters_sent band calls))
sent-samples band calls shape =
    samples-written (transmitter.fresh band) calls
    ∙ ap (send_bits (tones_of band) 0)
    (joined-each sending.call_of sending.bits_of (transmitter.fresh band) calls
    ∙ sending_bits (accepted_calls sending.call_of (transmitter.fresh band) calls) shape
    ∙ ap message_bits (sym (joined-each sending.call_of bytes_of (transmitter.fresh band) calls)))

module _ {noise : ℕ} (t : Transmission noise) where
  abbrev tones : Tones
  tones = tones_of t.band

  abbrev samples : List ℤ
  samples = reading.samples_read (receiver.fresh t.band) t.blocks

  near : Near noise (silence t.recording.before ++ (send_bits tones 0 (message_bits (characters t)) ++ silence t.recording.after)) samples
  near = rw (t.read, ← sent-samples t.band t.sent t.shape) (recording_near t.recording)

  -- whatever decides, if it has the margins
  decided_as_sent : {decide : List ℤ → Decision} → Margins noise tones decide
      → reports (control_of (receiver.fresh t.band)) (decisions decide (silence 31 ++ samples)) ≡ characters t
  decided_as_sent M =
      recorded tones M t.recording.after (characters t) t.bytes t.recording.before (silence 31 ++ samples) (near_append (near_self (silence 31)) near)

  -- a receiver as it is
  module _ (M : Margins noise tones (decision_of tones)) where
    pub read_as_sent : events t ≡ characters t
    read_as_sent =
        (one_reading (receiver.fresh t.band) t.blocks).events ∙ (by_windows (receiver.fresh t.band) samples refl).events ∙ decided_as_sent M

    pub no_fault : AreBytes (events t)
    no_fault = subst AreBytes (sym read_as_sent) t.bytes

  -- one that doubts more strictly
  pub strictly_read : (clear : ℕ) → Margins noise tones (λ w. strict clear (decision_of tones w))
      → reports (control_of (receiver.fresh t.band)) (map (strict clear) (decisions_over (receiver.fresh t.band) samples)) ≡ characters t
  strictly_read clear M =
      ap (reports (control_of (receiver.fresh t.band))) (decisions-map (strict clear) (decision_of tones) (silence 31 ++ samples))
      ∙ decided_as_sent M

-- ---- two of them

module _ {noise : ℕ} (M : (band : ℕ) → Margins noise (tones_of band) (decision_of (tones_of band))) where
  pub both_read : (a b : Transmission noise) → ReadAsSent a b
  both_read a b =
      let first = read_as_sent a (M a.band) in
      let second = read_as_sent b (M b.band) in
      record {
        first = first;
        second = second;
        first_no_fault = no_fault a (M a.band);
        second_no_fault = no_fault b (M b.band);
        equal = (λ e. sym first ∙ e ∙ second, λ e. first ∙ e ∙ sym second);
      }

-- the bands have the margins with at most 100
pub all_read : (a b : Transmission disturbance) → ReadAsSent a b
all_read = both_read margins

-- and with differences below `clearance` doubted
pub clearly_read : (t : Transmission disturbance)
    → reports (control_of (receiver.fresh t.band))
    (map (strict clearance) (decisions_over (receiver.fresh t.band) (reading.samples_read (receiver.fresh t.band) t.blocks)))
    ≡ characters t
clearly_read t = strictly_read t clearance (clear_margins t.band)

-- a byte is neither a lost carrier nor a doubtful bit
byte-read : (n : ℕ) → n < 256 → (n ≡ carrier_lost → ⊥) × (n ≡ bit_doubtful → ⊥)
byte-read n l = (λ e. omega arith, λ e. omega arith)

bytes_read : {ns : List ℕ} → AreBytes ns → AreRead ns
bytes_read none = none
bytes_read (more {x = n} l ls) = more (byte-read n l) (bytes_read ls)

-- so no event has a smaller difference
pub clear-differences : (t : Transmission disturbance)
    → AllAtLeast clearance
    (measures (record { control = control_of (receiver.fresh t.band); smallest = None })
    (decisions_over (receiver.fresh t.band) (reading.samples_read (receiver.fresh t.band) t.blocks)))
clear-differences t =
    (all_clear clearance (record { control = control_of (receiver.fresh t.band); smallest = None }) none_yet
    (decisions_over (receiver.fresh t.band) (reading.samples_read (receiver.fresh t.band) t.blocks))
    (subst AreRead (sym (clearly_read t)) (bytes_read t.bytes))).differences
