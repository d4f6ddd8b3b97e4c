-- The message is not refused, and what is read of it, disturbed, is by the promise what was sent.
-- Assumes nothing.
use mathlib.Core.Path.{◌≡◌, refl, sym, ap, ap₂, ◌∙◌}
use mathlib.Core.Bool.{true}
use mathlib.Core.List.{List, ◌++◌, map}
use Prim.Native.Nat.{ℕ, ◌-◌, ◌<◌, ◌≤◌}
use native.Mathlib.Omega.{arith}
use borrow.Author.Rules.{rules}
use lib.IntN.{ℤ}
use lib.ListN.{length, take, drop, get_or, length-append, length-map}
use lib.Seq.{sets, take_at, drop_at}
use Rattle.integers.specs.Near.{altered}
use Rattle.integers.specs.Sums.{Bounded}
use Rattle.integers.proofs.Near.{length-altered}
use Rattle.integers.proofs.Lists.{sets-front}
use Rattle.std.specs.Prelude.{Result, Ok}
use Rattle.calls.specs.declared.Refusal.{Refusal}
use Rattle.calls.specs.Refusals.{first_of}
use Rattle.calls.specs.Outcome.{Outcome, outcome, answer_of, as_answer, accepted, over}
use Rattle.calls.proofs.Refusals.{outcome-ok}
use Rattle.calls.proofs.Answers.{given-count, given-front, given_part, given_room}
use Rattle.tones.specs.Bands.{tones_of}
use Rattle.tones.specs.Samples.{are_samples}
use Rattle.tones.proofs.Samples.{between_bound}
use Rattle.transmitter.specs.Samples.{bit_steps, message_bits}
use Rattle.transmitter.proofs.Laws.{send_bound}
use Rattle.receiver.specs.Step.{measured_after}
use Rattle.receiver.specs.Calls.{fresh}
use Rattle.receiver.proofs.Counting.{measured-numbers}
use Rattle.message.specs.Message.{message_of, send_of}
use Rattle.message.proofs.Calls.{length-samples, send_0}
use Rattle.margin.specs.Windows.{disturbance}
use Rattle.promise.specs.Recordings.{AreBytes}
use Rattle.promise.proofs.Message.{are_bytes, message-range, message-read}
use Rattle.loopback.specs.Loopback.{Lists, lists, recorded_of, differences_of, loopback_tests}
use Rattle.loopback.proofs.Refusals.{Allowed, allowed, loopback_accepted}
use Rattle.loopback.proofs.loopback.Goals as goal

-- ---- nothing is refused
module _ (band : ℕ) (cs : List ℕ) (ds : List ℤ) (size : ℕ) (lent : Lists) where
  record Taken : Type 0 where
    none : 0 ≡ first_of (loopback_tests band (length cs) ds size (length lent.samples) (length lent.events) (length lent.differences))
    bytes : (i : ℕ) → get_or cs i 0 < 256

  module _ (t : Taken) where
    abbrev message : List ℤ
    message = message_of band cs

    abbrev recorded : List ℤ
    recorded = recorded_of band cs ds

    all-allowed : Allowed band (length cs) ds size (length lent.samples) (length lent.events) (length lent.differences)
    all-allowed = allowed _ _ _ _ _ _ _ (sym t.none)

    known_bytes : AreBytes cs
    known_bytes = are_bytes cs t.bytes

    small : Bounded disturbance ds
    small = between_bound (disturbance - 1) ds all-allowed.small

    range : are_samples recorded ≡ true
    range = message-range band all-allowed.known cs known_bytes all-allowed.sizes.few ds small

    -- the promise
    promised : map (λ (e : ℕ × ℤ). e.0) (measured_after (fresh band) recorded) ≡ cs
    promised = measured-numbers (fresh band) recorded ∙ message-read band all-allowed.known cs known_bytes all-allowed.sizes.few ds small

    many : length (measured_after (fresh band) recorded) ≡ length cs
    many = sym (length-map (measured_after (fresh band) recorded) (λ (e : ℕ × ℤ). e.0)) ∙ ap length promised

    -- the message's call is accepted
    sent-whole : (r : Result ℕ Refusal) (out : List ℤ) → outcome (as_answer r) tt out ≡ send_of band cs lent.samples → r ≡ Ok (length message)
    sent-whole r out e =
        let a = all-allowed in
        outcome-ok r tt out (accepted tt message lent.samples)
        (e ∙ send_0 band cs lent.samples (record { known = a.known; few = a.sizes.few; room = a.room.places })) refl

    -- ---- the message is at the buffer's front
    module _ (end : ℕ) (out : List ℤ) (e : outcome (answer_of 0 end) tt out ≡ send_of band cs lent.samples) where
      abbrev sent : Outcome Unit (List ℤ)
      sent = outcome (answer_of 0 end) tt out

      given : sent ≡ accepted tt message lent.samples
      given =
          let a = all-allowed in
          e ∙ send_0 band cs lent.samples (record { known = a.known; few = a.sizes.few; room = a.room.places })

      counted : end ≡ length message
      counted = given-count tt message lent.samples sent given

      front : take end out ≡ message
      front = given-front tt message lent.samples sent given

      behind : drop end out ≡ drop (length message) lent.samples
      behind =
          ap (λ (o : Outcome Unit (List ℤ)). drop end o.lent) given
          ∙ drop_at message (drop (length message) lent.samples) end (sym counted)

      fits : end ≤ length out
      fits = given_room tt message lent.samples sent given

      part : end ≡ length (take end out)
      part = given_part tt message lent.samples sent given

      long : length recorded ≡ end
      long = length-altered message ds ∙ sym counted

      -- what can be disturbed
      bounded : Bounded 6000 (take end out)
      bounded = rw front (send_bound 0 (bit_steps (tones_of band) (message_bits cs)))

      numbered : length (take end out) ≤ length ds
      numbered = rw front (omega (arith, length-samples band cs, all-allowed.room.numbers))

      -- ---- and then the recording
      module _ (disturbed : List ℤ) (d : disturbed ≡ altered (take end out) ds) where
        abbrev left : List ℤ
        left = disturbed ++ drop end out

        filled : left ≡ over recorded lent.samples
        filled =
            ap₂ (λ (l r : List ℤ). l ++ r) (d ∙ ap (λ (xs : List ℤ). altered xs ds) front)
            (behind ∙ ap (λ (n : ℕ). drop n lent.samples) (sym (length-altered message ds)))

        fits-still : end ≤ length left
        fits-still = omega (arith, ap length filled, length-append recorded (drop (length recorded) lent.samples), long)

        read-part : take end left ≡ recorded
        read-part = ap (take end) filled ∙ take_at recorded (drop (length recorded) lent.samples) end long

pub returns-in_err-end : goal.returns-in_err-end
returns-in_err-end c =
    let a = c.args in
    let t : Taken a.band a.characters.now a.disturbance.now a.size (lists a.samples.now a.events.now a.differences.now) =
    record { none = c.in_ok-check.ensures; bytes = λ i. search rules } in
    let whole = sent-whole _ _ _ _ _ t c.send.result c.send.new.out c.send.ensures in
    absurd (search rules)

pub slice_bounds-disturb-end : goal.slice_bounds-disturb-end
slice_bounds-disturb-end c =
    let a = c.args in
    let t : Taken a.band a.characters.now a.disturbance.now a.size (lists a.samples.now a.events.now a.differences.now) =
    record { none = c.in_ok-check.ensures; bytes = λ i. search rules } in
    fits _ _ _ _ _ t c.in_ok-end.end c.send.new.out c.in_ok-end.ensures

pub slice_bounds-disturb-end-2 : goal.slice_bounds-disturb-end-2
slice_bounds-disturb-end-2 c =
    let a = c.args in
    let t : Taken a.band a.characters.now a.disturbance.now a.size (lists a.samples.now a.events.now a.differences.now) =
    record { none = c.in_ok-check.ensures; bytes = λ i. search rules } in
    part _ _ _ _ _ t c.in_ok-end.end c.send.new.out c.in_ok-end.ensures

pub disturb-requires : goal.disturb-requires
disturb-requires c =
    let a = c.args in
    let t : Taken a.band a.characters.now a.disturbance.now a.size (lists a.samples.now a.events.now a.differences.now) =
    record { none = c.in_ok-check.ensures; bytes = λ i. search rules } in
    record {
      sent = bounded _ _ _ _ _ t c.in_ok-end.end c.send.new.out c.in_ok-end.ensures;
      small = small _ _ _ _ _ t;
      enough = numbered _ _ _ _ _ t c.in_ok-end.end c.send.new.out c.in_ok-end.ensures;
    }

pub slice_bounds-receive-end : goal.slice_bounds-receive-end
slice_bounds-receive-end c =
    let a = c.args in
    let t : Taken a.band a.characters.now a.disturbance.now a.size (lists a.samples.now a.events.now a.differences.now) =
    record { none = c.in_ok-check.ensures; bytes = λ i. search rules } in
    fits-still _ _ _ _ _ t c.in_ok-end.end c.send.new.out c.in_ok-end.ensures _ c.disturb.ensures

pub slice_bounds-receive-end-2 : goal.slice_bounds-receive-end-2
slice_bounds-receive-end-2 c =
    let a = c.args in
    let t : Taken a.band a.characters.now a.disturbance.now a.size (lists a.samples.now a.events.now a.differences.now) =
    record { none = c.in_ok-check.ensures; bytes = λ i. search rules } in
    let e = c.in_ok-end.ensures in
    sym (ap length (read-part _ _ _ _ _ t c.in_ok-end.end c.send.new.out e _ c.disturb.ensures) ∙ long _ _ _ _ _ t c.in_ok-end.end c.send.new.out e)

pub receive-requires : goal.receive-requires
receive-requires c =
    let a = c.args in
    let t : Taken a.band a.characters.now a.disturbance.now a.size (lists a.samples.now a.events.now a.differences.now) =
    record { none = c.in_ok-check.ensures; bytes = λ i. search rules } in
    let b = all-allowed _ _ _ _ _ t in
    let part = read-part _ _ _ _ _ t c.in_ok-end.end c.send.new.out c.in_ok-end.ensures _ c.disturb.ensures in
    let places = ap (λ (xs : List ℤ). length (measured_after (fresh a.band) xs)) part ∙ many _ _ _ _ _ t in
    record {
      known = b.known;
      sound = rw part (range _ _ _ _ _ t);
      block_size = (b.sizes.low, b.sizes.high);
      room = rw places b.room.free;
    }

pub returns : goal.returns
returns c =
    let a = c.args in
    let t : Taken a.band a.characters.now a.disturbance.now a.size (lists a.samples.now a.events.now a.differences.now) =
    record { none = c.in_ok-check.ensures; bytes = λ i. search rules } in
    let e = c.in_ok-end.ensures in
    let b = all-allowed _ _ _ _ _ t in
    let p = c.receive.ensures in
    let told = measured_after (fresh a.band) (recorded_of a.band a.characters.now a.disturbance.now) in
    let read = ap (measured_after (fresh a.band)) (read-part _ _ _ _ _ t c.in_ok-end.end c.send.new.out e _ c.disturb.ensures) in
    let count = p.count ∙ ap length read ∙ many _ _ _ _ _ t in
    let events =
    p.told ∙ ap (λ (l : List (ℕ × ℤ)). sets a.events.now 0 (map (λ (x : ℕ × ℤ). x.0) l)) read
    ∙ ap (sets a.events.now 0) (promised _ _ _ _ _ t) ∙ sets-front a.characters.now a.events.now b.room.free in
    let differences =
    p.beside ∙ ap (λ (l : List (ℕ × ℤ)). sets a.differences.now 0 (map (λ (x : ℕ × ℤ). x.1) l)) read
    ∙ sets-front (differences_of a.band a.characters.now a.disturbance.now) a.differences.now
    (omega (arith, length-map told (λ (x : ℕ × ℤ). x.1), many _ _ _ _ _ t, b.room.beside)) in
    let full = filled _ _ _ _ _ t c.in_ok-end.end c.send.new.out e _ c.disturb.ensures in
    loopback_accepted a.band a.characters.now a.disturbance.now a.size (lists a.samples.now a.events.now a.differences.now) t.none _ _
    (λ i. record { number = 0; count = count i; state = tt; lent = lists (full i) (events i) (differences i) })
