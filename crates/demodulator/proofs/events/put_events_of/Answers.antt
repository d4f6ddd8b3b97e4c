-- `demodulator::events::put_events_of` meets its contract: the block is accepted, and its events are printed.
-- Assumes nothing.
use mathlib.Core.Path.{◌≡◌, refl, sym, ap, ap₂, ◌∙◌}
use mathlib.Core.Bool.{true}
use mathlib.Core.List.{List}
use Prim.Native.Nat.{ℕ, ◌≤◌}
use native.Mathlib.Omega.{arith}
use lib.IntN.{ℤ, pos}
use lib.ListN.{length, replicate, take, drop, length-append}
use lib.Seq.{take_at}
use Rattle.std.specs.Prelude.{Result, Ok}
use Rattle.calls.specs.declared.Refusal.{Refusal}
use Rattle.calls.specs.Outcome.{Outcome, Opening, as_answer, outcome, accepted, over}
use Rattle.calls.proofs.Refusals.{answer-ok}
use Rattle.tones.specs.Bands.{is_band}
use Rattle.tones.specs.Samples.{most_samples, are_samples}
use Rattle.receiver.specs.declared.Receiver.{Receiver}
use Rattle.receiver.specs.Step.{state_after, events_after}
use Rattle.receiver.specs.Calls.{EventLists, fresh, most_events, open_of, block_of}
use Rattle.receiver.proofs.Ranges.{open_band, fresh_kept}
use Rattle.receiver.proofs.Events.{events-known}
use Rattle.receiver.proofs.Calls.{block_0, numbers_alone, read-numbers}
use Rattle.demodulator.specs.Lines.{events_text}
use Rattle.demodulator.proofs.events.put_events_of.Goals as goal

abbrev places : List ℕ
places = replicate most_events 0

abbrev difference-places : List ℤ
difference-places = replicate most_events (pos 0)

-- the block of a fresh receiver is accepted
module _ (band : ℕ) (known : is_band band ≡ true) (xs : List ℤ) (few : length xs ≤ most_samples) (sound : are_samples xs ≡ true) where
  abbrev s : Receiver
  s = fresh band

  abbrev given-events : List ℕ
  given-events = events_after s xs

  module _ (o : Opening Receiver) (e : o ≡ open_of band) (r : Result ℕ Refusal) (t : Receiver) (left : EventLists)
      (block : outcome (as_answer r) t left ≡ block_of o.state xs (places, difference-places)) where
    given : numbers_alone s xs (outcome (as_answer r) t left) ≡ accepted (state_after s xs) given-events places
    given =
        ap (numbers_alone s xs)
        (block
        ∙ ap (λ (f : Receiver). block_of f xs (places, difference-places)) (ap (λ (p : Opening Receiver). p.state) e ∙ open_band band known)
        ∙ block_0 s xs (places, difference-places) (fresh_kept band known) few sound (omega (arith, few)))
        ∙ read-numbers s xs (places, difference-places)

    ok : r ≡ Ok (length given-events)
    ok = answer-ok r (ap (λ (p : Outcome Receiver (List ℕ)). p.number) given) ∙ ap (λ (p : Outcome Receiver (List ℕ)). Ok p.count) given

    -- the count covers the events
    module _ (count : ℕ) (is : r ≡ Ok count) where
      counted : count ≡ length given-events
      counted = let both = sym is ∙ ok in cc

      front : take count left.0 ≡ given-events
      front = ap₂ take counted (ap (λ (p : Outcome Receiver (List ℕ)). p.lent) given) ∙ take_at given-events (drop (length given-events) places) (length given-events) refl

      room : count ≤ length left.0
      room = omega (arith, counted, ap length (ap (λ (p : Outcome Receiver (List ℕ)). p.lent) given), length-append given-events (drop (length given-events) places))

pub unwrap-count-requires : goal.unwrap-count-requires
unwrap-count-requires c =
    let q = c.requires in
    let a = c.args in
    rw (ok a.band q.band a.samples.now q.few q.sound _ c.open.ensures _ _ _ c.block-reading.ensures)

pub slice_bounds-events-end : goal.slice_bounds-events-end
slice_bounds-events-end c =
    let q = c.requires in
    let a = c.args in
    room a.band q.band a.samples.now q.few q.sound _ c.open.ensures _ _ _ c.block-reading.ensures _ c.unwrap-count.ensures

pub slice_bounds-put_events-end : goal.slice_bounds-put_events-end
slice_bounds-put_events-end c =
    let q = c.requires in
    let a = c.args in
    counted a.band q.band a.samples.now q.few q.sound _ c.open.ensures _ _ _ c.block-reading.ensures _ c.unwrap-count.ensures
    ∙ sym (ap length (front a.band q.band a.samples.now q.few q.sound _ c.open.ensures _ _ _ c.block-reading.ensures _ c.unwrap-count.ensures))

pub put_events-requires-clause-known : goal.put_events-requires-clause-known
put_events-requires-clause-known c =
    let q = c.requires in
    let a = c.args in
    rw (front a.band q.band a.samples.now q.few q.sound _ c.open.ensures _ _ _ c.block-reading.ensures _ c.unwrap-count.ensures)
    (events-known (fresh a.band) a.samples.now (fresh_kept a.band q.band))

pub returns : goal.returns
returns c =
    let q = c.requires in
    let a = c.args in
    let e = ap events_text (front a.band q.band a.samples.now q.few q.sound _ c.open.ensures _ _ _ c.block-reading.ensures _ c.unwrap-count.ensures) in
    let p = c.put_events.ensures in
    record {
      count = p.count ∙ ap length e;
      lent = p.lent ∙ ap (λ (l : List ℕ). over l a.out.now) e;
    }
