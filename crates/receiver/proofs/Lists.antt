-- Demand 2 over lists of block calls, from the law of lists of calls and the laws of the step rule.
-- Assumes nothing.
use mathlib.Core.Path.{◌≡◌, sym, ap, ap₂, ◌∙◌}
use mathlib.Core.Bool.{true, cond, false≢true}
use mathlib.Core.List.{List, [], ◌∷◌, ◌++◌, map}
use mathlib.Mathlib.Data.Bool.Basic.{and_intro}
use Prim.Native.Nat.{ℕ, suc}
use lib.Dec.{eqb-suc-zero}
use lib.IntN.{ℤ}
use lib.ListN.{length, take, length-map}
use lib.Seq.{take_at}
use Rattle.calls.specs.Outcome.{Outcome, refused, is_accepted, front_in}
use Rattle.calls.specs.Runs.{after}
use Rattle.calls.specs.Lists as lists
use Rattle.calls.proofs.Runs.{RunLaws, run_laws}
use Rattle.calls.proofs.Lists.{taken, IsRun, refused-run, accepted-run, joined_picked, joined-state, joined-front}
use Rattle.tones.proofs.Samples.{samples_append}
use Rattle.receiver.specs.declared.Receiver.{Receiver}
use Rattle.receiver.specs.Step.{after_sample, events_at, measured_at, state_after, events_after, measured_after}
use Rattle.receiver.specs.Calls.{in_range, EventLists, two_lists, shorter}
use Rattle.receiver.specs.Lists.{by_value, Call, call_of, samples_read, events_read, OneReading, TwoBlocks}
use Rattle.receiver.proofs.Ranges.{state_kept}
use Rattle.receiver.proofs.Counting.{events-few, measured-numbers}
use Rattle.receiver.proofs.Calls.{Readable, two_keep, block_0, block_case}

-- reading samples from a state is a run over them
reading_laws : RunLaws state_after measured_after
reading_laws = run_laws after_sample measured_at

-- each call is one
refuses : (s : Receiver) (c : Call) (n : ℕ) → IsRun two_keep reading_laws c.samples s (refused (suc n) s c.lent)
refuses s c n = refused-run two_keep reading_laws n s c.samples c.lent

call-runs : (s : Receiver) (c : Call) → IsRun two_keep reading_laws c.samples s (call_of s c)
call-runs s c =
    block_case s c.samples c.lent (IsRun two_keep reading_laws c.samples s) (refuses s c)
    (λ k. accepted-run two_keep reading_laws s c.samples c.lent)

-- of the first list alone, what stands at its front are the numbers
call-numbers : (s : Receiver) (c : Call)
    → cond (is_accepted (call_of s c)) (take (call_of s c).count (call_of s c).lent.0) [] ≡ events_after s (taken (call_of s c) c.samples)
call-numbers s c =
    block_case s c.samples c.lent
    (λ (o : Outcome Receiver EventLists). cond (is_accepted o) (take o.count o.lent.0) [] ≡ events_after s (taken o c.samples))
    (λ n. rw (eqb-suc-zero n) (sym ((run_laws after_sample events_at).gives_none s)))
    (λ k.
    let told : List (ℕ × ℤ) = measured_after s c.samples in
    take_at (map (λ (e : ℕ × ℤ). e.0) told) _ (length told) (length-map told (λ (e : ℕ × ℤ). e.0)) ∙ measured-numbers s c.samples)

-- a call keeps a state in its ranges
call_kept : (s : Receiver) (c : Call) → in_range s ≡ true → in_range (call_of s c).state ≡ true
call_kept s c h =
    block_case s c.samples c.lent (λ (o : Outcome Receiver EventLists). in_range o.state ≡ true) (λ n. h)
    (λ k. state_kept s c.samples k.ranged k.sound)

calls_kept : (s : Receiver) (calls : List Call) → in_range s ≡ true → in_range (lists.state_after call_of s calls) ≡ true
unfolding after
calls_kept s [] h = h
calls_kept s (c ∷ calls) h = calls_kept (call_of s c).state calls (call_kept s c h)

pub one_reading : (s : Receiver) (calls : List Call) → OneReading s calls
one_reading s calls =
    record {
      events = events;
      measured = joined-front two_keep reading_laws call_of (λ c. c.samples) call-runs s calls;
      state = joined-state two_keep reading_laws call_of (λ c. c.samples) call-runs s calls;
      range = calls_kept s calls;
      few = λ h. rw events (events-few s (samples_read s calls) h);
    }
  where
    events : events_read s calls ≡ events_after s (samples_read s calls)
    events =
        joined_picked call_of (λ (c : Call). c.samples) (run_laws after_sample events_at) (λ s c. (call-runs s c).moves)
        (λ (o : Outcome Receiver EventLists). take o.count o.lent.0) call-numbers s calls

-- ---- two blocks

-- an accepted call
module _ (s : Receiver) (c : Call) (a : is_accepted (call_of s c) ≡ true) where
  call-state : (call_of s c).state ≡ state_after s c.samples
  call-state = rw a at (call-runs s c).moves

  call-events : front_in two_lists (call_of s c) ≡ measured_after s c.samples
  call-events = rw a at (call-runs s c).shows

  call_known : Readable s c.samples (shorter c.lent)
  call_known =
      block_case s c.samples c.lent (λ (o : Outcome Receiver EventLists). is_accepted o ≡ true → Readable s c.samples (shorter c.lent))
      (λ n e. absurd (false≢true (sym (eqb-suc-zero n) ∙ e))) (λ k e. k) a

pub two_blocks : (s : Receiver) (one two : Call) (lent : EventLists) → TwoBlocks s one two lent
two_blocks s one two lent a b few room =
    let xs : List ℤ = one.samples in
    let ys : List ℤ = two.samples in
    let next : Receiver = (call_of s one).state in
    let both : Call = record { entry = by_value; samples = xs ++ ys; lent = lent } in
    let ok = ap is_accepted (block_0 s (xs ++ ys) lent (call_known s one a).ranged few (samples_append xs ys ∙ and_intro (call_known s one a).sound (call_known next two b).sound) room) in
    let e : next ≡ state_after s xs = call-state s one a in
    record {
      accepted = ok;
      state = call-state s both ok ∙ reading_laws.after_append s xs ys ∙ sym (call-state next two b ∙ ap (λ (t : Receiver). state_after t ys) e);
      events =
          call-events s both ok ∙ reading_laws.gives_append s xs ys
          ∙ sym (ap₂ (λ (l m : List (ℕ × ℤ)). l ++ m) (call-events s one a) (call-events next two b ∙ ap (λ (t : Receiver). measured_after t ys) e));
    }
