-- Blocks with indices: without them each is a block call, and over lists of calls they are the indices of the samples read.
-- Assumes nothing.
use mathlib.Core.Path.{◌≡◌, refl, sym, ap, ◌∙◌}
use mathlib.Core.Bool.{cond}
use mathlib.Core.List.{List, [], ◌∷◌, ◌++◌, map}
use Prim.Native.Nat.{ℕ, zero, suc, ◌+◌}
use native.Mathlib.Omega.{arith}
use lib.Dec.{eqb, eqb-suc-zero}
use lib.IntN.{ℤ}
use lib.ListN.{length, take, length-map}
use lib.Seq.{length-take-le}
use Rattle.calls.specs.Refusals.{first_of}
use Rattle.calls.specs.Outcome.{Outcome, refused, is_accepted, front_in, one_list, both_in}
use Rattle.calls.specs.Runs as runs
use Rattle.calls.specs.Runs.{after, gives}
use Rattle.calls.specs.Lists as lists
use Rattle.calls.proofs.Refusals.{refused_or}
use Rattle.calls.proofs.Lists.{one_keeps, both_keep, taken}
use Rattle.calls.proofs.Indexed.{values, indexed_append, indexed_counted}
use Rattle.receiver.specs.declared.Receiver.{Receiver}
use Rattle.receiver.specs.Step.{after_sample, measured_at, state_after, measured_after, indexed_after}
use Rattle.receiver.specs.Calls.{block_tests, EventLists, two_lists, shorter, block_of, shortest, indexed_of}
use Rattle.receiver.specs.Lists.{call_of, samples_read, IndexedCall, indexed_call_of, without_indices, ReadsAsBlock, counted_from, indexed_read, IndexedReading}
use Rattle.receiver.proofs.Calls.{two_keep, read, indexed, told_values, told-count}

module _ (s : Receiver) (c : IndexedCall) where
  abbrev xs : List ℤ
  xs = c.samples

  abbrev Lent : Type 0
  Lent = EventLists × List ℕ

  -- what it gives if it is accepted, and what the block call without indices does
  abbrev reading : Outcome Receiver Lent
  reading = indexed s xs (c.lent, c.indices)

  abbrev block : Outcome Receiver EventLists
  block = read s xs (without_indices c).lent

  -- refused with n, or accepted if n is 0
  either : (n : ℕ) → ReadsAsBlock (cond (eqb n 0) block (refused n s (without_indices c).lent)) (cond (eqb n 0) reading (refused n s (c.lent, c.indices)))
  either zero =
      record {
        number = refl;
        count = told-count s xs;
        state = refl;
        events =
            ap (λ (n : ℕ). two_lists.first n (two_lists.filled (values (indexed_after s xs)) c.lent))
            (sym (length-map (indexed_after s xs) (λ (p : (ℕ × ℤ) × ℕ). p.0)))
            ∙ two_keep.back (values (indexed_after s xs)) c.lent
            ∙ told_values s xs
            ∙ sym (two_keep.back (measured_after s xs) (without_indices c).lent);
      }
  either (suc n) = rw (eqb-suc-zero n) (record { number = refl; count = refl; state = refl; events = refl })

  places : shorter (without_indices c).lent ≡ shortest (c.lent, c.indices)
  places =
      let n : ℕ = shortest (c.lent, c.indices) in
      let e : length (take n c.lent.0) ≡ n = length-take-le n c.lent.0 (omega arith) in
      let f : length (take n c.lent.1) ≡ n = length-take-le n c.lent.1 (omega arith) in
      rw (e, f) (omega arith)

  pub reads_as_block : ReadsAsBlock (call_of s (without_indices c)) (indexed_call_of s c)
  unfolding block_of indexed_of
  reads_as_block = rw places (either (first_of (block_tests s xs (shortest (c.lent, c.indices)))))

  -- its number
  numbered : (n : ℕ) → (cond (eqb n 0) reading (refused n s (c.lent, c.indices))).number ≡ n
  numbered zero = refl
  numbered (suc n) = rw (eqb-suc-zero n)

  pub indexed-number : (indexed_call_of s c).number ≡ first_of (block_tests s xs (shortest (c.lent, c.indices)))
  unfolding indexed_of
  indexed-number = numbered (first_of (block_tests s xs (shortest (c.lent, c.indices))))

  -- it reads the samples that it takes from the state that it was handed, where k samples were read before
  record Takes (k : ℕ) (o : Outcome Receiver Lent) : Type 0 where
    long : cond (is_accepted o) (length xs) 0 ≡ length (taken o xs)
    moves : o.state ≡ state_after s (taken o xs)
    shows : cond (is_accepted o) (counted_from k (front_in (both_in two_lists one_list) o)) [] ≡ runs.indexed after_sample measured_at k s (taken o xs)

  takes : (k : ℕ) → Takes k (indexed_call_of s c)
  unfolding indexed_of after runs.indexed
  takes k =
      refused_or (block_tests s xs (shortest (c.lent, c.indices))) s (c.lent, c.indices) reading (Takes k)
      (λ n. record { long = rw (eqb-suc-zero n) refl; moves = rw (eqb-suc-zero n) refl; shows = rw (eqb-suc-zero n) refl })
      (λ e.
      let zero-on : k + 0 ≡ k = omega arith in
      record {
        long = refl;
        moves = refl;
        shows =
            ap (counted_from k) ((both_keep two_keep one_keeps).back (indexed_after s xs) (c.lent, c.indices))
            ∙ indexed_counted after_sample measured_at k 0 s xs
            ∙ ap (λ (n : ℕ). runs.indexed after_sample measured_at n s xs) zero-on;
      })

-- ---- lists of calls

module _ (s : Receiver) (c : IndexedCall) (cs : List IndexedCall) where
  abbrev o : Outcome Receiver (EventLists × List ℕ)
  o = indexed_call_of s c

  -- what is read of a list is what its first call takes, and then what the others do
  samples-next : samples_read s (map without_indices (c ∷ cs)) ≡ taken o c.samples ++ samples_read o.state (map without_indices cs)
  unfolding gives
  samples-next =
      let r = reads_as_block s c in
      λ i. cond (eqb (sym r.number i) 0) c.samples [] ++ samples_read (sym r.state i) (map without_indices cs)

indexed-from_k : (k : ℕ) (s : Receiver) (cs : List IndexedCall)
    → indexed_read k s cs ≡ runs.indexed after_sample measured_at k s (samples_read s (map without_indices cs))
unfolding indexed_read runs.indexed gives
indexed-from_k k s [] = refl
indexed-from_k k s (c ∷ cs) =
    let t = takes s c k in
    let next : Receiver = (indexed_call_of s c).state in
    let took : List ℤ = taken (indexed_call_of s c) c.samples in
    let rest : List ℤ = samples_read next (map without_indices cs) in
    (λ i. t.shows i ++ indexed_read (k + t.long i) next cs)
    ∙ ap (λ (l : List ((ℕ × ℤ) × ℕ)). runs.indexed after_sample measured_at k s took ++ l) (indexed-from_k (k + length took) next cs)
    ∙ ap (λ (u : Receiver). runs.indexed after_sample measured_at k s took ++ runs.indexed after_sample measured_at (k + length took) u rest) t.moves
    ∙ sym (indexed_append after_sample measured_at k s took rest)
    ∙ ap (runs.indexed after_sample measured_at k s) (sym (samples-next s c cs))

state-after : (s : Receiver) (cs : List IndexedCall) → lists.state_after indexed_call_of s cs ≡ lists.state_after call_of s (map without_indices cs)
unfolding after
state-after s [] = refl
state-after s (c ∷ cs) =
    state-after (indexed_call_of s c).state cs
    ∙ ap (λ (u : Receiver). lists.state_after call_of u (map without_indices cs)) (reads_as_block s c).state

pub indexed_reading : (s : Receiver) (calls : List IndexedCall) → IndexedReading s calls
indexed_reading s calls = record { block = reads_as_block s; state = state-after s calls; events = indexed-from_k 0 s calls }
