-- Lists of block calls (the specification, "Whole recordings"), and demand 2 over them: the events are exactly those of the step rule.
-- Assumes nothing.
use Rattle.std.specs.Prelude.{◌≡◌, true, cond, List, [], ◌∷◌, ◌++◌, map, ℕ, ◌+◌, ◌≤◌, ℤ, length, take}
use Rattle.calls.specs.Outcome.{Outcome, is_accepted, front_in, one_list, both_in}
use Rattle.calls.specs.Lists as lists
use Rattle.tones.specs.Samples.{most_samples}
use Rattle.receiver.specs.declared.Receiver.{Receiver}
use Rattle.receiver.specs.Step.{state_after, events_after, measured_after, indexed_after}
use Rattle.receiver.specs.Calls.{in_range, places_for, EventLists, two_lists, shorter, block_of, shortest, indexed_of}

-- the two entries: the state goes in and comes back by value, or it is lent and the next one is left in its place
pub data Entry : Type 0 where
  by_value : Entry
  in_place : Entry

-- a call with what it is handed: through which entry, the samples, and the lent lists as they stand on entry
pub record Call : Type 0 where
  pub entry : Entry
  pub samples : List ℤ
  pub lent : EventLists

-- the outcome of a call, as the contract of either entry has it
abbrev pub call_of : Receiver → Call → Outcome Receiver EventLists
call_of s c = block_of s c.samples c.lent

-- the accepted blocks, joined in order
abbrev pub samples_read : Receiver → List Call → List ℤ
samples_read = lists.joined call_of (λ o c. c.samples)

-- the numbers of the events of the accepted calls, as they stood on return, joined in order
abbrev pub events_read : Receiver → List Call → List ℕ
events_read = lists.joined call_of (λ o c. take o.count o.lent.0)

-- the same, each with its difference
abbrev pub measured_read : Receiver → List Call → List (ℕ × ℤ)
measured_read = lists.joined call_of (λ o c. front_in two_lists o)

-- However the samples are cut into blocks, and whatever refused calls stand between them, they are read as one list.
pub record OneReading (s : Receiver) (calls : List Call) : Type 0 where
  pub events : events_read s calls ≡ events_after s (samples_read s calls)
  pub measured : measured_read s calls ≡ measured_after s (samples_read s calls)
  pub state : lists.state_after call_of s calls ≡ state_after s (samples_read s calls)
  -- a state in its ranges stays in them, and n samples bring at most n / 48 + 1 events
  pub range : in_range s ≡ true → in_range (lists.state_after call_of s calls) ≡ true
  pub few : in_range s ≡ true → length (events_read s calls) ≤ places_for (length (samples_read s calls))

-- The outcome `both` has the state of `second`, and the events of `first` and then those of `second`, each with its difference.
pub record ReadAs (both first second : Outcome Receiver EventLists) : Type 0 where
  pub accepted : is_accepted both ≡ true
  pub state : both.state ≡ second.state
  pub events : front_in two_lists both ≡ front_in two_lists first ++ front_in two_lists second

-- Two accepted blocks are read as the block that joins them, if that has at most as many samples as a block may have and its places are lent.
abbrev pub TwoBlocks : Receiver → Call → Call → EventLists → Type 0
TwoBlocks s one two lent =
    is_accepted (call_of s one) ≡ true → is_accepted (call_of (call_of s one).state two) ≡ true
    → length (one.samples ++ two.samples) ≤ most_samples → places_for (length (one.samples ++ two.samples)) ≤ shorter lent
    → ReadAs (block_of s (one.samples ++ two.samples) lent) (call_of s one) (call_of (call_of s one).state two)

-- ---- blocks with indices

-- a call that lends a list for the indices too
pub record IndexedCall : Type 0 where
  pub samples : List ℤ
  pub lent : EventLists
  pub indices : List ℕ

abbrev pub indexed_call_of : Receiver → IndexedCall → Outcome Receiver (EventLists × List ℕ)
indexed_call_of s c = indexed_of s c.samples (c.lent, c.indices)

-- the block call that lends as many places as the shortest list has
abbrev pub without_indices : IndexedCall → Call
without_indices c =
    let places : ℕ = shortest (c.lent, c.indices) in
    record { entry = by_value; samples = c.samples; lent = (take places c.lent.0, take places c.lent.1) }

-- Without its indices it is that call: the number, the count, the state, and the events with their differences.
pub record ReadsAsBlock (block : Outcome Receiver EventLists) (o : Outcome Receiver (EventLists × List ℕ)) : Type 0 where
  pub number : o.number ≡ block.number
  pub count : o.count ≡ block.count
  pub state : o.state ≡ block.state
  pub events : two_lists.first o.count o.lent.0 ≡ front_in two_lists block

-- each index is counted from k on
abbrev pub counted_from : ℕ → List ((ℕ × ℤ) × ℕ) → List ((ℕ × ℤ) × ℕ)
counted_from k = map (λ (e : (ℕ × ℤ) × ℕ). (e.0, k + e.1))

-- the events of the accepted calls with their indices, as they stood on return, joined in order; each index is counted on from the samples
-- that were read before, of which there are k to begin with
unfoldable pub indexed_read : ℕ → Receiver → List IndexedCall → List ((ℕ × ℤ) × ℕ)
indexed_read k s [] = []
indexed_read k s (c ∷ cs) =
    let o : Outcome Receiver (EventLists × List ℕ) = indexed_call_of s c in
    cond (is_accepted o) (counted_from k (front_in (both_in two_lists one_list) o)) []
    ++ indexed_read (k + cond (is_accepted o) (length c.samples) 0) o.state cs

-- Over every list of such calls, refused ones among them: without its indices each is a block call; and with them the events are those of
-- the samples read, each with the index of the sample that brings it.
pub record IndexedReading (s : Receiver) (calls : List IndexedCall) : Type 0 where
  pub block : (c : IndexedCall) → ReadsAsBlock (call_of s (without_indices c)) (indexed_call_of s c)
  pub state : lists.state_after indexed_call_of s calls ≡ lists.state_after call_of s (map without_indices calls)
  pub events : indexed_read 0 s calls ≡ indexed_after s (samples_read s (map without_indices calls))
