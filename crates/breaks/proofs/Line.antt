-- A line with breaks among its characters is read as it was keyed, item by item, and there are such lines.
-- Assumes nothing.
use mathlib.Core.Path.{◌≡◌, refl, sym, ap, ◌∙◌, subst}
use mathlib.Core.List.{List, [], ◌∷◌, ◌++◌, append_assoc}
use Prim.Native.Nat.{ℕ, zero, suc, ◌+◌, ◌*◌}
use native.Mathlib.Omega.{arith}
use lib.IntN.{ℤ}
use lib.ListN.{replicate, replicate-append-replicate}
use Rattle.integers.specs.All.{All, none, more}
use Rattle.integers.specs.Near.{Near}
use Rattle.integers.proofs.Near.{near_self, near_append}
use Rattle.calls.specs.Lists.{each}
use Rattle.tones.specs.declared.Tones.{Tones}
use Rattle.tones.specs.Bands.{tones_of}
use Rattle.transmitter.specs.Samples.{send_bits, idle_bits, bit_steps}
use Rattle.transmitter.proofs.Laws.{send_bound}
use Rattle.control.specs.declared.Decision.{Decision}
use Rattle.control.specs.declared.Stage.TheVariants.{Searching}
use Rattle.control.specs.Rules.{break_begun}
use Rattle.receiver.specs.Energy.{decision_of}
use Rattle.receiver.specs.Calls.{fresh}
use Rattle.receiver.specs.Lists.{samples_read}
use Rattle.receiver.proofs.Lists.{one_reading}
use Rattle.receiver.proofs.Windows.{by_windows}
use Rattle.margin.specs.Windows.{disturbance, phase_after_bit, Margins}
use Rattle.margin.proofs.Bands.{margins}
use Rattle.promise.specs.Recordings.{silence}
use Rattle.promise.proofs.Windows.{through_bit}
use Rattle.promise.proofs.Steps.{at}
use Rattle.promise.proofs.Characters.{BetweenCharacters, none_due}
use Rattle.promise.proofs.Recording.{ReadFrom, sending, through_mark, from-trailer, through_character, recorded_bits}
use Rattle.promise.proofs.Promise.{recording_near}
use Rattle.promise.proofs.Possible.{recording-range, blocks-read}
use Rattle.breaks.specs.Line.{Item, character, break, IsItem, item_bits, item_event, line_bits, Line, ReadAsKeyed, LinesPossible}
use Rattle.breaks.proofs.Bits.{LateBreak, stays_late, late_over, FirstBits, before, bit_before, first_bits_step, leave}
use Rattle.breaks.proofs.Bits.{FirstMark, late, first_mark_step, SecondMark, first_mark_over, second_mark_step, second_mark_over}

module _ {noise : ℕ} (t : Tones) {decide : List ℤ → Decision} (M : Margins noise t decide) (m : ℕ) where
  -- ---- a break
  module _ (Y bits : List ℕ) (rest : (p : ℕ) → M.Begins p → ReadFrom t M m (BetweenCharacters Y 0) (sending t M m p 1 bits)) where
    -- from its last bit on
    from-second_mark : (p : ℕ) → M.Begins p → ReadFrom t M m (SecondMark Y 0) (sending t M m p 1 (1 ∷ 1 ∷ bits))
    from-second_mark p begins =
        through_bit t M p begins 1 1 (1 ∷ bits) m (SecondMark Y) (λ k h d r. second_mark_step Y k d (r.steady refl)) third_mark
      where
        q : ℕ
        q = phase_after_bit t p 1

        begins' : M.Begins q
        begins' = M.next_bit p begins 1

        third_mark : ReadFrom t M m (SecondMark Y 32) (sending t M m q 1 (1 ∷ bits))
        third_mark s X w =
            through_mark t M m q begins' bits Y
            (rest (phase_after_bit t q 1) (M.next_bit q begins' 1) (at 32 Searching) Y none_due) s X (second_mark_over w)

    from_marks : (p : ℕ) → M.Begins p → ReadFrom t M m (LateBreak Y 0) (sending t M m p 0 (idle_bits ++ bits))
    from_marks p begins s X w =
        through_bit t M p begins 0 1 (1 ∷ 1 ∷ bits) m (FirstMark Y) (λ k h d r. first_mark_step Y k h d r)
        (λ s X w. from-second_mark (phase_after_bit t p 0) (M.next_bit p begins 0) s X (first_mark_over w)) s X (late (omega arith) w)

    -- with n more bits of space
    from_more : (n p : ℕ) → M.Begins p → ReadFrom t M m (LateBreak Y 0) (sending t M m p 0 (replicate n 0 ++ (idle_bits ++ bits)))
    from_more zero p begins = from_marks p begins
    from_more (suc n) p begins =
        through_bit t M p begins 0 0 (replicate n 0 ++ (idle_bits ++ bits)) m (LateBreak Y) (λ k h d r. stays_late Y k d (r.steady refl) r.earlier_clear)
        (λ s X w. from_more n (phase_after_bit t p 0) (M.next_bit p begins 0) s X (late_over w))

    -- from bit j on, with i of the first ten to come
    from_bit : (n i j : ℕ) → j + i ≡ 10 → (p : ℕ) → M.Begins p
        → ReadFrom t M m (FirstBits Y (32 * j)) (sending t M m p (bit_before j) (replicate i 0 ++ (replicate n 0 ++ (idle_bits ++ bits))))
    from_bit n zero zero e p begins s X w = absurd (omega arith)
    from_bit n zero (suc j) e p begins s X w =
        let all : 32 * suc j ≡ 320 = omega arith in
        from_more n p begins s X (leave (subst (λ (k : ℕ). FirstBits Y k s X) all w))
    from_bit n (suc i) j e p begins s X w =
        let first : 32 * j ≡ 32 * j + 0 = omega arith in
        let later : 32 * j + 32 ≡ 32 * suc j = omega arith in
        through_bit t M p begins (bit_before j) 0 (replicate i 0 ++ (replicate n 0 ++ (idle_bits ++ bits))) m (λ k. FirstBits Y (32 * j + k))
        (λ k h. first_bits_step Y j k (omega arith) h)
        (λ s X w. from_bit n i (suc j) (omega arith) (phase_after_bit t p (bit_before j)) (M.next_bit p begins (bit_before j)) s X (rw later at w))
        s X (rw first at w)

    through_break : (n p : ℕ) → M.Begins p → ReadFrom t M m (BetweenCharacters (break_begun ∷ Y) 0) (sending t M m p 1 (item_bits (break n) ++ bits))
    through_break n p begins s X r =
        subst (λ (bs : List ℕ). ReadFrom t M m (BetweenCharacters (break_begun ∷ Y) 0) (sending t M m p 1 bs)) order
        (λ s X r. from_bit n 10 0 refl p begins s X (before (omega arith) r)) s X r
      where
        order : replicate 10 0 ++ (replicate n 0 ++ (idle_bits ++ bits)) ≡ item_bits (break n) ++ bits
        order =
            sym (append_assoc (replicate 10 0) (replicate n 0) (idle_bits ++ bits))
            ∙ ap (λ (bs : List ℕ). bs ++ (idle_bits ++ bits)) (replicate-append-replicate 10 n 0)
            ∙ sym (append_assoc (replicate (10 + n) 0) idle_bits bits)

  -- ---- the items, and then the trailer
  abbrev ReadItems : List Item → List ℕ → Type 0
  ReadItems items bits = (p : ℕ) → M.Begins p → ReadFrom t M m (BetweenCharacters (each item_event items) 0) (sending t M m p 1 bits)

  -- the bits of an item, and those behind it
  item_bits_lem : (i : Item) (items : List Item) → item_bits i ++ (each item_bits items ++ idle_bits) ≡ each item_bits (i ∷ items) ++ idle_bits
  item_bits_lem i items = sym (append_assoc (item_bits i) (each item_bits items) idle_bits)

  from-items : (items : List Item) → All IsItem items → ReadItems items (each item_bits items ++ idle_bits)
  from-items [] none = from-trailer t M m
  from-items (character c ∷ items) (more small is) =
      subst (ReadItems (character c ∷ items)) (item_bits_lem (character c) items)
      (through_character t M m c small (each item_event items) (each item_bits items ++ idle_bits) (from-items items is))
  from-items (break n ∷ items) (more u is) =
      subst (ReadItems (break n ∷ items)) (item_bits_lem (break n) items)
      (through_break (each item_event items) (each item_bits items ++ idle_bits) (from-items items is) n)

-- ---- a line

module _ {noise : ℕ} (l : Line noise) (M : Margins noise (tones_of l.band) (decision_of (tones_of l.band))) where
  pub read_as_keyed : ReadAsKeyed l
  read_as_keyed =
      (one_reading (fresh l.band) l.blocks).events
      ∙ (by_windows (fresh l.band) samples refl).events
      ∙ recorded_bits (tones_of l.band) M l.recording.after (each item_event l.items) (each item_bits l.items ++ idle_bits)
      (from-items (tones_of l.band) M l.recording.after l.items l.are_items) l.recording.before (silence 31 ++ samples)
      (near_append (near_self (silence 31)) near)
    where
      samples : List ℤ
      samples = samples_read (fresh l.band) l.blocks

      near : Near noise (silence l.recording.before ++ (send_bits (tones_of l.band) 0 (line_bits l.items) ++ silence l.recording.after)) samples
      near = rw l.read (recording_near l.recording)

-- the bands have the margins with at most 100
pub lines-read : (l : Line disturbance) → ReadAsKeyed l
lines-read l = read_as_keyed l (margins l.band)

pub lines-possible : LinesPossible
lines-possible band known items is blocks short recording =
    blocks-read band known blocks short (recording-range (send_bound 0 (bit_steps (tones_of band) (line_bits items))) recording)
