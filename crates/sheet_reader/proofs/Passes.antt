-- The two passes over the lines of samples, byte by byte: what holds on the way, and what is found and left at the end.
-- Assumes nothing.
use Rattle.std.proofs.Common.{◌≡◌, refl, sym, ap, ◌∙◌, Bool, true, false, ◌&&◌, Option, None, Some, List, [], ◌∷◌, ℕ, ◌+◌, ◌-◌, ◌*◌, ◌<◌, ◌≤◌, ltb, eqb, ℤ, length, get_or, drop, zero-add, add-one, arith, drop-cons, IsSome, set}
use Rattle.calls.specs.Outcome.{over}
use mathlib.Core.Bool.{and_assoc, and-true}
use mathlib.Mathlib.Data.Bool.Basic.{and_elim_left, and_elim_right}
use borrow.Author.Tests.{ltb-true, eq-eqb, ne_eqb}
use lib.ListN.{drop_of_length-le}
use Rattle.integers.proofs.Tests.{cond-split, cond_case}
use Rattle.calls.specs.Runs as runs
use Rattle.calls.proofs.Filling.{Filling, filling_start, filling_more, filling_front}
use Rattle.tones.specs.Samples.{are_between, is_sample, are_samples}
use Rattle.digits.specs.Numbers.{is_digit}
use Rattle.digits.proofs.Numbers.{digit-high}
use Rattle.sheet.specs.Parse.{next, sample_of, line_after, samples_in, is_start}
use Rattle.sheet.specs.declared.Line.{Line}
use Rattle.sheet.specs.declared.Line.TheVariants.{Start, Minus, Zero, Number}
use Rattle.sheet.proofs.LinesWritten.{none_after}
use Rattle.sheet_reader.specs.AsCoded.{Small, seen_of}

-- ---- one byte

-- a number stays small
abbrev SmallAt : Option Line → Type 0
SmallAt None = Unit
SmallAt (Some line) = Small line

small-next : (line : Line) (byte : ℕ) → SmallAt (next line byte)
unfolding next
small-next Start b =
    cond_case SmallAt (eqb b 45) (Some Minus) _ tt
    (cond_case SmallAt (eqb b 48) (Some Zero) _ tt
    (cond-split SmallAt (is_digit b) (Some (Number false (b - 48))) None (λ d. omega (arith, digit-high b d)) (λ d. tt)))
small-next Minus b =
    cond_case SmallAt (eqb b 48) None _ tt
    (cond-split SmallAt (is_digit b) (Some (Number true (b - 48))) None (λ d. omega (arith, digit-high b d)) (λ d. tt))
small-next Zero b = cond_case SmallAt (eqb b 10) (Some Start) None tt tt
small-next (Number m n) b =
    cond_case SmallAt (eqb b 10) (Some Start) _ tt
    (cond-split SmallAt (is_digit b && ltb n 1000) (Some (Number m (n * 10 + (b - 48)))) None
    (λ d. omega (arith, digit-high b (and_elim_left (is_digit b) (ltb n 1000) d), ltb-true n 1000 (and_elim_right (is_digit b) (ltb n 1000) d)))
    (λ d. tt))

module _ (t : List ℕ) (i : ℕ) (line : Line) where
  abbrev byte : ℕ
  byte = get_or t i 0

  abbrev rest : List ℕ
  rest = drop (i + 1) t

  module _ (h : i < length t) where
    line_next : line_after (Some line) (drop i t) ≡ line_after (next line byte) rest
    unfolding runs.after
    line_next = rw (drop-cons t i 0 h, add-one i)

    -- the byte ends a line, or it does not
    samples-fed : byte ≡ 10 → samples_in (Some line) (drop i t) ≡ sample_of line ∷ samples_in (next line byte) rest
    unfolding runs.gives
    samples-fed f = rw (drop-cons t i 0 h, add-one i, eq-eqb byte 10 f)

    samples-kept : (byte ≡ 10 → ⊥) → samples_in (Some line) (drop i t) ≡ samples_in (next line byte) rest
    unfolding runs.gives
    samples-kept f = rw (drop-cons t i 0 h, add-one i, ne_eqb byte 10 f)

  module _ (h : length t ≤ i) where
    line_end : line_after (Some line) (drop i t) ≡ Some line
    unfolding runs.after
    line_end = rw (drop_of_length-le t {i = i} h)

    samples_end : samples_in (Some line) (drop i t) ≡ []
    unfolding runs.gives
    samples_end = rw (drop_of_length-le t {i = i} h)

-- ---- both passes

-- the bytes of the text t before place i lead to this place in a line
pub record Stands (t : List ℕ) (line : Line) (i : ℕ) : Type 0 where
  pub small : Small line
  pub place : line_after (Some line) (drop i t) ≡ line_after (Some Start) t

stands_start : (t : List ℕ) → Stands t Start 0
stands_start t = record { small = tt; place = refl }

module _ {t : List ℕ} {line : Line} {i : ℕ} (s : Stands t line i) (h : i < length t) where
  abbrev next_place : Option Line
  next_place = next line (get_or t i 0)

  stands_more : {to : Line} → next_place ≡ Some to → Stands t to (i + 1)
  stands_more e =
      record { small = rw e at (small-next line (get_or t i 0)); place = sym (rw e at (line_next t i line h)) ∙ s.place }

  -- no line has the byte
  stands_none : next_place ≡ None → line_after (Some Start) t ≡ None
  stands_none e = sym s.place ∙ rw e at (line_next t i line h) ∙ none_after (drop (i + 1) t)

-- ---- the first pass

-- the bytes of the text t before place i are looked at
pub record Looked (t : List ℕ) (line : Line) (count : ℕ) (sound : Bool) (i : ℕ) : Type 0 where
  pub stands : Stands t line i
  pub few : count ≤ i
  pub counted : count + length (samples_in (Some line) (drop i t)) ≡ length (samples_in (Some Start) t)
  pub tested : (sound && are_samples (samples_in (Some line) (drop i t))) ≡ are_samples (samples_in (Some Start) t)

pub looked_start : (t : List ℕ) → Looked t Start 0 true 0
looked_start t =
    record { stands = stands_start t; few = omega arith; counted = zero-add (length (samples_in (Some Start) t)); tested = refl }

not_start : (line : Line) → (line ≡ Start → ⊥) → is_start (Some line) ≡ false
unfolding is_start
not_start Start h = absurd (h refl)
not_start Minus h = refl
not_start Zero h = refl
not_start (Number m n) h = refl

module _ {t : List ℕ} {line : Line} {count : ℕ} {sound : Bool} {i : ℕ} (p : Looked t line count sound i) where
  module _ (h : i < length t) where
    pub looked_none : next line (get_or t i 0) ≡ None → None ≡ seen_of t
    unfolding is_start
    looked_none e = rw (stands_none p.stands h e)

    module _ {to : Line} (e : next line (get_or t i 0) ≡ Some to) where
      -- the line is ended, or it is not
      pub looked_feed : get_or t i 0 ≡ 10 → (z : Bool) → z ≡ are_samples (sample_of line ∷ []) → Looked t to (count + 1) (sound && z) (i + 1)
      unfolding are_between
      looked_feed f z k =
          let fed = rw e at (samples-fed t i line h f) in
          record {
            stands = stands_more p.stands h e;
            few = omega (arith, p.few);
            counted = omega (arith, ap length fed, p.counted);
            tested =
                and_assoc sound z (are_samples (samples_in (Some to) (drop (i + 1) t)))
                ∙ ap (λ (b : Bool). sound && b) (rw (fed, k, and-true (is_sample (sample_of line))))
                ∙ p.tested;
          }

      pub looked_other : (get_or t i 0 ≡ 10 → ⊥) → Looked t to count sound (i + 1)
      looked_other f =
          let kept = rw e at (samples-kept t i line h f) in
          record {
            stands = stands_more p.stands h e;
            few = omega (arith, p.few);
            counted = rw kept at p.counted;
            tested = rw kept at p.tested;
          }

  -- all of them are
  module _ (h : length t ≤ i) where
    pub looked_ended : line ≡ Start → Some (record { count = count; sound = sound }) ≡ seen_of t
    unfolding is_start are_between
    looked_ended e =
        let many : length (samples_in (Some Start) t) ≡ count = omega (arith, ap length (samples_end t i line h), p.counted) in
        let good : are_samples (samples_in (Some Start) t) ≡ sound = sym (rw (samples_end t i line h, and-true sound) at p.tested) in
        rw (sym p.stands.place, line_end t i line h, e, many, good)

    pub looked_all : (line ≡ Start → ⊥) → None ≡ seen_of t
    looked_all e = rw (sym p.stands.place, line_end t i line h, not_start line e)

-- ---- the second pass

-- the samples of the bytes before place i are in the buffer, which was `lent` and is `now`
pub record Filled (t : List ℕ) (lent now : List ℤ) (line : Line) (count i : ℕ) : Type 0 where
  pub stands : Stands t line i
  pub counted : count + length (samples_in (Some line) (drop i t)) ≡ length (samples_in (Some Start) t)
  pub filling : Filling lent 0 (samples_in (Some Start) t) now count (samples_in (Some line) (drop i t))

pub filled_start : (t : List ℕ) (lent : List ℤ) → Filled t lent lent Start 0 0
filled_start t lent =
    record {
      stands = stands_start t;
      counted = zero-add (length (samples_in (Some Start) t));
      filling = filling_start lent 0 (samples_in (Some Start) t);
    }

module _ {t : List ℕ} {lent now : List ℤ} {line : Line} {count i : ℕ} (p : Filled t lent now line count i) where
  module _ (h : i < length t) where
    pub filled_room : get_or t i 0 ≡ 10 → length (samples_in (Some Start) t) ≤ length lent → count < length now
    filled_room f room = omega (arith, ap length (samples-fed t i line h f), p.counted, p.filling.long)

    -- every line is ended, so some line has the byte
    pub filled_some : line_after (Some Start) t ≡ Some Start → IsSome (next line (get_or t i 0))
    filled_some e = go (next line (get_or t i 0)) refl
      where
        go : (o : Option Line) → next line (get_or t i 0) ≡ o → IsSome o
        go None n = let s = stands_none p.stands h n in cc
        go (Some to) n = refl

    module _ {to : Line} (e : next line (get_or t i 0) ≡ Some to) where
      pub filled_feed : get_or t i 0 ≡ 10 → (z : ℤ) → z ≡ sample_of line → Filled t lent (set now count z) to (count + 1) (i + 1)
      filled_feed f z k =
          let fed = rw e at (samples-fed t i line h f) in
          record {
            stands = stands_more p.stands h e;
            counted = omega (arith, ap length fed, p.counted);
            filling = rw k (filling_more (sample_of line ∷ []) (samples_in (Some to) (drop (i + 1) t)) (rw fed at p.filling));
          }

      pub filled_other : (get_or t i 0 ≡ 10 → ⊥) → Filled t lent now to count (i + 1)
      filled_other f =
          let kept = rw e at (samples-kept t i line h f) in
          record { stands = stands_more p.stands h e; counted = rw kept at p.counted; filling = rw kept at p.filling }

  pub filled_all : length t ≤ i → length (samples_in (Some Start) t) ≤ length lent → now ≡ over (samples_in (Some Start) t) lent
  filled_all h room = filling_front (rw (samples_end t i line h) at p.filling) room

-- for the search of the check
pub ruleset fills = (filled_start, filled_room, filled_some, filled_all)
