-- The cases of a call, by its tests, and what the code gives in each.
-- Assumes nothing.
use mathlib.Core.Path.{◌≡◌, refl, ◌∙◌, sym, ap, ap₂, subst}
use mathlib.Core.Bool.{true}
use mathlib.Core.List.{List}
use mathlib.Mathlib.Data.Bool.Basic.{and_intro}
use Prim.Native.Nat.{ℕ, suc, ◌*◌, ◌≤◌}
use native.Mathlib.Omega.{arith}
use borrow.Author.Tests.{le-ltb, ltb-false, not-false}
use lib.IntN.{ℤ}
use lib.ListN.{length}
use lib.Seq.{sets}
use Rattle.std.specs.Prelude.{Ok, Err}
use Rattle.integers.specs.All.{none, more}
use Rattle.integers.proofs.Lists.{sets-front}
use Rattle.calls.specs.declared.Refusal.{Refusal}
use Rattle.calls.specs.declared.Answer.{Answer}
use Rattle.calls.specs.declared.Answered.{Answered}
use Rattle.calls.specs.Refusals.{number_of, Test, first_of}
use Rattle.calls.specs.Outcome.{Outcome, answer_of, as_answer, outcome, refused, unless_refused}
use Rattle.calls.proofs.Refusals.{NoneHolds, none-holds, numbered, is-refused, refused_or}
use Rattle.tones.specs.declared.Tones.{Tones}
use Rattle.tones.specs.Bands.{is_band, tones_of}
use Rattle.transmitter.specs.declared.Transmitter.{Transmitter}
use Rattle.transmitter.specs.Samples.{idle_bits, characters_bits, send_bits, phase_bits}
use Rattle.transmitter.specs.Calls.{fresh, open_of, in_range, samples_of, after_bits, sent, idle_tests, idle_of, most_characters, characters_tests, characters_of}
use Rattle.transmitter.proofs.Laws.{length_bits, length-characters}

-- an opening of a band gives its fresh state, which is in its ranges
pub open_band : (band : ℕ) → is_band band ≡ true → (open_of band).state ≡ fresh band
unfolding open_of
open_band band h = rw h

pub fresh_kept : (band : ℕ) → is_band band ≡ true → in_range (fresh band) ≡ true
unfolding in_range
fresh_kept band h = and_intro h refl

-- ---- what is known if a call is not refused, and that it is accepted then

module _ (s : Transmitter) where
  pub idle-known : (places : ℕ) → first_of (idle_tests s places) ≡ 0 → (in_range s ≡ true) × (96 ≤ places)
  idle-known places e = known (none-holds (idle_tests s places) _ e)
    where
      known : NoneHolds (idle_tests s places) → (in_range s ≡ true) × (96 ≤ places)
      known (more r (more p none)) = (not-false (in_range s) r, ltb-false places 96 p)

  pub idle_0 : (lent : List ℤ) → in_range s ≡ true → 96 ≤ length lent → idle_of s lent ≡ sent s idle_bits lent
  unfolding idle_of
  idle_0 lent r p = simp (r, le-ltb (length lent) 96 p)

  pub record Sendable (count places : ℕ) : Type 0 where
    pub ranged : in_range s ≡ true
    pub few : count ≤ most_characters
    pub room : 320 * count ≤ places

  pub characters-known : (count places : ℕ) → first_of (characters_tests s count places) ≡ 0 → Sendable count places
  characters-known count places e = known (none-holds (characters_tests s count places) _ e)
    where
      known : NoneHolds (characters_tests s count places) → Sendable count places
      known (more r (more l (more p none))) =
          record {
            ranged = not-false (in_range s) r;
            few = ltb-false most_characters count l;
            room = ltb-false places (320 * count) p;
          }

  pub characters_0 : (bytes : List ℕ) (lent : List ℤ) → in_range s ≡ true → length bytes ≤ most_characters → 320 * length bytes ≤ length lent
      → characters_of s bytes lent ≡ sent s (characters_bits bytes) lent
  unfolding characters_of
  characters_0 bytes lent r l p = simp (r, le-ltb most_characters (length bytes) l, le-ltb (length lent) (320 * length bytes) p)

-- what holds of every refusal and of an accepted call holds of a call
module _ (P : Outcome Transmitter (List ℤ) → Type 0) (s : Transmitter) (lent : List ℤ) (refuses : (n : ℕ) → P (refused (suc n) s lent)) where
  pub idle_case : P (sent s idle_bits lent) → P (idle_of s lent)
  unfolding idle_of
  idle_case sends = refused_or (idle_tests s (length lent)) s lent (sent s idle_bits lent) P refuses (λ e. sends)

  pub characters_case : (bytes : List ℕ) → P (sent s (characters_bits bytes) lent) → P (characters_of s bytes lent)
  unfolding characters_of
  characters_case bytes sends =
      refused_or (characters_tests s (length bytes) (length lent)) s lent (sent s (characters_bits bytes) lent) P refuses (λ e. sends)

-- ---- what the code gives

-- a refusal, with the number of the first test that holds
pub refusal : (r : Answered Transmitter ℕ) (n : ℕ) (s : Transmitter) (lent : List ℤ) (tests : List Test) (given : Outcome Transmitter (List ℤ))
    → n ≡ first_of tests → (n ≡ 0 → ⊥) → r.state ≡ s → as_answer r.answer ≡ answer_of n 0
    → outcome (as_answer r.answer) r.state lent ≡ unless_refused tests s lent given
refusal r n s lent tests given e h es ea =
    ap₂ (λ (a : Answer) (t : Transmitter). outcome a t lent) ea es ∙ is-refused tests s lent given n e h

-- what is sent is the outcome o: the tones t of the band, the phase p after the bits, and their samples at the front of the buffer
module _ (s : Transmitter) (bits : List ℕ) (lent : List ℤ) (t : Tones) (p count : ℕ) (now : List ℤ) where
  pub sending : {o : Outcome Transmitter (List ℤ)} → o ≡ sent s bits lent → t ≡ tones_of s.band → p ≡ phase_bits t s.phase bits
      → now ≡ sets lent 0 (send_bits t s.phase bits) → count ≡ 32 * length bits → count ≤ length lent
      → outcome (as_answer (Ok count)) (record { band = s.band; phase = p }) now ≡ o
  sending e et ep en ec room =
      (λ i. record { number = 0; count = size i; state = record { band = s.band; phase = phase i }; lent = filled i }) ∙ sym e
    where
      size : count ≡ length (samples_of s bits)
      size = ec ∙ sym (length_bits (tones_of s.band) s.phase bits)

      phase : p ≡ phase_bits (tones_of s.band) s.phase bits
      phase = ep ∙ ap (λ (u : Tones). phase_bits u s.phase bits) et

      filled : now ≡ (sent s bits lent).lent
      filled =
          en ∙ ap (λ (u : Tones). sets lent 0 (send_bits u s.phase bits)) et
          ∙ sets-front (samples_of s bits) lent (subst (λ (n : ℕ). n ≤ length lent) size room)

-- both of each call
module _ (s : Transmitter) (lent : List ℤ) where
  -- it is refused for r
  refusing : (r : Refusal) (tests : List Test) (given : Outcome Transmitter (List ℤ)) → number_of r ≡ first_of tests
      → outcome (as_answer (Err r)) s lent ≡ unless_refused tests s lent given
  refusing r tests given e =
      refusal (record { state = s; answer = Err r }) (number_of r) s lent tests given e (numbered r) refl refl

  -- it sends bits, and gives the state after them
  sending_on : (bits : List ℕ) (next : Transmitter) (count : ℕ) (now : List ℤ) {o : Outcome Transmitter (List ℤ)} → o ≡ sent s bits lent
      → next ≡ after_bits s bits → now ≡ sets lent 0 (samples_of s bits) → count ≡ 32 * length bits → count ≤ length lent
      → outcome (as_answer (Ok count)) next now ≡ o
  sending_on bits next count now e es en ec room =
      ap (λ (t : Transmitter). outcome (as_answer (Ok count)) t now) es
      ∙ sending s bits lent (tones_of s.band) (after_bits s bits).phase count now e refl refl en ec room

  pub idle_refused : (r : Refusal) → number_of r ≡ first_of (idle_tests s (length lent)) → outcome (as_answer (Err r)) s lent ≡ idle_of s lent
  unfolding idle_of
  idle_refused r = refusing r (idle_tests s (length lent)) (sent s idle_bits lent)

  pub idle_sent : (next : Transmitter) (now : List ℤ) → 0 ≡ first_of (idle_tests s (length lent)) → next ≡ after_bits s idle_bits
      → now ≡ sets lent 0 (samples_of s idle_bits) → outcome (as_answer (Ok 96)) next now ≡ idle_of s lent
  idle_sent next now e es en =
      let k = idle-known s (length lent) (sym e) in
      sending_on idle_bits next 96 now (idle_0 s lent k.0 k.1) es en refl k.1

  module _ (bytes : List ℕ) where
    pub characters_refused : (r : Refusal) → number_of r ≡ first_of (characters_tests s (length bytes) (length lent))
        → outcome (as_answer (Err r)) s lent ≡ characters_of s bytes lent
    unfolding characters_of
    characters_refused r = refusing r (characters_tests s (length bytes) (length lent)) (sent s (characters_bits bytes) lent)

    pub characters_sent : (count : ℕ) (next : Transmitter) (now : List ℤ) → count ≡ 320 * length bytes → 0 ≡ first_of (characters_tests s (length bytes) (length lent))
        → next ≡ after_bits s (characters_bits bytes) → now ≡ sets lent 0 (samples_of s (characters_bits bytes))
        → outcome (as_answer (Ok count)) next now ≡ characters_of s bytes lent
    characters_sent count next now ec e es en =
        let k = characters-known s (length bytes) (length lent) (sym e) in
        sending_on (characters_bits bytes) next count now (characters_0 s bytes lent k.ranged k.few k.room) es en
        (omega (arith, length-characters bytes)) (omega (arith, k.room))
