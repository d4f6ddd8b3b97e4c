-- A refusal's lines, their length, and what a caller is told of a buffer in which there was room.
-- Assumes nothing.
use mathlib.Core.Path.{◌≡◌, sym, ap, ◌∙◌}
use mathlib.Core.List.{List, [], ◌∷◌, ◌++◌}
use Prim.Native.Nat.{ℕ, ◌+◌, ◌<◌, ◌≤◌}
use native.Mathlib.Omega.{arith}
use lib.ListN.{length, take, drop, length-append}
use lib.Seq.{sets, take_at}
use Rattle.integers.proofs.Lists.{sets_append, sets-front}
use Rattle.calls.specs.Outcome.{over}
use Rattle.digits.specs.Numbers.{decimal}
use Rattle.digits.proofs.Numbers.{length-decimal}
use Rattle.printing.specs.Printing.{refused_line, refusal_lines, Front}

-- ---- a refusal

module _ (number : ℕ) where
  pub refusal-length : 9 + length (decimal number) ≡ length (refusal_lines number)
  unfolding refusal_lines
  refusal-length = omega (arith, length-append (decimal number) (10 ∷ []))

  pub few_digits : number < 256 → length (decimal number) ≤ 3
  few_digits h = length-decimal 2 number (omega arith)

  -- the line, the digits and the line feed, put one behind the other
  pub refusal-parts : (lent : List ℕ)
      → sets (sets (sets lent 0 refused_line) 8 (decimal number)) (8 + length (decimal number)) (10 ∷ []) ≡ sets lent 0 (refusal_lines number)
  unfolding refusal_lines
  refusal-parts lent =
      sym (sets_append lent 0 refused_line (decimal number ++ (10 ∷ [])) ∙ sets_append (sets lent 0 refused_line) 8 (decimal number) (10 ∷ []))

  -- 12 places are enough for a number of three digits
  pub refusal-over : (lent : List ℕ) → number < 1000 → 12 ≤ length lent → sets lent 0 (refusal_lines number) ≡ over (refusal_lines number) lent
  refusal-over lent h room = sets-front (refusal_lines number) lent (omega (arith, refusal-length, length-decimal 2 number h))

-- for the search of the check
pub ruleset in_parts = (refusal-length, few_digits, refusal-parts)

-- ---- a text over the front of a buffer that is as long as before

module _ (text lent now : List ℕ) (count : ℕ) (c : count ≡ length text) (e : now ≡ over text lent) (l : length now ≡ length lent) where
  front : Front count now
  front =
      let rest = drop (length text) lent in
      let t = ap (take count) e ∙ take_at text rest count (sym c) in
      (omega (arith, ap length e, length-append text rest), c ∙ sym (ap length t))

  -- the text is the one that was to be printed
  pub printed : (wanted : List ℕ) → text ≡ wanted → (count ≡ length wanted) × ((now ≡ over wanted lent) × Front count now)
  printed wanted w = (c ∙ ap length w, (e ∙ ap (λ (t : List ℕ). over t lent) w, front))
