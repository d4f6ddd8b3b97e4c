-- What is read as lines of samples was written so: the line so far has the text that was read, until a line feed makes it a sample's line.
-- Assumes nothing.
use mathlib.Core.Path.{◌≡◌, refl, sym, ap, ap₂, ◌∙◌}
use mathlib.Core.Bool.{Bool, true, false, cond, ◌&&◌, false≢true}
use mathlib.Core.List.{List, [], ◌∷◌, ◌++◌, append_assoc}
use mathlib.Mathlib.Data.Bool.Basic.{and_elim_left, and_elim_right}
use Prim.Native.Nat.{ℕ, zero, suc, ◌+◌, ◌-◌, ◌*◌, ◌<◌}
use native.Mathlib.Nat.{not-suc-le-zero}
use native.Mathlib.Omega.{arith}
use borrow.Author.Tests.{eqb-true, eqb-false, ltb-true}
use lib.Dec.{ltb, eqb}
use lib.IntN.{nat_abs}
use Rattle.std.specs.Prelude.{Option, None, Some}
use Rattle.integers.specs.All.{All, none, more}
use Rattle.integers.proofs.Tests.{cond-split}
use Rattle.calls.specs.Runs as runs
use Rattle.digits.specs.Numbers.{is_digit, decimal}
use Rattle.digits.proofs.Numbers.{digit_low, digit-high, decimal-small, decimal_digit}
use Rattle.sheet.specs.Text.{line_of, lines_of}
use Rattle.sheet.specs.Parse.{next, sample_of, line_after, samples_in, is_start}
use Rattle.sheet.specs.declared.Line.{Line}
use Rattle.sheet.specs.declared.Line.TheVariants.{Start, Minus, Zero, Number}

pub is_start_lem : (place : Option Line) → is_start place ≡ true → place ≡ Some Start
unfolding is_start
is_start_lem None h = absurd (false≢true h)
is_start_lem (Some Start) h = refl
is_start_lem (Some Minus) h = absurd (false≢true h)
is_start_lem (Some Zero) h = absurd (false≢true h)
is_start_lem (Some (Number m n)) h = absurd (false≢true h)

-- the text of the line so far
abbrev text_of : Line → List ℕ
text_of Start = []
text_of Minus = 45 ∷ []
text_of Zero = 48 ∷ []
text_of (Number false n) = decimal n
text_of (Number true n) = 45 ∷ decimal n

-- a number is 1 to 9,999
abbrev Fine : Line → Type 0
Fine Start = Unit
Fine Minus = Unit
Fine Zero = Unit
Fine (Number m n) = (0 < n) × (n < 10000)

record Grown (line : Line) (b : ℕ) (to : Line) : Type 0 where
  pub fine : Fine to
  pub text : text_of to ≡ text_of line ++ (b ∷ [])

-- the line has one byte more, if a line has it there
abbrev Grows : Line → ℕ → Option Line → Type 0
Grows line b None = Unit
Grows line b (Some to) = Grown line b to

module _ (b : ℕ) where
  abbrev value : ℕ
  value = b - 48

  code : is_digit b ≡ true → 48 + value ≡ b
  code d = omega (arith, digit_low b d)

  digit_fine : is_digit b ≡ true → eqb b 48 ≡ false → (0 < value) × (value < 10000)
  digit_fine d z = (omega (arith, digit_low b d, eqb-false b 48 z), omega (arith, digit-high b d))

  digit-text : is_digit b ≡ true → decimal value ≡ b ∷ []
  digit-text d = decimal-small value (omega (arith, digit-high b d)) ∙ ap (λ (x : ℕ). x ∷ []) (code d)

  digit-behind : (n : ℕ) → 0 < n → is_digit b ≡ true → decimal (n * 10 + value) ≡ decimal n ++ (b ∷ [])
  digit-behind n p d =
      decimal_digit n value p (omega (arith, digit-high b d)) ∙ ap (λ (x : ℕ). decimal n ++ (x ∷ [])) (code d)

  longer : (m : Bool) (n : ℕ) → 0 < n → is_digit b ≡ true → text_of (Number m (n * 10 + value)) ≡ text_of (Number m n) ++ (b ∷ [])
  longer false n p d = digit-behind n p d
  longer true n p d = ap (λ (l : List ℕ). 45 ∷ l) (digit-behind n p d)

  grows : (line : Line) → Fine line → eqb b 10 ≡ false → Grows line b (next line b)
  unfolding next
  grows Start f e =
      cond-split (Grows Start b) (eqb b 45) (Some Minus) (cond (eqb b 48) (Some Zero) (cond (is_digit b) (Some (Number false value)) None))
      (λ y. record { fine = tt; text = ap (λ (x : ℕ). x ∷ []) (sym (eqb-true b 45 y)) })
      (λ n.
      cond-split (Grows Start b) (eqb b 48) (Some Zero) (cond (is_digit b) (Some (Number false value)) None)
      (λ y. record { fine = tt; text = ap (λ (x : ℕ). x ∷ []) (sym (eqb-true b 48 y)) })
      (λ z.
      cond-split (Grows Start b) (is_digit b) (Some (Number false value)) None
      (λ d. record { fine = digit_fine d z; text = digit-text d })
      (λ d. tt)))
  grows Minus f e =
      cond-split (Grows Minus b) (eqb b 48) None (cond (is_digit b) (Some (Number true value)) None)
      (λ y. tt)
      (λ z.
      cond-split (Grows Minus b) (is_digit b) (Some (Number true value)) None
      (λ d. record { fine = digit_fine d z; text = ap (λ (l : List ℕ). 45 ∷ l) (digit-text d) })
      (λ d. tt))
  grows Zero f e = rw e tt
  grows (Number m n) f e =
      rw e
      (cond-split (Grows (Number m n) b) (is_digit b && ltb n 1000) (Some (Number m (n * 10 + value))) None
      (λ d.
      let y = and_elim_left (is_digit b) (ltb n 1000) d in
      let l = ltb-true n 1000 (and_elim_right (is_digit b) (ltb n 1000) d) in
      record { fine = (omega (arith, f.0), omega (arith, digit-high b y, l)); text = longer m n f.0 y })
      (λ d. tt))

-- a line feed ends a line, if one can end there
record Ended (line to : Line) : Type 0 where
  pub start : to ≡ Start
  pub text : text_of line ++ (10 ∷ []) ≡ line_of (sample_of line)
  pub four : nat_abs (sample_of line) < 10000

abbrev Ends : Line → Option Line → Type 0
Ends line None = Unit
Ends line (Some to) = Ended line to

ends : (line : Line) → Fine line → Ends line (next line 10)
unfolding next sample_of line_of
ends Start f = tt
ends Minus f = tt
ends Zero f =
    record { start = refl; text = ap (λ (l : List ℕ). l ++ (10 ∷ [])) (sym (decimal-small 0 (omega arith))); four = omega arith }
ends (Number false n) f = record { start = refl; text = refl; four = f.1 }
ends (Number true zero) f = absurd (not-suc-le-zero f.0)
ends (Number true (suc n)) f = record { start = refl; text = refl; four = f.1 }

-- a reading stays behind what no line has
pub none_after : (t : List ℕ) → line_after None t ≡ None
unfolding runs.after
none_after [] = refl
none_after (b ∷ t) = none_after t

not_none : (t : List ℕ) → line_after None t ≡ Some Start → ⊥
not_none t e = let n = none_after t in cc

record Written (line : Line) (t : List ℕ) : Type 0 where
  pub text : text_of line ++ t ≡ lines_of (samples_in (Some line) t)
  pub four : All (λ z. nat_abs z < 10000) (samples_in (Some line) t)

written : (t : List ℕ) (line : Line) → Fine line → line_after (Some line) t ≡ Some Start → Written line t
unfolding runs.after runs.gives
written [] line f e = let s : line ≡ Start = cc in rw s (record { text = refl; four = none })
written (b ∷ t) line f e = go (λ l g h. written t l g h) (eqb b 10) refl
  where
    go : ((l : Line) → Fine l → line_after (Some l) t ≡ Some Start → Written l t) → (y : Bool) → eqb b 10 ≡ y → Written line (b ∷ t)
    go rest false y = other (next line b) refl
      where
        other : (o : Option Line) → next line b ≡ o → Written line (b ∷ t)
        other None n = absurd (not_none t (rw n at e))
        other (Some to) n =
            let g : Grown line b to = rw n at (grows b line f y) in
            let w = rest to g.fine (rw n at e) in
            record {
              text = rw (y, n) (sym (append_assoc (text_of line) (b ∷ []) t) ∙ ap (λ (l : List ℕ). l ++ t) (sym g.text) ∙ w.text);
              four = rw (y, n) w.four;
            }
    go rest true y = rw q (feed (next line 10) refl)
      where
        q : b ≡ 10
        q = eqb-true b 10 y

        feed : (o : Option Line) → next line 10 ≡ o → Written line (10 ∷ t)
        feed None n = absurd (not_none t (rw (q, n) at e))
        feed (Some to) n =
            let d : Ended line to = rw n at (ends line f) in
            let w = rest Start tt (rw (q, n, d.start) at e) in
            record {
              text = rw (n, d.start) (sym (append_assoc (text_of line) (10 ∷ []) t) ∙ ap₂ (λ (x y : List ℕ). x ++ y) d.text w.text);
              four = rw (n, d.start) (more d.four w.four);
            }

pub lines-written : (t : List ℕ) → line_after (Some Start) t ≡ Some Start
    → (t ≡ lines_of (samples_in (Some Start) t)) × All (λ z. nat_abs z < 10000) (samples_in (Some Start) t)
lines-written t e = let w = written t Start tt e in (w.text, w.four)
