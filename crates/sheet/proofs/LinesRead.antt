-- What was written as lines of samples is read: the digits of a number lead into it, and a line feed ends its line.
-- Assumes nothing.
use mathlib.Core.Path.{◌≡◌, refl, sym, ap, ap₂, ◌∙◌}
use mathlib.Core.Bool.{Bool, true, false}
use mathlib.Core.List.{List, [], ◌∷◌, ◌++◌}
use Prim.Native.Nat.{ℕ, zero, suc, ◌+◌, ◌-◌, ◌*◌, ◌/◌, ◌%◌, ◌<◌}
use native.Mathlib.Nat.{not-suc-le-zero}
use native.Mathlib.Omega.{arith}
use borrow.Author.Tests.{ne_eqb, lt-ltb}
use lib.Dec.{eqb}
use lib.IntN.{ℤ, pos, negsuc, nat_abs}
use Rattle.std.specs.Prelude.{Option, Some}
use Rattle.integers.specs.All.{All, none, more}
use Rattle.integers.proofs.Tests.{lt_or_le}
use Rattle.calls.specs.Runs as runs
use Rattle.calls.proofs.Runs.{RunLaws, run_laws}
use Rattle.digits.specs.Numbers.{is_digit, decimal}
use Rattle.digits.proofs.Numbers.{is_digit_lem, decimal-small, decimal_digit}
use Rattle.sheet.specs.Text.{line_of, lines_of}
use Rattle.sheet.specs.Parse.{next, sample_of, next_of, sample_at, line_after, samples_in}
use Rattle.sheet.specs.declared.Line.{Line}
use Rattle.sheet.specs.declared.Line.TheVariants.{Start, Minus, Number}

laws : RunLaws line_after samples_in
laws = run_laws next_of sample_at

-- from one place a text leads to another, and no line ends in it
pub record Leads (from : Option Line) (t : List ℕ) (to : Option Line) : Type 0 where
  pub place : line_after from t ≡ to
  pub nothing : samples_in from t ≡ []

module _ (d : ℕ) (h : d < 10) where
  digit : is_digit (48 + d) ≡ true
  digit = is_digit_lem (48 + d) (omega arith) (omega arith)

  no_feed : eqb (48 + d) 10 ≡ false
  no_feed = ne_eqb (48 + d) 10 (λ e. omega arith)

  back : 48 + d - 48 ≡ d
  back = omega arith

  first : 0 < d → next Start (48 + d) ≡ Some (Number false d)
  unfolding next
  first p = rw (ne_eqb (48 + d) 45 (λ e. omega arith), ne_eqb (48 + d) 48 (λ e. omega arith), digit, back)

  first_negative : 0 < d → next Minus (48 + d) ≡ Some (Number true d)
  unfolding next
  first_negative p = rw (ne_eqb (48 + d) 48 (λ e. omega arith), digit, back)

  further : (m : Bool) (n : ℕ) → n < 1000 → next (Number m n) (48 + d) ≡ Some (Number m (n * 10 + d))
  unfolding next
  further m n l = rw (no_feed, digit, lt-ltb n 1000 l, back)

  -- a digit that leads on
  leads_digit : (from to : Option Line) → next_of from (48 + d) ≡ to → Leads from ((48 + d) ∷ []) to
  unfolding runs.after runs.gives
  leads_digit from to e = record { place = e; nothing = rw no_feed }

leads_append : (a b c : Option Line) (s t : List ℕ) → Leads a s b → Leads b t c → Leads a (s ++ t) c
leads_append a b c s t p q =
    record {
      place = laws.after_append a s t ∙ ap (λ (l : Option Line). line_after l t) p.place ∙ q.place;
      nothing =
          laws.gives_append a s t
          ∙ ap₂ (λ (x y : List ℤ). x ++ y) p.nothing (ap (λ (l : Option Line). samples_in l t) p.place ∙ q.nothing);
    }

-- the place in a number
abbrev number : Bool → ℕ → Option Line
number m n = Some (Number m n)

-- the digits of a number lead into it
module _ (from : Line) (m : Bool) (start : (d : ℕ) → d < 10 → 0 < d → next from (48 + d) ≡ Some (Number m d)) where
  leads : (k n : ℕ) → n < k → 0 < n → n < 10000 → Leads (Some from) (decimal n) (number m n)
  leads zero n h p s = absurd (not-suc-le-zero h)
  leads (suc k) n h p s =
      lt_or_le n 10 (λ l. rw (decimal-small n l) (leads_digit n l (Some from) (number m n) (start n l p)))
      (λ l.
      let e : n / 10 * 10 + n % 10 ≡ n = omega arith in
      let d : n % 10 < 10 = omega arith in
      let q : 0 < n / 10 = omega arith in
      rw e at
      (rw (sym (decimal_digit (n / 10) (n % 10) q d)) at
      (leads_append (Some from) (number m (n / 10)) (number m (n / 10 * 10 + n % 10)) (decimal (n / 10)) ((48 + n % 10) ∷ [])
      (leads k (n / 10) (omega arith) q (omega arith))
      (leads_digit (n % 10) d (number m (n / 10)) (number m (n / 10 * 10 + n % 10)) (further (n % 10) d m (n / 10) (omega arith))))))

  -- and a line feed behind them ends the line
  ends : (n : ℕ) → 0 < n → n < 10000
      → (line_after (Some from) (decimal n ++ (10 ∷ [])) ≡ Some Start) × (samples_in (Some from) (decimal n ++ (10 ∷ [])) ≡ sample_of (Number m n) ∷ [])
  unfolding runs.after runs.gives next
  ends n p s =
      let l = leads (suc n) n (omega arith) p s in (
        laws.after_append (Some from) (decimal n) (10 ∷ []) ∙ ap (λ (x : Option Line). line_after x (10 ∷ [])) l.place,
        laws.gives_append (Some from) (decimal n) (10 ∷ [])
            ∙ ap₂ (λ (x y : List ℤ). x ++ y) l.nothing (ap (λ (x : Option Line). samples_in x (10 ∷ [])) l.place),
      )

line_read : (z : ℤ) → nat_abs z < 10000 → (line_after (Some Start) (line_of z) ≡ Some Start) × (samples_in (Some Start) (line_of z) ≡ z ∷ [])
unfolding line_of runs.after runs.gives next sample_of
line_read (pos zero) h = rw (decimal-small 0 (omega arith)) (refl, refl)
line_read (pos (suc n)) h = ends Start false first (suc n) (omega arith) h
line_read (negsuc n) h = ends Minus true first_negative (suc n) (omega arith) h

pub lines-read : (zs : List ℤ) → All (λ z. nat_abs z < 10000) zs → (line_after (Some Start) (lines_of zs) ≡ Some Start) × (samples_in (Some Start) (lines_of zs) ≡ zs)
lines-read [] none = (laws.after_none (Some Start), laws.gives_none (Some Start))
lines-read (z ∷ zs) (more h hs) =
    let one = line_read z h in
    let rest = lines-read zs hs in (
      laws.after_append (Some Start) (line_of z) (lines_of zs) ∙ ap (λ (l : Option Line). line_after l (lines_of zs)) one.0 ∙ rest.0,
      laws.gives_append (Some Start) (line_of z) (lines_of zs)
          ∙ ap₂ (λ (x y : List ℤ). x ++ y) one.1 (ap (λ (l : Option Line). samples_in l (lines_of zs)) one.0 ∙ rest.1),
    )
