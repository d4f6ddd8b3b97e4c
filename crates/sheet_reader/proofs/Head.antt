-- The three lines above the samples: what a text that begins with them has, and when it does not.
-- Assumes nothing.
use Rattle.std.proofs.Common.{◌≡◌, true, false, List, ℕ, ◌-◌, ◌≤◌, length, get_or, take, drop, arith, length-drop, take_all}
use mathlib.Core.Bool.{and-false}
use mathlib.Mathlib.Data.Bool.Basic.{and_intro}
use Rattle.std.proofs.lemmas.Bool.{false_from_ne_true}
use Rattle.digits.specs.Numbers.{is_digit}
use Rattle.text.specs.Bytes.{starts_with}
use Rattle.text.proofs.Bytes.{starts_long}
use Rattle.sheet.specs.Text.{head_of}
use Rattle.sheet.specs.Parse.{is_headed}
use Rattle.sheet.proofs.Inverse.{headed}
use Rattle.sheet_reader.specs.AsCoded.{IsHead}

-- the three lines have 14 bytes
pub head_long : (x : ℕ) (t : List ℕ) → starts_with (head_of x) t ≡ true → 14 ≤ length t
unfolding head_of
head_long x t s = starts_long (head_of x) t s

module _ (t : List ℕ) where
  -- a text without room for a digit has no head
  pub headless : length t ≤ 5 → is_headed t ≡ false
  headless l = false_from_ne_true (is_headed t) (λ h. omega (arith, (headed t h).long))

  module _ (x : ℕ) (e : x ≡ get_or t 5 0) where
    -- nor has one that begins otherwise, or with no digit
    pub other_head : starts_with (head_of x) t ≡ false → is_headed t ≡ false
    unfolding is_headed
    other_head n = rw (← e, n)

    pub no_digit : is_digit x ≡ false → is_headed t ≡ false
    unfolding is_headed
    no_digit d = rw (← e, d, and-false (starts_with (head_of x) t))

    -- the slice from place 14 on is all that stands behind
    pub is_head : starts_with (head_of x) t ≡ true → is_digit x ≡ true → IsHead t (x - 48) (take (length t - 14) (drop 14 t))
    unfolding is_headed
    is_head s d =
        record {
          headed = and_intro (rw e at s) (rw e at d);
          band_read = rw e;
          behind = take_all (length t - 14) (drop 14 t) (omega (arith, length-drop 14 t));
        }

-- for the search of the check
pub ruleset heads = (head_long, headless, other_head, no_digit)
