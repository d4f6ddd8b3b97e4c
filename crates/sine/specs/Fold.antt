-- How the code reads S from a table of its first quarter: a phase is folded to a place of the table and a sign. The definitions are ours, after
-- the specification's S(960 - p) = S(p) and S(p + 960) = -S(p).
-- Assumes nothing.
use Rattle.std.specs.Prelude.{◌≡◌, cond, List, ℕ, ◌-◌, ◌%◌, ◌≤◌, min, ltb, ℤ, pos, negsuc, get_or}
use Rattle.sine.specs.Sine.{S}

-- the phase from 0 to 480 with the same sine, signs aside
unfoldable pub place_of : ℕ → ℕ
place_of p = min (p % 960) (960 - p % 960)

-- 1 in the first half of the cycle, -1 in the second
unfoldable pub sign_of : ℕ → ℤ
sign_of p = cond (ltb (p % 1920) 960) (pos 1) (negsuc 0)

-- a list that holds S(k) at each place k from 0 to 480
pub record HoldsQuarter (xs : List ℤ) : Type 0 where
  pub at : (k : ℕ) → k ≤ 480 → get_or xs k (pos 0) ≡ S k

-- places that such a list has
pub record InQuarter (places : List ℕ) : Type 0 where
  pub at : (k : ℕ) → get_or places k 0 ≤ 480
