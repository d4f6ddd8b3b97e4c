-- The sine in whole numbers: the specification, "Tones and sine". `SineRule` is what it asks of S. `S` computes the numbers,
-- and it is the one function with that rule (proofs/Rule: `S_rule`, `S_unique`, `S-only`).
-- Assumes nothing.
use Rattle.std.specs.Prelude.{◌≡◌, cond, ℕ, zero, suc, ◌+◌, ◌*◌, ◌-◌, ◌/◌, ◌%◌, ◌^◌, ◌≤◌, leb, ltb, ℤ, pos, neg_ℤ, ◌+ℤ◌, ◌-ℤ◌, ◌*ℤ◌, ◌<ℤ◌}

-- ---- the sine series of a / b: through the power 2 k + 1 its sum is the fraction series a b k / scale b k

-- what the denominator grows by from the power 2 k + 1 to the power 2 k + 3
abbrev pub growth : ℕ → ℕ → ℕ
growth b k = b * b * ((2 * k + 2) * (2 * k + 3))

-- b^(2 k + 1) (2 k + 1)!
unfoldable pub scale : ℕ → ℕ → ℕ
scale b zero = b
scale b (suc k) = scale b k * growth b k

-- n with the sign of term k
abbrev pub signed : ℕ → ℕ → ℤ
signed zero n = pos n
signed (suc k) n = neg_ℤ (signed k n)

unfoldable pub series : ℕ → ℕ → ℕ → ℤ
series a b zero = pos a
series a b (suc k) = series a b k *ℤ pos (growth b k) +ℤ signed (suc k) (a ^ (2 * k + 3))

-- ---- the rule, for p from 0 to 480: the angle is pi p / 960

-- the denominator of the angle, with pi counted in 10^-14
abbrev pub unit : ℕ
unit = 960 * 10 ^ 14

-- L is lower p / scale unit 9: through the 19th power, with 314159265358979 / 10^14 for pi
abbrev pub lower : ℕ → ℤ
lower p = series (314159265358979 * p) unit 9

-- U is upper p / scale unit 10: through the 21st power, with 314159265358980 / 10^14 for pi
abbrev pub upper : ℕ → ℤ
upper p = series (314159265358980 * p) unit 10

-- 2 E - 1 < 12000 L and 12000 U < 2 E + 1, multiplied out
pub record IsSine (p : ℕ) (e : ℤ) : Type 0 where
  pub above : ((pos 2 *ℤ e -ℤ pos 1) *ℤ pos (scale unit 9)) <ℤ (pos 12000 *ℤ lower p)
  pub below : (pos 12000 *ℤ upper p) <ℤ ((pos 2 *ℤ e +ℤ pos 1) *ℤ pos (scale unit 10))

-- S(p) is that number for p from 0 to 480; then S(960 - p) = S(p) and S(p + 960) = -S(p), phases taken modulo 1,920
pub record SineRule (f : ℕ → ℤ) : Type 0 where
  pub quarter : (p : ℕ) → p ≤ 480 → IsSine p (f p)
  pub mirror : (p q : ℕ) → (p + q) % 1920 ≡ 960 → f p ≡ f q
  pub opposite : (p : ℕ) → f (p + 960) ≡ neg_ℤ (f p)
  pub period : (p : ℕ) → f (p + 1920) ≡ f p

-- ---- S and C, as they are computed: L by Horner's scheme on natural numbers, which is quick

-- over / under
pub record Fraction : Type 0 where
  pub over : ℕ
  pub under : ℕ

-- 1 - x / c times f, where x = aa / bb
abbrev pub stage : ℕ → ℕ → ℕ → Fraction → Fraction
stage aa bb c f = let d : ℕ = bb * c * f.under in record { over = d - aa * f.over; under = d }

-- 1 - x / (2 * 3) times (1 - x / (4 * 5) times (.. (1 - x / (2 k * (2 k + 1)) times f)))
unfoldable pub horner : ℕ → ℕ → ℕ → Fraction → Fraction
horner aa bb zero f = f
horner aa bb (suc k) f = horner aa bb k (stage aa bb ((2 * k + 2) * (2 * k + 3)) f)

-- 6000 a f / b + 1/2, rounded down
abbrev pub rounded : ℕ → ℕ → Fraction → ℕ
rounded a b f = let d : ℕ = b * f.under in (12000 * a * f.over + d) / (2 * d)

-- the whole number nearest to 6000 L
unfoldable pub nearest : ℕ → ℤ
unfolding horner
nearest p = let a : ℕ = 314159265358979 * p in pos (rounded a unit (horner (a * a) (unit * unit) 9 (record { over = 1; under = 1 })))

-- the first half of the cycle, mirrored at 480
unfoldable pub half : ℕ → ℤ
half h = nearest (cond (leb h 480) h (960 - h))

-- the second half is the first, negated
unfoldable pub S : ℕ → ℤ
S p = cond (ltb (p % 1920) 960) (half (p % 960)) (neg_ℤ (half (p % 960)))

-- C(p) is S(p + 480)
abbrev pub C : ℕ → ℤ
C p = S (p + 480)
