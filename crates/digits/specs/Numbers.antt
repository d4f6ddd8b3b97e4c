-- Numbers as text, in ASCII codes: the digits of the specification, "Sheet and programs".
-- Assumes nothing.
use Rattle.std.specs.Prelude.{Bool, cond, ◌&&◌, List, [], ◌∷◌, ◌++◌, ℕ, zero, suc, ◌+◌, ◌/◌, ◌%◌, leb, ltb}

-- `0` to `9`
abbrev pub is_digit : ℕ → Bool
is_digit byte = leb 48 byte && leb byte 57

-- in decimal, with no zero in front; the first argument bounds the count of digits, and every one above n gives the same
unfoldable pub decimal_in : ℕ → ℕ → List ℕ
decimal_in zero n = []
decimal_in (suc k) n = cond (ltb n 10) ((48 + n) ∷ []) (decimal_in k (n / 10) ++ ((48 + n % 10) ∷ []))

-- n itself is such a bound, with one to spare
unfoldable pub decimal : ℕ → List ℕ
decimal n = decimal_in (suc n) n

-- `0` to `9`, then `a` to `f`
abbrev pub hex_digit : ℕ → ℕ
hex_digit n = cond (ltb n 10) (48 + n) (87 + n)

-- a byte as two hexadecimal digits
unfoldable pub hexadecimal : ℕ → List ℕ
hexadecimal byte = hex_digit (byte / 16) ∷ hex_digit (byte % 16) ∷ []
