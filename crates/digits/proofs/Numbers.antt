-- Laws of numbers as text: the bytes that are digits, the digits of a number one by one, and how many there are.
-- Assumes nothing.
use mathlib.Core.Path.{◌≡◌, refl, sym, ap, ◌∙◌}
use mathlib.Core.Bool.{true}
use mathlib.Core.List.{List, [], ◌∷◌, ◌++◌}
use mathlib.Mathlib.Data.Bool.Basic.{and_elim_left, and_elim_right, and_intro}
use Prim.Native.Nat.{ℕ, zero, suc, ◌+◌, ◌*◌, ◌^◌, ◌/◌, ◌%◌, ◌<◌, ◌≤◌}
use native.Mathlib.Nat.{not-suc-le-zero, lt-suc_self, pow-succ'}
use native.Mathlib.Omega.{arith}
use borrow.Author.Tests.{leb-true, ltb-false, le-leb, lt-ltb, le-ltb}
use lib.Dec.{leb, ltb}
use lib.ListN.{length, length-append}
use Rattle.std.specs.Fmt as printed
use Rattle.std.proofs.lemmas.Fmt as printing
use Rattle.integers.proofs.Tests.{cond_both, lt_or_le}
use Rattle.digits.specs.Numbers.{is_digit, decimal_in, decimal, hexadecimal}

-- ---- digits

pub digit_low : (b : ℕ) → is_digit b ≡ true → 48 ≤ b
digit_low b h = leb-true 48 b (and_elim_left (leb 48 b) (leb b 57) h)

pub digit-high : (b : ℕ) → is_digit b ≡ true → b ≤ 57
digit-high b h = leb-true b 57 (and_elim_right (leb 48 b) (leb b 57) h)

pub is_digit_lem : (b : ℕ) → 48 ≤ b → b ≤ 57 → is_digit b ≡ true
is_digit_lem b low high = and_intro (le-leb 48 b low) (le-leb b 57 high)

-- ---- decimal

longer : (d : ℕ) {xs ys : List ℕ} → xs ≡ ys → xs ++ (d ∷ []) ≡ ys ++ (d ∷ [])
longer d = ap (λ (xs : List ℕ). xs ++ (d ∷ []))

-- every count above the number gives the same
counted : (k m n : ℕ) → n < k → n < m → decimal_in k n ≡ decimal_in m n
unfolding decimal_in
counted zero m n g h = absurd (not-suc-le-zero g)
counted (suc k) zero n g h = absurd (not-suc-le-zero h)
counted (suc k) (suc m) n g h =
    cond_both (λ (x y : List ℕ). x ≡ y) (ltb n 10) (λ e. refl)
    (λ e. let l = ltb-false n 10 e in longer (48 + n % 10) (counted k m (n / 10) (omega arith) (omega arith)))

pub decimal-small : (n : ℕ) → n < 10 → decimal n ≡ (48 + n) ∷ []
unfolding decimal decimal_in
decimal-small n h = rw (lt-ltb n 10 h)

pub decimal-more : (n : ℕ) → 10 ≤ n → decimal n ≡ decimal (n / 10) ++ ((48 + n % 10) ∷ [])
unfolding decimal decimal_in
decimal-more n h = rw (le-ltb n 10 h) (longer (48 + n % 10) (counted n (suc (n / 10)) (n / 10) (omega arith) (lt-suc_self (n / 10))))

-- a digit behind a number
pub decimal_digit : (n d : ℕ) → 0 < n → d < 10 → decimal (n * 10 + d) ≡ decimal n ++ ((48 + d) ∷ [])
decimal_digit n d g h =
    let quotient : (n * 10 + d) / 10 ≡ n = omega arith in
    let rest : (n * 10 + d) % 10 ≡ d = omega arith in
    rw (quotient, rest) at (decimal-more (n * 10 + d) (omega arith))

-- ---- how many digits

pub length-small : (n : ℕ) → n < 10 → length (decimal n) ≡ 1
length-small n h = ap length (decimal-small n h)

pub length_more : (n : ℕ) → 10 ≤ n → length (decimal n) ≡ length (decimal (n / 10)) + 1
length_more n h = ap length (decimal-more n h) ∙ length-append (decimal (n / 10)) ((48 + n % 10) ∷ [])

-- a number below 10, 100, 1000 .. has at most 1, 2, 3 .. digits
pub length-decimal : (k n : ℕ) → n < 10 ^ suc k → length (decimal n) ≤ suc k
length-decimal zero n h = omega (arith, length-small n h)
length-decimal (suc k) n h =
    let e = length-decimal k (n / 10) (omega (arith, pow-succ' 10 (suc k))) in
    lt_or_le n 10 (λ l. omega (arith, length-small n l)) (λ l. omega (arith, length_more n l))

-- and one from 10, 100, 1000 or 10000 on has just as many as that
pub length_two : (n : ℕ) → 10 ≤ n → n < 100 → length (decimal n) ≡ 2
length_two n low high = omega (arith, length_more n low, length-small (n / 10) (omega arith))

pub length_three : (n : ℕ) → 100 ≤ n → n < 1000 → length (decimal n) ≡ 3
length_three n low high = omega (arith, length_more n (omega arith), length_two (n / 10) (omega arith) (omega arith))

pub length_four : (n : ℕ) → 1000 ≤ n → n < 10000 → length (decimal n) ≡ 4
length_four n low high = omega (arith, length_more n (omega arith), length_three (n / 10) (omega arith) (omega arith))

pub length_five : (n : ℕ) → 10000 ≤ n → n < 100000 → length (decimal n) ≡ 5
length_five n low high = omega (arith, length_more n (omega arith), length_four (n / 10) (omega arith) (omega arith))

-- for the search of the check
pub ruleset counts = (length-small, length_two, length_three, length_four, length_five)

-- a number of 16 bits
pub five_digits : (n : ℕ) → n < 65536 → length (decimal n) ≤ 5
five_digits n h = length-decimal 4 n (omega arith)

-- the library prints the same digits; k bounds the number
as_library : (k n : ℕ) → n < k → n < 2 ^ 64 → printed.decimal n ≡ decimal n
as_library zero n h small = absurd (not-suc-le-zero h)
as_library (suc k) n h small =
    lt_or_le n 10 (λ l. printing.decimal_digit n l ∙ sym (decimal-small n l))
    (λ l. printing.decimal_step n l small ∙ longer (48 + n % 10) (as_library k (n / 10) (omega arith) (omega arith)) ∙ sym (decimal-more n l))

pub library_decimal : (n : ℕ) → n < 65536 → printed.decimal n ≡ decimal n
library_decimal n h = as_library (suc n) n (lt-suc_self n) (omega arith)

-- for the search of the check: the digits are the library's, and at most five
pub ruleset by_library = (library_decimal, five_digits)

-- ---- hexadecimal

pub length-hexadecimal : (b : ℕ) → length (hexadecimal b) ≡ 2
unfolding hexadecimal
length-hexadecimal b = refl
