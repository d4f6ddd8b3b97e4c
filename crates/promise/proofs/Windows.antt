-- The windows of a recording: those over two bits, those inside a silence and those over the end of the trailer, and what is read
-- in them, whatever decides there. From the margins.
-- Assumes nothing.
use mathlib.Core.Path.{◌≡◌, refl, sym, ap, ap₂, ◌∙◌, subst}
use mathlib.Core.Bool.{true}
use mathlib.Core.List.{List, [], ◌∷◌, ◌++◌, map, append_assoc, append-nil}
use Prim.Native.Nat.{ℕ, suc, ◌+◌, ◌-◌, ◌≤◌, ◌<◌}
use native.Mathlib.Omega.{arith}
use borrow.Author.Tests.{lt-ltb, le-ltb}
use lib.IntN.{ℤ, pos}
use lib.ListN.{length, take, drop, length-append, length-drop, length-replicate, replicate-append-replicate}
use lib.Seq.{take_all, drop_at, drop-append-le, drop-append-add, take-append-le, take-append-add}
use Rattle.integers.specs.Near.{Near}
use Rattle.integers.proofs.Tests.{lt_or_le}
use Rattle.sine.specs.Wave.{wave}
use Rattle.sine.proofs.Wave.{length-wave}
use Rattle.tones.specs.declared.Tones.{Tones}
use Rattle.tones.specs.Bands.{step_of}
use Rattle.transmitter.specs.Samples.{send_bits}
use Rattle.transmitter.proofs.Laws.{send_bits_append, send_bit, phase_bit}
use Rattle.control.specs.declared.Decision.{Decision}
use Rattle.receiver.specs.Windows.{decisions}
use Rattle.margin.specs.Windows.{phase_after_bit, across, Margins}
use Rattle.promise.specs.Recordings.{silence}
use Rattle.promise.proofs.Steps.{Reads, Clear, Invariant, Keeps}
use Rattle.promise.proofs.Along.{GivesFrom, along}

-- a change of every decision is a change of what decides
pub decisions-map : (f : Decision → Decision) (decide : List ℤ → Decision) (zs : List ℤ) → map f (decisions decide zs) ≡ decisions (λ w. f (decide w)) zs
unfolding decisions
decisions-map f decide [] = refl
decisions-map f decide (z ∷ zs) =
    lt_or_le (length zs) 31
    (λ h. rw (lt-ltb (length zs) 31 h))
    (λ h. rw (le-ltb (length zs) 31 h) (ap (λ (ds : List Decision). f (decide (take 32 (z ∷ zs))) ∷ ds) (decisions-map f decide zs)))

-- one silence behind another
pub silences : (n m : ℕ) (more : List ℤ) → silence n ++ (silence m ++ more) ≡ silence (n + m) ++ more
silences n m more = sym (append_assoc (silence n) (silence m) more) ∙ ap (λ (xs : List ℤ). xs ++ more) (replicate-append-replicate n m (pos 0))

-- the last of a and the first of b
pub window : (a b more : List ℤ) (k : ℕ) → length a ≡ 32 → k ≤ 32 → k ≤ length b → take 32 (drop k (a ++ (b ++ more))) ≡ drop k a ++ take k b
window a b more k e h l =
    let n : 32 ≡ length (drop k a) + k = omega (arith, length-drop k a) in
    ap (take 32) (drop-append-le k a (b ++ more) (omega arith))
    ∙ ap (λ (i : ℕ). take i (drop k a ++ (b ++ more))) n
    ∙ take-append-add (drop k a) (b ++ more) k
    ∙ ap (λ (xs : List ℤ). drop k a ++ xs) (take-append-le k b more l)

-- inside n silent samples
pub silent-window : (n k : ℕ) (more : List ℤ) → k + 32 ≤ n → take 32 (drop k (silence n ++ more)) ≡ silence 32
silent-window n k more h =
    let e : k + (32 + (n - (k + 32))) ≡ n = omega arith in
    let rest : List ℤ = silence (n - (k + 32)) ++ more in
    ap (λ (i : ℕ). take 32 (drop k (silence i ++ more))) (sym e)
    ∙ ap (λ (xs : List ℤ). take 32 (drop k xs))
    (sym (ap (λ (xs : List ℤ). silence k ++ xs) (silences 32 (n - (k + 32)) more) ∙ silences k (32 + (n - (k + 32))) more))
    ∙ ap (take 32) (drop_at (silence k) (silence 32 ++ rest) k (length-replicate k (pos 0)))

-- the last of a and k silent samples, and then silence alone
module _ (a : List ℤ) (e : length a ≡ 32) (m k : ℕ) (l : k ≤ m) where
  pub mark_then_silence-window : k ≤ 32 → take 32 (drop k (a ++ silence m)) ≡ drop k a ++ silence k
  mark_then_silence-window h =
      let n : k + (m - k) ≡ m = omega arith in
      ap (λ (xs : List ℤ). take 32 (drop k (a ++ xs))) (ap silence (sym n) ∙ sym (replicate-append-replicate k (m - k) (pos 0)))
      ∙ window a (silence k) (silence (m - k)) k e h (omega (arith, length-replicate k (pos 0)))
      ∙ ap (λ (xs : List ℤ). drop k a ++ xs) (take_all k (silence k) (omega (arith, length-replicate k (pos 0))))

  pub silent-behind : 32 ≤ k → take 32 (drop k (a ++ silence m)) ≡ silence 32
  silent-behind h =
      let n : k ≡ length a + (k - 32) = omega arith in
      ap (λ (i : ℕ). take 32 (drop i (a ++ silence m))) n
      ∙ ap (take 32) (drop-append-add a (silence m) (k - 32) ∙ ap (drop (k - 32)) (sym (append-nil (silence m))))
      ∙ silent-window m (k - 32) [] (omega arith)

-- What is read in a window with k samples of the bit b behind those of the bit a: the first up to 14, the second from 19 on; without
-- doubt the first up to 3, and the second with 31.
pub record ReadAcross (a b k : ℕ) (d : Decision) : Type 0 where
  pub good : d.good ≡ true
  pub earlier : k ≤ 14 → Reads d a
  pub later : 19 ≤ k → Reads d b
  pub steady : a ≡ b → Reads d a
  pub earlier_clear : k ≤ 3 → Clear d a
  pub later_clear : 31 ≤ k → Clear d b

module _ {noise : ℕ} (t : Tones) {decide : List ℤ → Decision} (M : Margins noise t decide) where
  read-across : (p : ℕ) → M.Begins p → (a b k : ℕ) → k < 32 → (w : List ℤ) → Near noise (across t p a b k) w → ReadAcross a b k (decide w)
  read-across p s a b k h w n =
      let d : Decision = decide w in
      let good : d.good ≡ true = M.carrier p s a b k h w n in
      record {
        good = good;
        earlier = λ l. record { good = good; space = M.earlier p s a b k l w n };
        later = λ l. record { good = good; space = M.later p s a b k l h w n };
        steady = λ e. record { good = good; space = M.steady p s a k h w (subst (λ (c : ℕ). Near noise (across t p a c k) w) (sym e) n) };
        earlier_clear = λ l. record { good = good; weighed = M.earlier_clear p s a b k l w n };
        later_clear = λ l. record { good = good; weighed = M.later_clear p s a b k l h w n };
      }

  -- the samples from the bit a on, which begins at the phase p: the bit, those behind it, and m silent ones
  abbrev pub sent_from : ℕ → ℕ → List ℕ → ℕ → List ℤ
  sent_from p a bits m = wave 32 (step_of t a) p ++ (send_bits t (phase_after_bit t p a) bits ++ silence m)

  -- the next bit's samples come first
  pub sent-next : (p b : ℕ) (bits : List ℕ) (m : ℕ) → send_bits t p (b ∷ bits) ++ silence m ≡ sent_from p b bits m
  sent-next p b bits m =
      ap (λ (xs : List ℤ). xs ++ silence m)
      (send_bits_append t p (b ∷ []) bits
      ∙ ap₂ (λ (xs : List ℤ) (q : ℕ). xs ++ send_bits t q bits) (send_bit t p b) (phase_bit t p b))
      ∙ append_assoc (wave 32 (step_of t b) p) (send_bits t (phase_after_bit t p b) bits) (silence m)

  -- The 32 windows from the bit a to the bit b behind it keep an invariant, and from b on what is then due is given.
  module _ (p : ℕ) (begins : M.Begins p) (a b : ℕ) (bits : List ℕ) (m : ℕ) (I : ℕ → Invariant)
      (step : (k : ℕ) → k < 32 → (d : Decision) → ReadAcross a b k d → Keeps (I k) d (I (suc k)))
      (rest : GivesFrom noise decide (I 32) (sent_from (phase_after_bit t p a) b bits m)) where
    abbrev first : List ℤ
    first = wave 32 (step_of t a) p

    abbrev second : List ℤ
    second = wave 32 (step_of t b) (phase_after_bit t p a)

    abbrev more : List ℤ
    more = send_bits t (phase_after_bit t (phase_after_bit t p a) b) bits ++ silence m

    two_bits : (k : ℕ) → k < 32 → take 32 (drop k (first ++ (second ++ more))) ≡ across t p a b k
    unfolding across
    two_bits k h =
        window first second more k (length-wave 32 (step_of t a) p) (omega arith) (omega (arith, length-wave 32 (step_of t b) (phase_after_bit t p a)))

    pub through_bit : GivesFrom noise decide (I 0) (sent_from p a (b ∷ bits) m)
    through_bit =
        subst (GivesFrom noise decide (I 0)) (ap (λ (xs : List ℤ). first ++ xs) (sym (sent-next (phase_after_bit t p a) b bits m)))
        (along noise decide (first ++ (second ++ more)) 32
        (omega (arith, length-append first (second ++ more), length-append second more, length-wave 32 (step_of t a) p, length-wave 32 (step_of t b) (phase_after_bit t p a)))
        I (λ k h w n. step k h (decide w) (read-across p begins a b k h w (subst (λ (c : List ℤ). Near noise c w) (two_bits k h) n)))
        (subst (GivesFrom noise decide (I 32)) (sym (drop_at first (second ++ more) 32 (length-wave 32 (step_of t a) p))) rest))
