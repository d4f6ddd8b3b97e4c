-- A whole recording, phase by phase: silence, leader, characters, trailer, silence. In every disturbed form of it the receiver gives
-- the characters, and so does every receiver whose decisions have the margins. Each lemma goes from the phase that it names to the end.
-- Assumes nothing.
use mathlib.Core.Path.{◌≡◌, refl, sym, ap, ◌∙◌, subst}
use mathlib.Core.Bool.{false}
use mathlib.Core.List.{List, [], ◌∷◌, ◌++◌, append_assoc}
use Prim.Native.Nat.{ℕ, zero, suc, ◌+◌, ◌*◌, ◌≤◌, ◌<◌}
use native.Mathlib.Omega.{arith}
use lib.IntN.{ℤ, pos}
use lib.ListN.{length, take, drop, replicate, length-append, length-drop, length-replicate}
use lib.Seq.{drop-cons, drop_at}
use Rattle.integers.specs.All.{none, more}
use Rattle.integers.specs.Near.{Near}
use Rattle.integers.proofs.Near.{near_length}
use Rattle.calls.specs.Runs.{gives}
use Rattle.sine.specs.Wave.{wave}
use Rattle.sine.proofs.Wave.{length-wave}
use Rattle.tones.specs.declared.Tones.{Tones}
use Rattle.transmitter.specs.Samples.{send, bit_steps, send_bits, idle_bits, data_bits, char_bits, characters_bits, message_bits}
use Rattle.transmitter.proofs.Laws.{bit_at, length_char}
use Rattle.control.specs.declared.Decision.{Decision}
use Rattle.control.specs.declared.Stage.TheVariants.{Searching}
use Rattle.control.specs.declared.Control.{Control}
use Rattle.control.specs.Rules.{reports}
use Rattle.receiver.proofs.Windows.{decisions-none}
use Rattle.margin.specs.Windows.{phase_after_bit, mark_then_silence, Margins}
use Rattle.promise.specs.Recordings.{AreBytes, silence}
use Rattle.promise.proofs.Steps.{at, Invariant, Keeps}
use Rattle.promise.proofs.Along.{Gives, GivesFrom, along}
use Rattle.promise.proofs.Windows.{silences, mark_then_silence-window, silent-behind, silent-window, sent_from, sent-next, through_bit}
use Rattle.promise.proofs.Phases.{Silent, silent, silent-step, FirstBit, short_run, first_bit_step, SecondBit, growing_run, second_bit_step}
use Rattle.promise.proofs.Phases.{AfterTrailer, still_searching, after-trailer-step, after-trailer_due}
use Rattle.promise.proofs.Characters.{BetweenCharacters, none_due, stop_due, stays_between, bit_before, Underway, before, underway_step, leave}

module _ {noise : ℕ} (t : Tones) {decide : List ℤ → Decision} (M : Margins noise t decide) (m : ℕ) where
  abbrev ReadAs : List ℤ → Control → List ℕ → Type 0
  ReadAs = Gives noise decide

  abbrev pub ReadFrom : Invariant → List ℤ → Type 0
  ReadFrom = GivesFrom noise decide

  -- the sending from the bit a on, which begins at the phase p
  abbrev pub sending : ℕ → ℕ → List ℕ → List ℤ
  sending p a bits = sent_from t M p a bits m

  -- ---- from the trailer's last bit on
  module _ (p : ℕ) (begins : M.Begins p) where
    abbrev last : List ℤ
    last = wave 32 t.mark p

    long : length (last ++ silence m) ≡ 32 + m
    long = length-append last (silence m) ∙ omega (arith, length-wave 32 t.mark p, length-replicate m (pos 0))

    -- space is not above mark at first, and behind the trailer there is no good level
    at_first : (k : ℕ) → k < m + 1 → k ≤ 15 → (w : List ℤ) → Near noise (take 32 (drop k (last ++ silence m))) w → (decide w).space ≡ false
    unfolding mark_then_silence
    at_first k h l w n =
        M.mark_then_silence p begins k l w
        (subst (λ (c : List ℤ). Near noise c w) (mark_then_silence-window last (length-wave 32 t.mark p) m k (omega arith) (omega arith)) n)

    afterwards : (k : ℕ) → k < m + 1 → 32 ≤ k → (w : List ℤ) → Near noise (take 32 (drop k (last ++ silence m))) w → (decide w).good ≡ false
    afterwards k h l w n =
        M.silent w (subst (λ (c : List ℤ). Near noise c w) (silent-behind last (length-wave 32 t.mark p) m k (omega arith) l) n)

    -- fewer than 32 samples are left, and nothing is due
    nothing : ReadFrom (AfterTrailer (m + 1)) (drop (m + 1) (last ++ silence m))
    unfolding gives
    nothing s X f zs n =
        ap (reports s) (decisions-none decide zs (omega (arith, near_length n, length-drop (m + 1) (last ++ silence m), long)))
        ∙ after-trailer_due f

    from_last : ReadAs (sending p 1 []) (at 32 Searching) []
    unfolding send bit_steps
    from_last =
        along noise decide (last ++ silence m) (m + 1) (omega (arith, long)) AfterTrailer
        (λ k h w n. after-trailer-step k (decide w) (λ l. at_first k h l w n) (λ l. afterwards k h l w n)) nothing (at 32 Searching) [] (still_searching 32)

  -- ---- a mark behind a mark: what was stop-due is given
  pub through_mark : (p : ℕ) → M.Begins p → (bits Y : List ℕ) → ReadAs (sending (phase_after_bit t p 1) 1 bits) (at 32 Searching) Y
      → ReadFrom (BetweenCharacters Y 0) (sending p 1 (1 ∷ bits))
  through_mark p begins bits Y rest =
      through_bit t M p begins 1 1 bits m (BetweenCharacters Y) (λ k h d r. stays_between Y k d (r.steady refl) r.earlier_clear) mark_over
    where
      mark_over : ReadFrom (BetweenCharacters Y 32) (sending (phase_after_bit t p 1) 1 bits)
      mark_over s X none_due = rest
      mark_over s X (stop_due byte wait a b) = absurd (omega arith)

  -- ---- from the trailer on
  from_marks : (n p : ℕ) → M.Begins p → ReadFrom (BetweenCharacters [] 0) (sending p 1 (1 ∷ replicate n 1))
  from_marks zero p begins = through_mark p begins [] [] (from_last (phase_after_bit t p 1) (M.next_bit p begins 1))
  from_marks (suc n) p begins =
      through_mark p begins (1 ∷ replicate n 1) [] (from_marks n (phase_after_bit t p 1) (M.next_bit p begins 1) (at 32 Searching) [] none_due)

  pub from-trailer : (p : ℕ) → M.Begins p → ReadFrom (BetweenCharacters [] 0) (sending p 1 idle_bits)
  from-trailer = from_marks 2

  -- ---- a character
  module _ (c : ℕ) (small : c < 256) (Y bits : List ℕ)
      (rest : (p : ℕ) → M.Begins p → ReadFrom (BetweenCharacters Y 0) (sending p 1 bits)) where
    -- from bit j on, with n bits to come
    from_bit : (n j : ℕ) → j + n ≡ 10 → (p : ℕ) → M.Begins p → ReadFrom (Underway c Y (32 * j)) (sending p (bit_before c j) (drop j (char_bits c) ++ bits))
    unfolding char_bits data_bits
    from_bit zero j e p begins s X w =
        let ten : j ≡ 10 = omega arith in
        subst (λ (i : ℕ). ReadAs (sending p (bit_before c i) (drop i (char_bits c) ++ bits)) s X) (sym ten)
        (rest p begins s X (leave small (rw ten at w)))
    from_bit (suc n) j e p begins s X w =
        let a : ℕ = bit_before c j in
        let next : drop j (char_bits c) ≡ bit_at c j ∷ drop (suc j) (char_bits c) = drop-cons (char_bits c) j 1 (omega (arith, length_char c)) in
        let first : 32 * j ≡ 32 * j + 0 = omega arith in
        let later : 32 * j + 32 ≡ 32 * suc j = omega arith in
        subst (λ (bs : List ℕ). ReadAs (sending p a (bs ++ bits)) s X) (sym next)
        (through_bit t M p begins a (bit_at c j) (drop (suc j) (char_bits c) ++ bits) m (λ k. Underway c Y (32 * j + k))
        (λ k h. underway_step c small Y j k (omega arith) h)
        (λ s X w. from_bit n (suc j) (omega arith) (phase_after_bit t p a) (M.next_bit p begins a) s X (rw later at w))
        s X (rw first at w))

    pub through_character : (p : ℕ) → M.Begins p → ReadFrom (BetweenCharacters (c ∷ Y) 0) (sending p 1 (char_bits c ++ bits))
    through_character p begins s X r = from_bit 10 0 refl p begins s X (before (omega arith) r)

  -- ---- from the characters on
  from-message : (cs : List ℕ) → AreBytes cs → (p : ℕ) → M.Begins p → ReadFrom (BetweenCharacters cs 0) (sending p 1 (characters_bits cs ++ idle_bits))
  unfolding characters_bits
  from-message [] none p begins = from-trailer p begins
  from-message (c ∷ cs) (more small b) p begins =
      subst (λ (bits : List ℕ). ReadFrom (BetweenCharacters (c ∷ cs) 0) (sending p 1 bits)) (sym (append_assoc (char_bits c) (characters_bits cs) idle_bits))
      (through_character c small cs (characters_bits cs ++ idle_bits) (from-message cs b) p begins)

  -- ---- from the leader on, with any bits behind it that are read as cs
  module _ (cs message : List ℕ) (from_bits : (p : ℕ) → M.Begins p → ReadFrom (BetweenCharacters cs 0) (sending p 1 message)) where
    from-leader : ReadFrom (SecondBit cs 0) (sending 0 1 (1 ∷ 1 ∷ message))
    from-leader = through_bit t M 0 M.first_bit 1 1 (1 ∷ message) m (SecondBit cs) (λ k h d r. second_bit_step cs k h d (r.steady refl)) second_bit_over
      where
        p : ℕ
        p = phase_after_bit t 0 1

        begins : M.Begins p
        begins = M.next_bit 0 M.first_bit 1

        second_bit_over : ReadFrom (SecondBit cs 32) (sending p 1 (1 ∷ message))
        second_bit_over s X (growing_run run a b) =
            let full : run ≡ 32 = omega arith in
            rw full
            (through_mark p begins message cs (from_bits (phase_after_bit t p 1) (M.next_bit p begins 1) (at 32 Searching) cs none_due) (at 32 Searching) cs none_due)

    -- ---- from silence on
    abbrev sent : List ℤ
    sent = sending 0 1 (1 ∷ 1 ∷ message)

    long-sent : 32 ≤ length sent
    long-sent = omega (arith, length-append (wave 32 t.mark 0) (send_bits t (phase_after_bit t 0 1) (1 ∷ 1 ∷ message) ++ silence m), length-wave 32 t.mark 0)

    from-first_bit : ReadAs (silence 31 ++ sent) (at 0 Searching) cs
    from-first_bit =
        along noise decide (silence 31 ++ sent) 31 (omega (arith, long-sent)) (FirstBit cs)
        (λ k h w n. first_bit_step cs k h (decide w)) first_bit_over (at 0 Searching) cs (short_run 0 (omega arith))
      where
        first_bit_over : ReadFrom (FirstBit cs 31) (drop 31 (silence 31 ++ sent))
        first_bit_over s X (short_run run l) = from-leader (at run Searching) cs (growing_run run (omega arith) (omega arith))

    -- the whole recording, behind the 31 silent samples that a fresh window brings
    pub recorded_bits : (n : ℕ) → ReadAs (silence 31 ++ (silence n ++ (send_bits t 0 (idle_bits ++ message) ++ silence m))) (at 0 Searching) cs
    recorded_bits n =
        subst (λ (clean : List ℤ). ReadAs clean (at 0 Searching) cs) (sym order)
        (along noise decide (silence n ++ (silence 31 ++ sent)) n long (Silent cs) quiet-window rest (at 0 Searching) cs silent)
      where
        order : silence 31 ++ (silence n ++ (send_bits t 0 (idle_bits ++ message) ++ silence m)) ≡ silence n ++ (silence 31 ++ sent)
        order =
            let e : 31 + n ≡ n + 31 = omega arith in
            ap (λ (xs : List ℤ). silence 31 ++ (silence n ++ xs)) (sent-next t M 0 1 (1 ∷ 1 ∷ message) m)
            ∙ silences 31 n sent ∙ ap (λ (i : ℕ). silence i ++ sent) e ∙ sym (silences n 31 sent)

        long : n + 31 ≤ length (silence n ++ (silence 31 ++ sent))
        long = omega (arith, length-append (silence n) (silence 31 ++ sent), length-replicate n (pos 0))

        quiet-window : (k : ℕ) → k < n → (w : List ℤ) → Near noise (take 32 (drop k (silence n ++ (silence 31 ++ sent)))) w
            → Keeps (Silent cs k) (decide w) (Silent cs (suc k))
        quiet-window k h w near =
            silent-step cs k (decide w)
            (M.silent w
            (subst (λ (c : List ℤ). Near noise c w) (ap (λ (xs : List ℤ). take 32 (drop k xs)) (silences n 31 sent) ∙ silent-window (n + 31) k sent (omega arith)) near))

        rest : ReadFrom (Silent cs n) (drop n (silence n ++ (silence 31 ++ sent)))
        rest s X silent =
            subst (λ (clean : List ℤ). ReadAs clean (at 0 Searching) cs) (sym (drop_at (silence n) (silence 31 ++ sent) n (length-replicate n (pos 0)))) from-first_bit

  pub recorded : (cs : List ℕ) → AreBytes cs → (n : ℕ)
      → ReadAs (silence 31 ++ (silence n ++ (send_bits t 0 (message_bits cs) ++ silence m))) (at 0 Searching) cs
  recorded cs bytes = recorded_bits cs (characters_bits cs ++ idle_bits) (from-message cs bytes)
