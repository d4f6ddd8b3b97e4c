-- `message::send` meets its contract: nothing is refused on the way, and the three parts make the message.
-- Assumes nothing.
use mathlib.Core.Path.{◌≡◌, sym, ap, ◌∙◌}
use mathlib.Core.List.{List}
use Prim.Native.Nat.{ℕ, ◌+◌, ◌*◌, ◌-◌}
use native.Mathlib.Omega.{arith}
use borrow.Rule.Slice.PartMut.{put_mid}
use lib.IntN.{ℤ}
use lib.ListN.{length}
use lib.Seq.{sets, length-sets}
use Rattle.calls.specs.declared.Answer.{Answer}
use Rattle.calls.specs.Refusals.{first_of}
use Rattle.calls.specs.Outcome.{Opening, outcome}
use Rattle.transmitter.specs.declared.Transmitter.{Transmitter}
use Rattle.transmitter.specs.Samples.{idle_bits, characters_bits}
use Rattle.transmitter.specs.Calls.{open_of, fresh, samples_of, idle_of, characters_of}
use Rattle.transmitter.proofs.Rules.{open_band, fresh_kept, idle_0, characters_0}
use Rattle.message.specs.Message.{message_of, message_tests}
use Rattle.message.proofs.Parts.{part, part_room, Put, put_whole, put_part, characters-count, begun, ended, begun_kept, ended_kept, parts-message}
use Rattle.message.proofs.Calls.{Sendable, sendable, send_accepted}
use Rattle.message.proofs.send.Goals as goal

module _ (band : ℕ) (bytes : List ℕ) (lent : List ℤ) (none : 0 ≡ first_of (message_tests band (length bytes) (length lent))) where
  all : Sendable band (length bytes) (length lent)
  all = sendable band (length bytes) (length lent) (sym none)

  -- the state and the buffer after each call
  module _ {o : Opening Transmitter} (eo : o ≡ open_of band) {a₁ : Answer} {t₁ : Transmitter} {l₁ : List ℤ} (e₁ : outcome a₁ t₁ l₁ ≡ idle_of o.state lent) where
    leader : Put (fresh band) idle_bits lent 0 t₁ l₁
    leader =
        let opened : o.state ≡ fresh band = ap (λ (o : Opening Transmitter). o.state) eo ∙ open_band band all.known in
        put_whole (fresh band) idle_bits lent a₁ t₁ l₁ (omega (arith, all.room))
        (e₁ ∙ ap (λ (s : Transmitter). idle_of s lent) opened ∙ idle_0 (fresh band) lent (fresh_kept band all.known) (omega (arith, all.room)))

    leader-long : length l₁ ≡ length lent
    leader-long = ap length leader.lent ∙ length-sets lent 0 (samples_of (fresh band) idle_bits)

    module _ {a₂ : Answer} {t₂ : Transmitter} {p₂ : List ℤ} (e₂ : outcome a₂ t₂ p₂ ≡ characters_of t₁ bytes (part l₁ 96)) where
      abbrev l₂ : List ℤ
      l₂ = put_mid 96 (length l₁ - 96) l₁ p₂

      text : Put (begun band bytes) (characters_bits bytes) l₁ 96 t₂ l₂
      text =
          put_part (begun band bytes) (characters_bits bytes) l₁ a₂ t₂ p₂ 96 (omega (arith, characters-count bytes, leader-long, all.room))
          (e₂
          ∙ ap (λ (s : Transmitter). characters_of s bytes (part l₁ 96)) leader.state
          ∙ characters_0 (begun band bytes) bytes (part l₁ 96) (begun_kept band bytes all.known) all.few
          (part_room l₁ 96 (320 * length bytes) (omega (arith, leader-long, all.room))))

      text-long : length l₂ ≡ length lent
      text-long = ap length text.lent ∙ length-sets l₁ 96 (samples_of (begun band bytes) (characters_bits bytes)) ∙ leader-long

      module _ {a₃ : Answer} {t₃ : Transmitter} {p₃ : List ℤ} (e₃ : outcome a₃ t₃ p₃ ≡ idle_of t₂ (part l₂ (96 + 320 * length bytes))) where
        trailer : Put (ended band bytes) idle_bits l₂ (96 + 320 * length bytes) t₃ (put_mid (96 + 320 * length bytes) (length l₂ - (96 + 320 * length bytes)) l₂ p₃)
        trailer =
            put_part (ended band bytes) idle_bits l₂ a₃ t₃ p₃ (96 + 320 * length bytes) (omega (arith, text-long, all.room))
            (e₃
            ∙ ap (λ (s : Transmitter). idle_of s (part l₂ (96 + 320 * length bytes))) text.state
            ∙ idle_0 (ended band bytes) (part l₂ (96 + 320 * length bytes)) (ended_kept band bytes all.known)
            (part_room l₂ (96 + 320 * length bytes) 96 (omega (arith, text-long, all.room))))

        whole : put_mid (96 + 320 * length bytes) (length l₂ - (96 + 320 * length bytes)) l₂ p₃ ≡ sets lent 0 (message_of band bytes)
        whole =
            trailer.lent
            ∙ ap (λ (l : List ℤ). sets l (96 + 320 * length bytes) (samples_of (ended band bytes) idle_bits))
            (text.lent ∙ ap (λ (l : List ℤ). sets l 96 (samples_of (begun band bytes) (characters_bits bytes))) leader.lent)
            ∙ parts-message band bytes lent

pub returns : goal.returns
returns c =
    let a = c.args in
    let none = c.in_ok-check.ensures in
    send_accepted a.band a.bytes.now a.out.now none _ _ (omega arith)
    (whole a.band a.bytes.now a.out.now none c.open.ensures c.idle.ensures c.characters.ensures c.idle-2.ensures)
