-- S has the rule of the specification, and it is the only function that has it.
-- Assumes nothing.
use mathlib.Core.Path.{◌≡◌, ◌∙◌, sym, ap}
use Prim.Native.Nat.{ℕ, zero, suc, ◌+◌, ◌*◌, ◌-◌, ◌/◌, ◌%◌, ◌<◌, ◌≤◌}
use native.Mathlib.Nat.{mod-add-div'}
use native.Mathlib.Omega.{arith}
use lib.IntN.{ℤ, neg_ℤ}
use Rattle.integers.proofs.Tests.{lt_or_le}
use Rattle.sine.specs.Sine.{S, IsSine, SineRule}
use Rattle.sine.proofs.Quarter.{rule, unique}
use Rattle.sine.proofs.Laws.{S-nearest, S-mirror, S-opposite, S-period, S_mod}

pub S_rule : SineRule S
S_rule =
    record {
      quarter = λ p h. rw (S-nearest p h) (rule p h);
      mirror = S-mirror;
      opposite = S-opposite;
      period = S-period;
    }

-- for p from 0 to 480 the rule admits S p and nothing else
pub S_unique : (p : ℕ) (e : ℤ) → p ≤ 480 → IsSine p e → e ≡ S p
S_unique p e h r = unique p e h r ∙ sym (S-nearest p h)

module _ (f : ℕ → ℤ) (r : SineRule f) where
  first : (p : ℕ) → p ≤ 480 → f p ≡ S p
  first p h = S_unique p (f p) h (r.quarter p h)

  half : (p : ℕ) → p < 960 → f p ≡ S p
  half p h =
      lt_or_le 480 p
      (λ l.
      let e : (p + (960 - p)) % 1920 ≡ 960 = omega arith in
      r.mirror p (960 - p) e ∙ first (960 - p) (omega arith) ∙ sym (S-mirror p (960 - p) e))
      (first p)

  cycle : (p : ℕ) → p < 1920 → f p ≡ S p
  cycle p h =
      lt_or_le p 960 (half p)
      (λ l.
      let e : p - 960 + 960 ≡ p = omega arith in
      ap f (sym e) ∙ r.opposite (p - 960) ∙ ap neg_ℤ (half (p - 960) (omega arith)) ∙ sym (S-opposite (p - 960)) ∙ ap S e)

  cycles : (p k : ℕ) → f (p + k * 1920) ≡ f p
  cycles p zero = let e : p + 0 * 1920 ≡ p = omega arith in ap f e
  cycles p (suc k) =
      let e : p + suc k * 1920 ≡ p + k * 1920 + 1920 = omega arith in
      ap f e ∙ r.period (p + k * 1920) ∙ cycles p k

  pub S-only : (p : ℕ) → f p ≡ S p
  S-only p =
      let e : p % 1920 + p / 1920 * 1920 ≡ p = mod-add-div' p 1920 in
      ap f (sym e) ∙ cycles (p % 1920) (p / 1920) ∙ cycle (p % 1920) (omega arith) ∙ S_mod p
