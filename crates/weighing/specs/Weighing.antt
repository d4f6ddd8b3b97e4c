-- What the energies of space and mark in a window decide: the specification, "Reader, step by step", rule 3 and the comparison of rules 4
-- to 6, "Doubtful bits" and "Quality beside each character".
-- Assumes nothing.
use Rattle.std.specs.Prelude.{Bool, cond, ℕ, ◌*◌, ◌<◌, ◌≤◌, max, min, ℤ, pos, ◌-ℤ◌, ◌*ℤ◌}
use Rattle.std.specs.Int.Signed.{lt_z, le_z}
use Rattle.control.specs.declared.Bit.{Bit}
use Rattle.control.specs.declared.Bit.TheVariants.{Mark, Space, Doubtful}
use Rattle.control.specs.declared.Decision.{Decision}

-- the least energy of a good level
abbrev pub level : ℕ
level = 32400000000000000

abbrev pub larger : ℤ → ℤ → ℤ
larger a b = cond (lt_z a b) b a

abbrev pub smaller : ℤ → ℤ → ℤ
smaller a b = cond (lt_z a b) a b

-- doubtful when four times the larger energy is less than five times the smaller
unfoldable pub is_doubtful : ℤ → ℤ → Bool
is_doubtful space mark = lt_z (pos 4 *ℤ larger space mark) (pos 5 *ℤ smaller space mark)

-- the bit: doubtful, or else space if its energy is above that of mark, and mark if not
unfoldable pub weighed : ℤ → ℤ → Bit
weighed space mark = cond (is_doubtful space mark) Doubtful (cond (lt_z mark space) Space Mark)

-- the difference of the two energies, larger minus smaller; 0 if a number is below 0, which no energy is
unfoldable pub apart : ℤ → ℤ → ℤ
apart space mark = cond (lt_z (smaller space mark) (pos 0)) (pos 0) (larger space mark -ℤ smaller space mark)

-- the level is good if the larger energy is at least `level`; space is above mark; the bit; the difference
abbrev pub decided : ℤ → ℤ → Decision
decided space mark =
    record {
      good = le_z (pos level) (larger space mark);
      space = lt_z mark space;
      bit = weighed space mark;
      difference = apart space mark;
    }

-- what each bit says of two energies, which are natural numbers (proofs/Laws: `weighed_means`)
abbrev pub Means : Bit → (space mark : ℕ) → Type 0
Means Doubtful space mark = 4 * max space mark < 5 * min space mark
Means Space space mark = (mark < space) × (5 * mark ≤ 4 * space)
Means Mark space mark = (space ≤ mark) × (5 * space ≤ 4 * mark)
