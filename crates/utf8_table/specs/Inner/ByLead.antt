-- Words of inner contracts, beside ByLead: `leads_two`, `leads_three`, `leads_four`. No public promise rests on them.
-- Assumes nothing.
use Rattle.std.specs.Prelude.{ℕ, Bool, cond, ◌&&◌, leb, eqb}
use Rattle.base.specs.Tests.{within}
use Rattle.utf8_table.specs.WellFormed.{continues}

unfoldable pub leads_two : ℕ → ℕ → Bool
leads_two a b = leb 0xC2 a && continues b

unfoldable pub leads_three : ℕ → ℕ → ℕ → Bool
leads_three a b c = within (cond (eqb a 0xE0) 0xA0 0x80) (cond (eqb a 0xED) 0x9F 0xBF) b && continues c

unfoldable pub leads_four : ℕ → ℕ → ℕ → ℕ → Bool
leads_four a b c d = leb a 0xF4 && within (cond (eqb a 0xF0) 0x90 0x80) (cond (eqb a 0xF4) 0x8F 0xBF) b && continues c && continues d
