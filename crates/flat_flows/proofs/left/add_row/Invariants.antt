use Rattle.std.proofs.Common.{◌≡◌, ℕ, ◌&&◌, ◌||◌}
use Rattle.std.specs.Prelude.{nat_le, nat_lt}
use Rattle.flat_flows.specs.Tables.{in_table}
use Rattle.flat_flows.proofs.left.add_row.Given as goal

-- the table with the rest of the row is that with the whole
abbrev pub invariant-loop-i : goal.invariant-loop-i
invariant-loop-i l = (i : ℕ) → (in_table l.into i || (nat_le l.i i && nat_lt i l.fn.range.end)) ≡ (in_table l.fn.into i || (nat_le l.fn.range.first i && nat_lt i l.fn.range.end))
