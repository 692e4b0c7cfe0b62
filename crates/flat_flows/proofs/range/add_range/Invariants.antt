use Rattle.std.proofs.Common.{Bool, List, ◌&&◌}
use Rattle.std.specs.Prelude.{nat_le, nat_lt}
use Rattle.flat_flows.specs.Tables.{Grows}
use Rattle.flat_flows.proofs.range.add_range.Given as goal

-- what the rest of the row adds, the whole adds
abbrev pub invariant-loop-i : goal.invariant-loop-i
invariant-loop-i l = (final : List Bool) → Grows l.into (λ i. nat_le l.i i && nat_lt i l.fn.range.end) l.shut final → Grows l.fn.into (λ i. nat_le l.fn.range.first i && nat_lt i l.fn.range.end) l.shut final
