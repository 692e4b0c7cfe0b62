use Rattle.std.proofs.Common.{◌≡◌, min, ◌≤◌, drop}
use Rattle.vlog_const.specs.Literals.{decimal_from, decimal}
use Rattle.vlog_const.proofs.literal.decimal_at_most.Given as goal

abbrev pub invariant-loop-b : goal.invariant-loop-b
invariant-loop-b l = (min (decimal_from l.number (drop l.b-index l.digits)) 4096 ≡ min (decimal l.digits) 4096) × (l.number ≤ 4096)
