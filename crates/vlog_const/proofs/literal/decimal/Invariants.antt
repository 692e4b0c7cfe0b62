use Rattle.std.proofs.Common.{◌≡◌, ◌%◌, ◌^◌, ◌<◌, drop}
use Rattle.vlog_const.specs.Literals.{decimal_from, decimal}
use Rattle.vlog_const.proofs.literal.decimal.Given as goal

abbrev pub invariant-loop-b : goal.invariant-loop-b
invariant-loop-b l = (decimal_from l.number (drop l.b-index l.digits) % 2 ^ 128 ≡ decimal l.digits % 2 ^ 128) × (l.number < 2 ^ 128)
