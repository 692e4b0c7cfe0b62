use Rattle.std.proofs.Common.{◌≡◌, drop}
use Rattle.vlog_const.specs.Literals.{unknown_bits}
use Rattle.vlog_const.proofs.literal.unknown_bits.Given as goal

abbrev pub invariant-loop-i : goal.invariant-loop-i
invariant-loop-i l = l.bits.items ≡ unknown_bits l.width (drop l.i l.digits)
