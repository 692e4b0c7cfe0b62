use Rattle.std.proofs.Common.{◌≡◌, drop}
use Rattle.vlog_const.specs.Literals.{digit_bits}
use Rattle.vlog_const.proofs.literal.digit_bits.Given as goal

abbrev pub invariant-loop-i : goal.invariant-loop-i
invariant-loop-i l = l.bits.items ≡ digit_bits l.width (drop l.i l.digits)
