use Rattle.std.proofs.Common.{◌≡◌}
use Rattle.field_policies.specs.Bits.{bit, odd_below}
use Rattle.reg_machine.proofs.bits.is_odd.Given as goal

abbrev pub invariant-loop-i : goal.invariant-loop-i
invariant-loop-i l = l.odd ≡ odd_below l.i (bit l.value)
