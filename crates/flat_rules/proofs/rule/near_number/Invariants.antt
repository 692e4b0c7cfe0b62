use Rattle.std.proofs.Common.{◌≡◌, ◌≤◌, min, drop}
use Rattle.bit_base.specs.Numbers.{number_of}
use Rattle.flat_rules.specs.Rules.{far}
use Rattle.flat_rules.proofs.rule.near_number.Given as goal

abbrev pub invariant-loop-i : goal.invariant-loop-i
invariant-loop-i l = l.number ≡ min (number_of (drop l.i l.bits)) far
