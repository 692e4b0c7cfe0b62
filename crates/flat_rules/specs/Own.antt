-- The size and the sign of an expression, as the code has them.
use Rattle.flat_rules.specs.Rules.{Ruled}
use Rattle.flat_rules.specs.declared.rule.Own.{Own}

abbrev pub own : Ruled → Own
own p = record { size = p.size; signed = p.signed }
