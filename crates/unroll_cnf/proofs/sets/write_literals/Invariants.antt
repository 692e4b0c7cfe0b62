use Rattle.std.proofs.Common.{◌≡◌, map, take}
use Rattle.unroll_cnf.specs.Queries.{latch_literal}
use Rattle.unroll_cnf.proofs.sets.write_literals.Given as goal

abbrev pub invariant-loop-literal : goal.invariant-loop-literal
invariant-loop-literal l = l.into.items ≡ map (latch_literal l.circuit l.first) (take l.literal-index l.clause)
