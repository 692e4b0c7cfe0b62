use Rattle.std.proofs.Common.{◌≤◌, ◌++◌, length}
use Rattle.clause_solver.specs.Walks.{IsWalk}
use Rattle.clause_solver.proofs.analysis.analyze.Given as goal

abbrev pub invariant-loop-i : goal.invariant-loop-i
invariant-loop-i l = record {
  within : l.i ≤ length l.trail.literals.items;
  walk : IsWalk (length l.trail.values.items) (l.formula ++ l.added) l.trail.literals.items l.i l.seen l.touched.items l.chain.ids.items l.chain.pivots.items;
}

abbrev pub decreases-loop-i : goal.decreases-loop-i
decreases-loop-i l = l.i
