use Rattle.std.proofs.Common.{◌≤◌, ◌++◌, length}
use Rattle.lemma_checker.specs.Clauses.{at}
use Rattle.clause_solver.specs.Walks.{IsClearing}
use Rattle.clause_solver.proofs.analysis.clear_bottom.Given as goal

abbrev pub invariant-loop-p : goal.invariant-loop-p
invariant-loop-p l = record {
  within : l.p ≤ l.bottom;
  clearing : IsClearing (length l.trail.values.items) (l.formula ++ l.added) l.trail.literals.items l.bottom l.p (at l.fn.seen) l.seen l.touched.items l.chain.ids.items l.chain.pivots.items;
}

abbrev pub decreases-loop-p : goal.decreases-loop-p
decreases-loop-p l = l.p
