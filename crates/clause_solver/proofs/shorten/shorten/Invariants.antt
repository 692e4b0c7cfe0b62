use Rattle.std.proofs.Common.{◌++◌, length}
use Rattle.clause_solver.specs.Analyses.{IsShort}
use Rattle.clause_solver.proofs.shorten.shorten.Given as goal

abbrev pub invariant-loop-place : goal.invariant-loop-place
invariant-loop-place l = IsShort (length l.trail.values.items) (l.formula ++ l.added) l.trail.literals.items l.i l.found.low l.seen l.touched.items l.chain.ids.items l.chain.pivots.items
