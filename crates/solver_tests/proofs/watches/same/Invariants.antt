use Rattle.std.proofs.Common.{◌≡◌, ◌+◌, ◌*◌, length}
use Rattle.watch_lists.specs.Scans.{IsTrailOf}
use Rattle.watch_lists.specs.Watches.{Holds, Fits}
use Rattle.solver_tests.proofs.watches.same.Given as goal

abbrev pub invariant-loop-choice : goal.invariant-loop-choice
invariant-loop-choice l = record {
  of : IsTrailOf l.formula.clauses l.plain;
  size : length l.plain.values.items ≡ 2 * l.formula.vars + 2;
  holds : Holds l.watches l.formula.vars l.formula.clauses;
  fits : Fits l.watches l.watched;
}
