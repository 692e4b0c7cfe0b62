use Rattle.std.proofs.Common.{not}
use Rattle.std.specs.List.{count_by}
use Rattle.watch_lists.specs.Watches.{Holds, Fits}
use Rattle.clause_solver.specs.Solver.{all_of, IsState}
use Rattle.clause_solver.proofs.search.descend.Given as goal

abbrev pub invariant-descent : goal.invariant-descent
invariant-descent l = record {
  state : IsState l.lemmas l.trail;
  holds : Holds l.watches l.lemmas.formula.vars (all_of l.lemmas);
  fits : Fits l.watches l.trail;
}

abbrev pub decreases-descent : goal.decreases-descent
decreases-descent l = count_by not l.trail.values.items
