use Rattle.std.proofs.Common.{◌≡◌, length}
use Rattle.lemma_checker.specs.Checker.{Lists}
use Rattle.clause_solver.specs.Solver.{IsReady}
use Rattle.clause_solver.proofs.solver.rounds.Given as goal

abbrev pub invariant-loop-turn : goal.invariant-loop-turn
invariant-loop-turn l = record {
  ready : IsReady l.lemmas l.watches l.trail;
  count : length l.lemmas.added ≡ l.turn;
  vars : l.lemmas.formula.vars ≡ l.fn.lemmas.formula.vars;
  clauses : l.lemmas.formula.clauses ≡ l.fn.lemmas.formula.clauses;
  lists : Lists l.seen l.touched.items;
}
