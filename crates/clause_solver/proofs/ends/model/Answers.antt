use Rattle.std.proofs.Common.{arith, true≢false, sym}
use Rattle.lemma_checker.specs.Clauses.{at}
use Rattle.clause_solver.proofs.SolverLemmas.{solved}
use Rattle.clause_solver.proofs.ends.model.Goals as goal

pub unreachable-requires : goal.unreachable-requires
unreachable-requires c = true≢false (sym (c.in-Err.ensures.exactly.1 (
  c.in_ok-taken.ensures.len,
  rw c.into_formula-formula.ensures.clauses (solved c.args.lemmas.formula.vars c.args.lemmas.formula.clauses c.args.lemmas.added (at c.args.values.now) c.in_ok-taken.taken.items c.args.lemmas.formula.over c.requires.model.settled c.requires.model.assigned (λ v a b. c.in_ok-taken.ensures.each v a (omega (arith, b, c.into_formula-formula.ensures.vars)))),
)))
