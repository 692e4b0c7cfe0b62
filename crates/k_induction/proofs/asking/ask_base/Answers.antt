use Rattle.std.proofs.Common.{◌∙◌}
use Rattle.clause_solver.specs.Solver.{IsAbout}
use Rattle.unroll_cnf.specs.Queries.{base_clauses}
use Rattle.k_induction.proofs.VerdictLemmas.{refuted_by}
use Rattle.k_induction.proofs.asking.ask_base.Goals as goal

pub returns-in-Unsat : goal.returns-in-Unsat
returns-in-Unsat c =
    let about : IsAbout c.in-Unsat.refutation.formula.vars c.in-Unsat.refutation.formula.clauses c.in_ok-query.query = rw c.in-Unsat.is at c.in_ok-refutation.ensures.answer in
    refuted_by c.in-Unsat.refutation.formula.clauses (base_clauses c.args.circuit.now c.args.k) _ (about.same_clauses ∙ c.in_ok-query.ensures.query) c.chains.ensures.refuting
