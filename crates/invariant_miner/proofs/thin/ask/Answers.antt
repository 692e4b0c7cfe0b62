use Rattle.std.proofs.Common.{◌∙◌}
use Rattle.clause_solver.specs.Solver.{IsAbout}
use Rattle.invariant_miner.proofs.ThinLemmas.{closed_by_chains}
use Rattle.invariant_miner.proofs.thin.ask.Goals as goal

pub returns-in-Unsat : goal.returns-in-Unsat
returns-in-Unsat c =
    let about : IsAbout c.in-Unsat.refutation.formula.vars c.in-Unsat.refutation.formula.clauses c.in_ok-query.query = rw c.in-Unsat.is at c.in_ok-refutation.ensures.answer in
    closed_by_chains c.args.circuit.now c.args.set.now c.in-Unsat.refutation.formula.clauses _ c.requires.askable.of (about.same_clauses ∙ c.in_ok-query.ensures.query) c.chains.ensures.refuting
