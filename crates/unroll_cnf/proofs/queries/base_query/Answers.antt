use Rattle.std.proofs.Common.{ℕ, ◌*◌, ◌^◌, ◌<◌, List, length, sym, subst}
use Rattle.lemma_checker.specs.declared.literal.Literal.{Literal}
use Rattle.lemma_checker.specs.Clauses.{AreOver}
use Rattle.unroll_cnf.specs.Queries.{base_clauses}
use Rattle.unroll_cnf.proofs.OverLemmas.{base_over, base_few}
use Rattle.unroll_cnf.proofs.queries.base_query.Goals as goal

pub invariant_of-result-clause-over : goal.invariant_of-result-clause-over
invariant_of-result-clause-over c =
    subst (AreOver (c.args.k * c.size.result)) (sym c.in_ok-clauses.ensures)
    (subst (λ (n : ℕ). AreOver (c.args.k * n) (base_clauses c.args.circuit.now c.args.k)) (sym c.size.ensures.size) (base_over c.args.circuit.now c.args.k c.requires.some))

pub returns-clause-few_clauses : goal.returns-clause-few_clauses
returns-clause-few_clauses c = subst (λ (z : List (List Literal)). length z < 2 ^ 30) (sym c.in_ok-clauses.ensures) (base_few c.args.circuit.now c.args.k c.requires.some c.requires.few)
