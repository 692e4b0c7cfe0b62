use Rattle.std.proofs.Common.{ℕ, ◌+◌, ◌^◌, ◌<◌, List, length, sym, subst, arith}
use Rattle.lemma_checker.specs.declared.literal.Literal.{Literal}
use Rattle.lemma_checker.specs.Clauses.{AreOver}
use Rattle.unroll_cnf.specs.Queries.{keep_clauses}
use Rattle.unroll_cnf.proofs.OverLemmas.{keep_over, keep_few, set_few}
use Rattle.unroll_cnf.proofs.queries.keep_query.Goals as goal

pub keep_list-requires-clause-small : goal.keep_list-requires-clause-small
keep_list-requires-clause-small c = omega (arith, set_few c.args.set.now, c.requires.small)

pub overflow_cast-vars : goal.overflow_cast-vars
overflow_cast-vars c = omega (arith, set_few c.args.set.now, c.requires.small)

pub overflow_add-vars : goal.overflow_add-vars
overflow_add-vars c = omega (arith, set_few c.args.set.now, c.requires.small, c.size.ensures.size, c.args.circuit.now.few)

pub invariant_of-result-clause-small : goal.invariant_of-result-clause-small
invariant_of-result-clause-small c = omega (arith, set_few c.args.set.now, c.requires.small, c.size.ensures.size, c.args.circuit.now.few)

pub invariant_of-result-clause-over : goal.invariant_of-result-clause-over
invariant_of-result-clause-over c =
    subst (AreOver (c.size.result + length c.args.set.now)) (sym c.in_ok-clauses.ensures)
    (subst (λ (n : ℕ). AreOver (n + length c.args.set.now) (keep_clauses c.args.circuit.now c.args.set.now)) (sym c.size.ensures.size) (keep_over c.args.circuit.now c.args.set.now c.requires.of))

pub returns-clause-few_clauses : goal.returns-clause-few_clauses
returns-clause-few_clauses c = subst (λ (z : List (List Literal)). length z < 2 ^ 30) (sym c.in_ok-clauses.ensures) (keep_few c.args.circuit.now c.args.set.now c.requires.small)
