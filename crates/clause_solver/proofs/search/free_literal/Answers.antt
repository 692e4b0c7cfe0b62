use Rattle.std.proofs.Common.{arith, sym, ap, ◌∙◌}
use Rattle.lemma_checker.specs.Clauses.{at}
use Rattle.lemma_checker.proofs.LawProofs.{opposite_negated}
use Rattle.clause_solver.proofs.search.free_literal.Goals as goal

pub returns-then-not-negated-clause-some : goal.returns-then-not-negated-clause-some
returns-then-not-negated-clause-some c = record {
  low = omega arith;
  high = omega arith;
  not_true = sym c.is_marked-negated.ensures ∙ c.if-not-negated.true;
  not_false = ap (at c.args.values.now) (opposite_negated c.loop-variable.variable) ∙ (sym c.is_marked.ensures ∙ c.if-not-is_marked.true);
}
