use Rattle.std.proofs.Common.{sym, ◌∙◌}
use Rattle.lemma_checker.specs.Clauses.{assigned, clause_true}
use Rattle.lemma_checker.proofs.ListLemmas.{all_read_more, all_read_false}
use Rattle.lemma_checker.proofs.checker.all_true.Goals as goal

pub returns-then-not-any_true : goal.returns-then-not-any_true
returns-then-not-any_true c = sym (all_read_false (clause_true (assigned c.args.values.now)) c.args.clauses.now c.loop-i.i _ c.clause.ensures.value (sym c.any_true.ensures ∙ c.if-not-any_true.true))

pub loop-i-preserved : goal.loop-i-preserved
loop-i-preserved c = all_read_more (clause_true (assigned c.args.values.now)) c.args.clauses.now c.loop-i.i _ c.clause.ensures.value c.loop-i.invariant (sym c.any_true.ensures ∙ c.if-not-any_true.false)
