use Rattle.std.proofs.Common.{sym, ◌∙◌}
use Rattle.std.specs.List.{list_all}
use Rattle.lemma_checker.specs.Clauses.{in_range}
use Rattle.lemma_checker.proofs.ListLemmas.{all_read_more, all_read_false}
use Rattle.lemma_checker.proofs.formula.are_over.Goals as goal

pub returns-then-not-is_over : goal.returns-then-not-is_over
returns-then-not-is_over c = sym (all_read_false (λ d. list_all (in_range c.args.vars) d) c.args.clauses.now c.loop-i.i _ c.clause.ensures.value (sym c.is_over.ensures ∙ c.if-not-is_over.true))

pub loop-i-preserved : goal.loop-i-preserved
loop-i-preserved c = all_read_more (λ d. list_all (in_range c.args.vars) d) c.args.clauses.now c.loop-i.i _ c.clause.ensures.value c.loop-i.invariant (sym c.is_over.ensures ∙ c.if-not-is_over.false)
