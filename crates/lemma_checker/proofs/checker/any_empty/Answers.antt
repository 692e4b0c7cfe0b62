use Rattle.std.proofs.Common.{sym, ◌∙◌, ◌==◌, length}
use Rattle.lemma_checker.proofs.ListLemmas.{any_read_more, any_read_true}
use Rattle.lemma_checker.proofs.checker.any_empty.Goals as goal

pub returns-then-is_empty : goal.returns-then-is_empty
returns-then-is_empty c = sym (any_read_true (λ d. length d == 0) c.args.clauses.now c.loop-i.i _ c.clause.ensures.value (sym c.is_empty.ensures ∙ c.if-is_empty.true))

pub loop-i-preserved : goal.loop-i-preserved
loop-i-preserved c = any_read_more (λ d. length d == 0) c.args.clauses.now c.loop-i.i _ c.clause.ensures.value c.loop-i.invariant (sym c.is_empty.ensures ∙ c.if-is_empty.false)
