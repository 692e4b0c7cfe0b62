use Rattle.std.proofs.Common.{sym, ◌∙◌}
use Rattle.lemma_checker.proofs.CollectLemmas.{collect_take, collect_skip}
use Rattle.lemma_checker.proofs.resolver.collect.Goals as goal
use Rattle.lemma_checker.proofs.resolver.collect.Goals.{then-is_marked+in_ok-push, else-is_marked}

pub loop-literal-preserved : goal.loop-literal-preserved
loop-literal-preserved c = elim c.if-is_marked.branch [
  | then-is_marked+in_ok-push w ↦
      rw (w.marks-is, w.clause-is, w.in_ok-push.ensures.items) (collect_take _ _ (record { 0 = 0 }) _ _ _ _ c.loop-literal-test.true (sym c.is_marked.ensures ∙ w.if-is_marked.true) w.unmark.ensures.cleared w.unmark.ensures.others c.loop-literal.invariant)
  | else-is_marked w ↦
      rw (w.marks-is, w.clause-is) (collect_skip _ _ (record { 0 = 0 }) _ _ _ c.loop-literal-test.true (sym c.is_marked.ensures ∙ w.if-is_marked.false) c.loop-literal.invariant)
]
