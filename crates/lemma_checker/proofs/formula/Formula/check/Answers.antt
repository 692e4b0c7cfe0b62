use Rattle.std.proofs.Common.{arith, sym, ◌∙◌, true≢false}
use Rattle.lemma_checker.proofs.RangeLemmas.{all_over, over_all}
use Rattle.lemma_checker.proofs.formula.Formula.check.Goals as goal
use Rattle.lemma_checker.proofs.formula.Formula.check.Goals.{else-vars-lt2147483648-via-then-vars-lt2147483648+else-are_over, else-vars-lt2147483648-via-else-vars-lt2147483648}

pub invariant_of-result : goal.invariant_of-result
invariant_of-result c = record {
  small = c.if-vars-lt2147483648.true;
  over = all_over _ _ (sym c.are_over.ensures ∙ c.if-are_over.true);
}

pub returns-else-vars-lt2147483648-clause-exactly : goal.returns-else-vars-lt2147483648-clause-exactly
returns-else-vars-lt2147483648-clause-exactly c = (
  λ e. absurd (true≢false (sym e)),
  λ both. elim c.else-vars-lt2147483648.branch [
    | else-vars-lt2147483648-via-then-vars-lt2147483648+else-are_over w ↦
        absurd (true≢false (sym (over_all _ _ both.1) ∙ (sym w.are_over.ensures ∙ w.if-are_over.false)))
    | else-vars-lt2147483648-via-else-vars-lt2147483648 w ↦ absurd (omega (arith, both.0))
  ],
)
