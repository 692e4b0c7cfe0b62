use Rattle.std.proofs.Common.{arith, sym, ◌∙◌, true≢false}
use Rattle.lemma_checker.proofs.Semantics.{solves_from_all, all_from_solves}
use Rattle.lemma_checker.proofs.checker.model_of.Goals as goal
use Rattle.lemma_checker.proofs.checker.model_of.Goals.{else-fits-via-then-fits+else-all_true, else-fits-via-else-fits}

pub invariant_of-result : goal.invariant_of-result
invariant_of-result c = record {
  each = omega arith;
  met = solves_from_all _ _ ((rw c.as_slice.ensures.value at (sym c.all_true.ensures)) ∙ c.if-all_true.true);
}

pub returns-else-fits-clause-exactly : goal.returns-else-fits-clause-exactly
returns-else-fits-clause-exactly c = (
  λ e. absurd (true≢false (sym e)),
  λ both. elim c.else-fits.branch [
    | else-fits-via-then-fits+else-all_true w ↦
        absurd (true≢false (sym (all_from_solves _ _ both.1) ∙ ((rw w.as_slice.ensures.value at (sym w.all_true.ensures)) ∙ w.if-all_true.false)))
    | else-fits-via-else-fits w ↦ absurd (w.if-fits.false (c.len.ensures ∙ both.0))
  ],
)
