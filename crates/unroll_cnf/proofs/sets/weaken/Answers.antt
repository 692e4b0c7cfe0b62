use Rattle.std.proofs.Common.{List, ◌++◌, ap, sym, ◌∙◌}
use Rattle.unroll_cnf.specs.declared.latch_literal.LatchLiteral.{LatchLiteral}
use Rattle.unroll_cnf.proofs.DistinctLemmas.{weakened_same, weakened_more}
use Rattle.unroll_cnf.proofs.sets.weaken.Goals as goal

pub returns-then-denies_live : goal.returns-then-denies_live
returns-then-denies_live c =
    c.in_ok-extend_from_slice.ensures.items
    ∙ (ap (λ (z : List LatchLiteral). z ++ c.args.clause.now) c.clear.ensures.items
    ∙ sym (weakened_same c.args.clause.now (sym c.denies_live.ensures ∙ c.if-denies_live.true)))

pub returns : goal.returns
returns c =
    c.in_ok-extend_from_slice-2.ensures.items
    ∙ (ap (λ (z : List LatchLiteral). z ++ c.args.clause.now) (rw c.clear.ensures.items at c.in_ok-push.ensures.items)
    ∙ sym (weakened_more c.args.clause.now (sym c.denies_live.ensures ∙ c.if-denies_live.false)))
