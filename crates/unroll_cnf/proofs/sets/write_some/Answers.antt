use Rattle.std.proofs.Common.{[], ◌∷◌, ◌++◌, ap, ◌∙◌, arith}
use Rattle.lemma_checker.specs.declared.literal.Literal.{Literal}
use Rattle.unroll_cnf.proofs.DistinctLemmas.{more_some}
use Rattle.unroll_cnf.proofs.sets.write_some.Goals as goal

pub loop-i-preserved : goal.loop-i-preserved
loop-i-preserved c =
    more_some c.args.y c.loop-i.i c.args.set.now _ _ _ (omega arith)
    (c.in_ok-push.ensures.items ∙ ap (λ (z : Literal). c.loop-i.literals.items ++ z ∷ []) c.plain_literal.ensures)
    c.loop-i.invariant
