use Rattle.std.proofs.Common.{arith}
use Rattle.lemma_checker.proofs.ClauseLemmas.{has_get_or}
use Rattle.lemma_checker.proofs.resolver.merge.Goals as goal

pub mark-requires-clause-below : goal.mark-requires-clause-below
mark-requires-clause-below c = omega (arith, c.requires.below.each _ (has_get_or c.args.clause.now c.loop-literal.literal-index (record { 0 = 0 }) c.loop-literal-test.true))
