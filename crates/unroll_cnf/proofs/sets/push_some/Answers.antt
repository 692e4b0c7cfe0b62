use Rattle.std.proofs.Common.{sym, ◌∙◌, subst}
use Rattle.lemma_checker.specs.Clauses.{AreDistinct}
use Rattle.unroll_cnf.proofs.DistinctLemmas.{some_distinct}
use Rattle.unroll_cnf.proofs.sets.push_some.Goals as goal

pub push-requires : goal.push-requires
push-requires c = record { distinct = subst AreDistinct (sym (c.as_slice.ensures.value ∙ c.in_ok-write_some.ensures)) (some_distinct c.args.y c.args.set.now) }
