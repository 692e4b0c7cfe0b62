use Rattle.std.proofs.Common.{◌∙◌, inl, sym, subst}
use Rattle.flat_ordered.specs.Bests.{IsSoFar}
use Rattle.flat_ordered.proofs.BestLemmas.{best_kept, next_none, next_some}
use Rattle.flat_ordered.proofs.first.first_of.Goals as goal

pub returns-in-None : goal.returns-in-None
returns-in-None c places here so = next_none c.found_at.result c.args.graph.now places c.args.number c.args.place here (subst (IsSoFar c.args.graph.now places c.args.number) c.in-None.is so) c.found_at.ensures

pub returns-then-not-is_before : goal.returns-then-not-is_before
returns-then-not-is_before c places here so =
    best_kept c.args.graph.now places c.args.number c.args.place c.in-Some.best here (inl (sym c.is_before.ensures ∙ c.if-not-is_before.true)) (subst (IsSoFar c.args.graph.now places c.args.number) c.in-Some.is so)

pub returns-else-not-is_before : goal.returns-else-not-is_before
returns-else-not-is_before c places here so =
    next_some c.found_at-in-Some.result c.args.graph.now places c.args.number c.args.place c.in-Some.best here (sym c.is_before.ensures ∙ c.if-not-is_before.false) (subst (IsSoFar c.args.graph.now places c.args.number) c.in-Some.is so) c.found_at-in-Some.ensures
