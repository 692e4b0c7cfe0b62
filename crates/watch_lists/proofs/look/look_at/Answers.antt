use Rattle.std.proofs.Common.{sym, ◌∙◌, ap}
use Rattle.lemma_checker.specs.Clauses.{at}
use Rattle.watch_lists.proofs.LookLemmas.{lost, last, moved}
use Rattle.watch_lists.proofs.look.look_at.Goals as goal

pub returns-in-Some-other_place : goal.returns-in-Some-other_place
returns-in-Some-other_place c = moved c.args.clause.now c.face.new.clause c.swap.new.self (at c.args.values.now) c.args.literal.0 c.in-Some-other_place.place c.face.ensures.facing (c.face.ensures.second c.if-not-face.false) c.in-Some-other_place.ensures.some c.swap.ensures.after c.swap.ensures.permutation

pub returns-then-is_marked-2 : goal.returns-then-is_marked-2
returns-then-is_marked-2 c = lost c.args.clause.now c.face.new.clause (at c.args.values.now) c.args.literal.0 c.face.ensures.facing (c.face.ensures.second c.if-not-face.false) c.requires.denied (ap (at c.args.values.now) (sym c.opposite.ensures) ∙ (sym c.is_marked-in-None.ensures ∙ c.if-is_marked-2.true)) c.in-None.ensures.none

pub returns-else-is_marked-2 : goal.returns-else-is_marked-2
returns-else-is_marked-2 c = last c.args.clause.now c.face.new.clause (at c.args.values.now) c.args.literal.0 c.face.ensures.facing (c.face.ensures.second c.if-not-face.false) c.requires.denied (sym c.is_marked.ensures ∙ c.if-is_marked.false) (ap (at c.args.values.now) (sym c.opposite.ensures) ∙ (sym c.is_marked-in-None.ensures ∙ c.if-is_marked-2.false)) c.in-None.ensures.none
