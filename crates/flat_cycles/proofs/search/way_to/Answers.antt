use Rattle.std.proofs.Common.{◌∙◌, ◌∷◌, [], reverse, sym, ap, subst}
use Rattle.std.specs.Prelude.{None, slice_index_or}
use Rattle.std.proofs.lemmas.List.{reverse-append}
use Rattle.flat_cycles.proofs.WayLemmas.{IsBackTo, back_more, at_index, stands_at}
use Rattle.flat_cycles.proofs.search.way_to.Goals as goal

pub back-preserved : goal.back-preserved
back-preserved c =
    let x = slice_index_or c.args.visits.now c.in-Some.p (record { node = 0; from = None }) in
    subst (λ ws. IsBackTo c.args.graph.now c.args.first c.args.visits.now c.args.place x.from ws) (sym (ap reverse c.in_ok-push.ensures.items ∙ reverse-append c.back.way.items (x.node ∷ [])))
    (back_more c.args.graph.now c.args.first c.args.visits.now c.args.place c.in-Some.p x c.back.at (reverse c.back.way.items) c.requires.coming c.in-Some.is
    (at_index c.args.visits.now c.in-Some.p (record { node = 0; from = None }) (stands_at c.args.visits.now c.back.at c.in-Some.p c.in-Some.is c.back.invariant.stands)) c.back.invariant)
