use Rattle.std.proofs.Common.{◌≡◌, ◌<◌, ◌≤◌, ◌∙◌, ◌∷◌, slice_get, length, refl, sym, ap, subst, arith}
use Rattle.flat_loops.proofs.FeedLemmas.{entry}
use Rattle.flat_cycles.proofs.RoundLemmas.{none_visited, few, done_kept, done_more, longer, no_round, round_is}
use Rattle.flat_cycles.proofs.search.round_at.Goals as goal

pub visit_row-requires-clause-visits : goal.visit_row-requires-clause-visits
visit_row-requires-clause-visits c = none_visited c.args.graph.now c.args.first _ c.in_ok-seen.seen c.new-visits.result.items c.in_ok-seen.ensures c.new-visits.ensures.items

pub visit_row-requires-in-visiting-clause-source : goal.visit_row-requires-in-visiting-clause-source
visit_row-requires-in-visiting-clause-source c =
    let low : c.visiting.head < length c.visiting.visits.items = omega (arith, c.len-in-visiting.ensures) in
    (c.index.result.now, (entry c.visiting.visits.items c.visiting.head c.index.result.now low c.index.ensures, refl))

pub way_to-requires-clause-place : goal.way_to-requires-clause-place
way_to-requires-clause-place c =
    let low : c.visiting.head < length c.visiting.visits.items = omega (arith, c.len-in-visiting.ensures) in
    let now : c.visiting.head < length c.visit_row-in-visiting.new.visits.items = longer c.visiting.seen c.visiting.visits.items c.visit_row-in-visiting.new.seen c.visit_row-in-visiting.new.visits.items c.visiting.head c.in_ok-visit_row-2.ensures.grown low in
    subst (λ l. c.visiting.head < length l) (sym c.as_slice.ensures.value) now

pub returns-then-branch-2 : goal.returns-then-branch-2
returns-then-branch-2 c =
    let low : c.visiting.head < length c.visiting.visits.items = omega (arith, c.len-in-visiting.ensures) in
    round_is c.args.graph.now c.args.first c.as_slice.result.now c.visiting.head c.index.result.now.node c.index.result.now c.in_ok-way.way.items c.in_ok-round-2.round.items
    (ap (λ l. slice_get l c.visiting.head) c.as_slice.ensures.value ∙ c.in_ok-visit_row-2.ensures.grown.stays c.visiting.head c.index.result.now (entry c.visiting.visits.items c.visiting.head c.index.result.now low c.index.ensures)) refl
    (c.in_ok-visit_row-2.ensures.back c.if-branch-2.true) c.in_ok-way.ensures (c.in_ok-round-2.ensures ∙ ap (λ l. c.args.first ∷ l) c.as_slice-then-branch-2.ensures.value)

pub visiting-smaller : goal.visiting-smaller
visiting-smaller c =
    let low : c.visiting.head < length c.visiting.visits.items = omega (arith, c.len-in-visiting.ensures) in
    let some : length c.visiting.visits.items ≤ length c.visiting.seen = few c.args.graph.now c.args.first c.visiting.seen c.visiting.visits.items c.visiting.invariant.visits in
    let same : length c.visiting.seen ≡ length c.args.graph.now = c.visiting.invariant.bound in
    omega arith

pub visiting-preserved : goal.visiting-preserved
visiting-preserved c =
    let low : c.visiting.head < length c.visiting.visits.items = omega (arith, c.len-in-visiting.ensures) in
    let grown = c.in_ok-visit_row-2.ensures.grown in
    let now : c.visiting.head < length c.visit_row-in-visiting.new.visits.items = longer c.visiting.seen c.visiting.visits.items c.visit_row-in-visiting.new.seen c.visit_row-in-visiting.new.visits.items c.visiting.head grown low in
    record {
      visits = c.in_ok-visit_row-2.ensures.visits;
      bound = grown.bound ∙ c.visiting.invariant.bound;
      start = done_kept c.args.graph.now c.args.first c.visiting.seen c.visiting.visits.items c.visit_row-in-visiting.new.seen c.visit_row-in-visiting.new.visits.items c.args.first grown c.visiting.invariant.start;
      done = done_more c.args.graph.now c.args.first c.visiting.seen c.visiting.visits.items c.visit_row-in-visiting.new.seen c.visit_row-in-visiting.new.visits.items c.visiting.head c.index.result.now.node c.index.result.now low
          (entry c.visiting.visits.items c.visiting.head c.index.result.now low c.index.ensures) refl grown c.visiting.invariant.done (c.in_ok-visit_row-2.ensures.done c.if-branch-2.false);
      within = omega arith;
    }

pub returns : goal.returns
returns c = no_round c.args.graph.now c.args.first c.visiting.seen c.visiting.visits.items c.visiting.head c.visiting.invariant.visits c.visiting.invariant.start c.visiting.invariant.done (omega (arith, c.len-in-visiting.ensures))
