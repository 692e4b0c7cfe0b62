use Rattle.std.proofs.Common.{◌≡◌, ◌<◌, ◌≤◌, ◌≢◌, ◌∙◌, ◌+◌, length, take, true, sym, ap, subst, arith}
use Rattle.std.specs.Prelude.{slice_index_or}
use Rattle.flat_orders.specs.Orders.{among}
use Rattle.flat_loops.proofs.SortLemmas.{entry_there}
use Rattle.flat_cycles.proofs.VisitLemmas.{IsPast, past_lower, past_noted}
use Rattle.flat_cycles.proofs.visit.visit_row.Goals as goal
use Rattle.flat_cycles.proofs.visit.visit_row.Goals.{then-next-first-2+in_ok-note_visit, else-next-first-2}

pub note_visit-requires : goal.note_visit-requires
note_visit-requires c =
    let there : among (slice_index_or c.row-next-items.result.now c.loop-next.next-index 0) c.row-next-items.result.now ≡ true = entry_there c.row-next-items.result.now c.loop-next.next-index c.loop-next-test.true in
    let low : slice_index_or c.row-next-items.result.now c.loop-next.next-index 0 < length c.args.seen.now = c.requires.bounded c.args.node (slice_index_or c.row-next-items.result.now c.loop-next.next-index 0) (ap (among (slice_index_or c.row-next-items.result.now c.loop-next.next-index 0)) (sym c.row-next-items.ensures) ∙ there) in
    let same : length c.loop-next.seen ≡ length c.args.seen.now = c.loop-next.invariant.grown.bound in
    omega arith

pub loop-next-preserved : goal.loop-next-preserved
loop-next-preserved c =
    let before = subst (λ r. IsPast c.args.graph.now c.args.first c.args.node c.args.from c.args.seen.now c.args.visits.now.items c.loop-next.seen c.loop-next.visits.items (take c.loop-next.next-index r)) (sym c.row-next-items.ensures) c.loop-next.invariant in
    elim c.if-next-first-2.branch [
      | then-next-first-2+in_ok-note_visit w ↦
          (let there : among (slice_index_or c.row-next-items.result.now c.loop-next.next-index 0) c.row-next-items.result.now ≡ true = entry_there c.row-next-items.result.now c.loop-next.next-index c.loop-next-test.true in
          let led = ap (among (slice_index_or c.row-next-items.result.now c.loop-next.next-index 0)) (sym c.row-next-items.ensures) ∙ there in
          let low : slice_index_or c.row-next-items.result.now c.loop-next.next-index 0 < length c.args.seen.now = c.requires.bounded c.args.node (slice_index_or c.row-next-items.result.now c.loop-next.next-index 0) led in
          let same : length c.loop-next.seen ≡ length c.args.seen.now = c.loop-next.invariant.grown.bound in
          rw (w.seen-is, w.visits-is) (subst (λ r. IsPast c.args.graph.now c.args.first c.args.node c.args.from c.args.seen.now c.args.visits.now.items w.note_visit.new.seen w.note_visit.new.visits.items (take (c.loop-next.next-index + 1) r)) c.row-next-items.ensures
          (past_noted c.args.graph.now c.args.first c.args.node c.args.from c.args.seen.now c.args.visits.now.items c.loop-next.seen w.note_visit.new.seen c.loop-next.visits.items w.note_visit.new.visits.items c.row-next-items.result.now c.loop-next.next-index c.loop-next-test.true
          w.if-next-first-2.true (omega arith) led c.requires.source w.in_ok-note_visit.ensures.was w.in_ok-note_visit.ensures.new before)))
      | else-next-first-2 w ↦
          (let ne : slice_index_or c.row-next-items.result.now c.loop-next.next-index 0 ≢ c.args.first = c.if-next-first.false in
          let le : slice_index_or c.row-next-items.result.now c.loop-next.next-index 0 ≤ c.args.first = w.if-next-first-2.false in
          rw (w.seen-is, w.visits-is) (subst (λ r. IsPast c.args.graph.now c.args.first c.args.node c.args.from c.args.seen.now c.args.visits.now.items c.loop-next.seen c.loop-next.visits.items (take (c.loop-next.next-index + 1) r)) c.row-next-items.ensures
          (past_lower c.args.graph.now c.args.first c.args.node c.args.from c.args.seen.now c.args.visits.now.items c.loop-next.seen c.loop-next.visits.items c.row-next-items.result.now c.loop-next.next-index c.loop-next-test.true (omega arith) before)))
    ]
