use Rattle.std.proofs.Common.{◌∙◌, sym, ap, slice_get}
use Rattle.flat_design.specs.Systems.{is_clocked}
use Rattle.flat_loops.proofs.FeedLemmas.{entry, one_item, drivers_more, drivers_same}
use Rattle.flat_loops.proofs.feeds.drivers.Goals as goal
use Rattle.flat_loops.proofs.feeds.drivers.Goals.{then-not-is_clocked+in_ok-fill+in_ok-note_all, else-not-is_clocked}

pub loop-k-preserved : goal.loop-k-preserved
loop-k-preserved c =
    elim c.if-not-is_clocked.branch [
      | then-not-is_clocked+in_ok-fill+in_ok-note_all w ↦
          (let there = entry c.args.items.now c.loop-k.k w.index-items-k-then-not-is_clocked.result c.loop-k-test.true w.index-items-k-then-not-is_clocked.is in
          let same = one_item (slice_get c.args.items.now c.loop-k.k) w.index-items-k-then-not-is_clocked.result c.index-items-k.result there (entry c.args.items.now c.loop-k.k c.index-items-k.result c.loop-k-test.true c.index-items-k.is) in
          rw w.table-is (drivers_more c.args.nets.now c.args.items.now c.loop-k.k w.index-items-k-then-not-is_clocked.result c.loop-k.table.items w.note_all.new.table.items w.members.result.now c.requires.single c.loop-k.invariant there
          (ap is_clocked same ∙ sym c.is_clocked.ensures ∙ w.if-not-is_clocked.true) (λ i. w.members.ensures i ∙ w.in_ok-fill.ensures.drives i) w.in_ok-note_all.ensures))
      | else-not-is_clocked w ↦ rw w.table-is (drivers_same c.args.nets.now c.args.items.now c.loop-k.k c.index-items-k.result c.loop-k.table.items c.loop-k.invariant (entry c.args.items.now c.loop-k.k c.index-items-k.result c.loop-k-test.true c.index-items-k.is) (sym c.is_clocked.ensures ∙ w.if-not-is_clocked.false))
    ]
