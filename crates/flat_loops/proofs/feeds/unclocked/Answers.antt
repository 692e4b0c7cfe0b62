use Rattle.std.proofs.Common.{◌∙◌, sym}
use Rattle.flat_loops.proofs.FeedLemmas.{entry, number_more, number_same, all_numbers}
use Rattle.flat_loops.proofs.feeds.unclocked.Goals as goal
use Rattle.flat_loops.proofs.feeds.unclocked.Goals.{then-not-is_clocked+in_ok-push, else-not-is_clocked}

pub loop-k-preserved : goal.loop-k-preserved
loop-k-preserved c =
    let there = entry c.args.items.now c.loop-k.k c.index-items-k.result c.loop-k-test.true c.index-items-k.is in
    elim c.if-not-is_clocked.branch [
      | then-not-is_clocked+in_ok-push w ↦ rw w.numbers-is (number_more c.args.items.now c.loop-k.k c.index-items-k.result c.loop-k.numbers.items w.push.new.self.items c.loop-k.invariant there (sym c.is_clocked.ensures ∙ w.if-not-is_clocked.true) w.in_ok-push.ensures.items)
      | else-not-is_clocked w ↦ rw w.numbers-is (number_same c.args.items.now c.loop-k.k c.index-items-k.result c.loop-k.numbers.items c.loop-k.invariant there (sym c.is_clocked.ensures ∙ w.if-not-is_clocked.false))
    ]

pub returns : goal.returns
returns c = all_numbers c.args.items.now c.loop-k.k c.loop-k.numbers.items c.loop-k-test.false c.loop-k.invariant
