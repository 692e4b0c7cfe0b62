use Rattle.std.proofs.Common.{◌∙◌, sym}
use Rattle.flat_loops.proofs.FeedLemmas.{passed_more, passed_none}
use Rattle.flat_loops.proofs.feeds.feeds.Goals as goal
use Rattle.flat_loops.proofs.feeds.feeds.Goals.{in-Some+in_ok-push, in_default}

pub loop-bit-preserved : goal.loop-bit-preserved
loop-bit-preserved c =
    elim c.match-driver_of.branch [
      | in-Some+in_ok-push w ↦ rw w.feeds-is (passed_more c.args.table.now c.args.bits.now c.loop-bit.feeds.items w.push.new.self.items c.loop-bit.bit-index w.in-Some.driver c.loop-bit-test.true c.loop-bit.invariant (sym c.driver_of.ensures ∙ w.in-Some.is) w.in_ok-push.ensures.items)
      | in_default w ↦ rw w.feeds-is (passed_none c.args.table.now c.args.bits.now c.loop-bit.feeds.items c.loop-bit.bit-index c.loop-bit-test.true c.loop-bit.invariant (λ d e. w.in_default.not-Some d (c.driver_of.ensures ∙ e)))
    ]
