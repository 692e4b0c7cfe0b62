use Rattle.vlog_parse.specs.Top.{instances_of_mitem}
use Rattle.vlog_parse.proofs.Instances.{meets_more}
use Rattle.vlog_parse.proofs.top.+meet.Goals as goal

pub meet_items-loop-item-preserved : goal.meet_items-loop-item-preserved
meet_items-loop-item-preserved t c =
    meets_more instances_of_mitem c.args.items.now c.loop-item.item-index c.item-item.result c.args.met.now c.loop-item.met c.meet_item.new.met c.loop-item-test.true c.item-item.is
    c.loop-item.invariant c.in_ok-meet_item.ensures
