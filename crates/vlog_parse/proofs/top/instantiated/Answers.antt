use Rattle.std.proofs.Common.{subst}
use Rattle.vlog_parse.specs.Top.{instances_of_items}
use Rattle.vlog_parse.specs.Met.{Meets}
use Rattle.vlog_parse.proofs.Instances.{meets_more}
use Rattle.vlog_parse.proofs.top.instantiated.Goals as goal

pub loop-module-preserved : goal.loop-module-preserved
loop-module-preserved c =
    meets_more (λ m. instances_of_items m.items) c.args.modules.now c.loop-module.module-index c.module-item.result c.new-met.result c.loop-module.met c.meet_items.new.met c.loop-module-test.true
    c.module-item.is c.loop-module.invariant (subst (λ items. Meets c.loop-module.met (instances_of_items items) c.meet_items.new.met) c.as_slice.ensures c.in_ok-meet_items.ensures)
