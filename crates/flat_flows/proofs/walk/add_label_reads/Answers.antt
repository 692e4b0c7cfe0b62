use Rattle.std.proofs.Common.{sym, ap, drop, ◌+◌}
use Rattle.flat_design.specs.Reads.{reads}
use Rattle.flat_design.specs.Flows.{label_reads}
use Rattle.flat_flows.proofs.ReadNodes.{rest_of}
use Rattle.flat_flows.proofs.Growing.{grows_as, grows_both}
use Rattle.flat_flows.proofs.walk.add_label_reads.Goals as goal

pub loop-label-preserved : goal.loop-label-preserved
loop-label-preserved c final rest =
    c.loop-label.invariant final (grows_as c.loop-label.reads final c.args.sure.now _ _
    (λ i. sym (ap (λ l. label_reads c.args.nets.now l i) (rest_of c.args.labels.now c.loop-label.label-index c.label-item.result c.loop-label-test.true c.label-item.is)))
    (grows_both c.loop-label.reads c.add_reads.new.into final c.args.sure.now (reads c.args.nets.now c.label-item.result.value) (label_reads c.args.nets.now (drop (c.loop-label.label-index + 1) c.args.labels.now)) c.in_ok-add_reads.ensures rest))
