use Rattle.std.proofs.Common.{sym, ap, drop, ◌+◌}
use Rattle.flat_design.specs.Flows.{left_reads, part_reads}
use Rattle.flat_flows.proofs.ReadNodes.{rest_of}
use Rattle.flat_flows.proofs.Growing.{grows_as, grows_both}
use Rattle.flat_flows.proofs.reading.add_left_reads.Goals as goal

pub loop-part-preserved : goal.loop-part-preserved
loop-part-preserved c final rest =
    c.loop-part.invariant final (grows_as c.loop-part.into final c.args.shut.now _ _
    (λ i. sym (ap (λ l. left_reads c.args.nets.now l i) (rest_of c.args.left.now c.loop-part.part-index c.part-item.result c.loop-part-test.true c.part-item.is)))
    (grows_both c.loop-part.into c.add_part_reads.new.into final c.args.shut.now (part_reads c.args.nets.now c.part-item.result) (left_reads c.args.nets.now (drop (c.loop-part.part-index + 1) c.args.left.now)) c.in_ok-add_part_reads.ensures rest))
