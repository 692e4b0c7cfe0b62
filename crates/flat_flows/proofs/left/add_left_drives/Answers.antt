use Rattle.std.proofs.Common.{◌∙◌, ◌||◌, sym, ap, drop, ◌+◌}
use Rattle.flat_design.specs.Flows.{left_drives, part_drives}
use Rattle.flat_flows.specs.Tables.{in_table}
use Rattle.flat_flows.proofs.ReadNodes.{rest_of}
use Rattle.flat_flows.proofs.Growing.{or_assoc}
use Rattle.flat_flows.proofs.left.add_left_drives.Goals as goal

pub loop-part-preserved : goal.loop-part-preserved
loop-part-preserved c i =
    ap (λ b. b || left_drives c.args.nets.now (drop (c.loop-part.part-index + 1) c.args.left.now) i) (c.in_ok-add_row.ensures i ∙ ap (λ b. in_table c.loop-part.into i || b) (c.in_ok-range.ensures i))
    ∙ or_assoc (in_table c.loop-part.into i) (part_drives c.args.nets.now c.part-item.result i) (left_drives c.args.nets.now (drop (c.loop-part.part-index + 1) c.args.left.now) i)
    ∙ ap (λ l. in_table c.loop-part.into i || left_drives c.args.nets.now l i) (sym (rest_of c.args.left.now c.loop-part.part-index c.part-item.result c.loop-part-test.true c.part-item.is))
    ∙ c.loop-part.invariant i
