use Rattle.std.proofs.Common.{◌∙◌, ◌||◌, ◌&&◌, not, sym, ap, drop, ◌+◌}
use Rattle.flat_design.specs.Flows.{left_fixes, part_fixes}
use Rattle.flat_orders.specs.Orders.{among}
use Rattle.flat_flows.specs.Tables.{in_table}
use Rattle.flat_flows.proofs.ReadNodes.{rest_of}
use Rattle.flat_flows.proofs.Growing.{both}
use Rattle.flat_flows.proofs.left.left_fixes.Goals as goal

pub loop-part-preserved : goal.loop-part-preserved
loop-part-preserved c i =
    ap (λ b. b || (left_fixes c.args.nets.now (drop (c.loop-part.part-index + 1) c.args.left.now) i && not (in_table c.args.shut.now i))) (c.in_ok-list_part_fixes.ensures i)
    ∙ both (among i c.loop-part.fixed.items) (part_fixes c.args.nets.now c.part-item.result i) (left_fixes c.args.nets.now (drop (c.loop-part.part-index + 1) c.args.left.now) i) (in_table c.args.shut.now i)
    ∙ ap (λ l. among i c.loop-part.fixed.items || (left_fixes c.args.nets.now l i && not (in_table c.args.shut.now i))) (sym (rest_of c.args.left.now c.loop-part.part-index c.part-item.result c.loop-part-test.true c.part-item.is))
    ∙ c.loop-part.invariant i
