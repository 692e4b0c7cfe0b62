use Rattle.std.proofs.Common.{◌∙◌, ◌&&◌, ◌||◌, ap}
use Rattle.flat_design.specs.Flows.{Flow}
use Rattle.flat_design.specs.Systems.{item_flow}
use Rattle.flat_orders.specs.Orders.{among}
use Rattle.flat_flows.specs.Tables.{in_table}
use Rattle.flat_latches.proofs.Leasts.{least_as, open_is}
use Rattle.flat_latches.proofs.latch.open_bit.Goals as goal

pub returns : goal.returns
returns c =
    let f : Flow = item_flow c.args.nets.now c.args.item.now in
    least_as c.least_open.result _ (λ i. f.drives i && f.leaves i)
    (open_is f c.args.sets.now.found.drives c.add_all.new.self c.new-fixed.result c.members.result.now c.args.sets.now.fixes.items c.requires.drives c.requires.fixes c.members.ensures c.new-fixed.ensures
    (λ i. c.in_ok-add_all.ensures i ∙ ap (λ l. in_table c.new-fixed.result i || among i l) c.as_slice.ensures.value))
    c.least_open.ensures
