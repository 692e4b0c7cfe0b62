use Rattle.std.proofs.Common.{◌∙◌, sym}
use Rattle.flat_orders.specs.Orders.{among}
use Rattle.flat_clocks.proofs.Readings.{least_read, untied}
use Rattle.flat_clocks.proofs.reading.clock_read.Goals as goal

pub returns : goal.returns
returns c =
    least_read c.args.nets.now c.args.table.now c.args.item.now (λ i. among i c.members.result.now) c.in_ok-clock.clock (sym c.tie_of.ensures ∙ untied c.tie_of.result (sym c.is_some.ensures ∙ c.if-is_some.false))
    (λ i. c.members.ensures i ∙ c.in_ok-fill.ensures.reads i) c.in_ok-clock.ensures
