use Rattle.std.proofs.Common.{◌∙◌, ◌&&◌, ◌||◌, ap}
use Rattle.std.specs.Prelude.{not}
use Rattle.flat_design.specs.Systems.{item_flow}
use Rattle.flat_orders.specs.Orders.{among}
use Rattle.flat_drives.specs.Drives.{item_twice, offending}
use Rattle.flat_drives.proofs.Leasts.{least_same}
use Rattle.flat_drives.proofs.offending.item_net.Goals as goal

pub returns : goal.returns
returns c first all known before =
    let nets = c.args.nets.now in
    let item = c.args.item.now in
    least_same c.args.owners.now (λ i. among i c.as_slice.result.now) (offending nets first all item) c.in_ok-net.net
    (λ i. ap (among i) c.as_slice.ensures.value ∙ c.in_ok-bits.ensures i
    ∙ (λ j. ((item_flow nets item).drives i && (before i j || known.inputs_is i j)) || (item_twice nets item i || ((item_flow nets item).reads i && not (known.driven_is i j || known.given_is i j)))))
    c.in_ok-net.ensures
