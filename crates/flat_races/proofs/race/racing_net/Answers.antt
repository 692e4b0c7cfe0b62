use Rattle.std.proofs.Common.{◌∙◌, ap}
use Rattle.flat_orders.specs.Orders.{among}
use Rattle.flat_races.specs.Readers.{racing}
use Rattle.flat_races.proofs.Firsts.{least_in}
use Rattle.flat_races.proofs.race.racing_net.Goals as goal

pub returns : goal.returns
returns c =
    least_in c.as_slice.result.now (racing c.args.nets.now c.args.readers.now c.args.number c.args.item.now) c.least_of.result (λ n. ap (among n) c.as_slice.ensures.value ∙ c.in_ok-racing.ensures n) c.least_of.ensures.among c.least_of.ensures.least c.least_of.ensures.none
