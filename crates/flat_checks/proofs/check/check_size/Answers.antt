use Rattle.flat_loads.specs.Sizes.{is_too_large}
use Rattle.flat_checks.proofs.Answering.{none_then, some_off, cost_of, no_cycles}
use Rattle.flat_checks.proofs.check.check_size.Goals as goal

pub returns-in-None : goal.returns-in-None
returns-in-None c =
    (c.requires.drivers, (c.requires.races, (c.requires.latches, (no_cycles c.args.nets.now c.args.items.now c.args.order.items c.requires.order, none_then c.in_ok-cost_within.field-0 _ c.in-None.is c.in_ok-cost_within.ensures.none.0))))

pub returns-in-Some : goal.returns-in-Some
returns-in-Some c = record {
  free = record {
    drivers = c.requires.drivers;
    races = c.requires.races;
    latches = c.requires.latches;
    cycles = no_cycles c.args.nets.now c.args.items.now c.args.order.items c.requires.order;
    size = some_off c.in_ok-cost_within.field-0 c.in-Some.cost (is_too_large c.args.nets.now c.args.items.now) c.in-Some.is c.in_ok-cost_within.ensures.none.1;
  };
  order = c.requires.order;
  cost = cost_of c.in_ok-cost_within.field-0 c.in-Some.cost _ c.in-Some.is c.in_ok-cost_within.ensures.cost;
}
