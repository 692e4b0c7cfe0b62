use Rattle.flat_orders.proofs.CycleLemmas as cycles
use Rattle.flat_orders.proofs.laws.cycles_and_orders.Goals as goal

pub returns : goal.returns
returns c = record {
  order_excludes_cycle = cycles.order_excludes_cycle;
  closed_excludes_cycle = cycles.closed_excludes_cycle;
  one_more = cycles.one_more;
  closed_is_order = cycles.closed_is_order;
}
