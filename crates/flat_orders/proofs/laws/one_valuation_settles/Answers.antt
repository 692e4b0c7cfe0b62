use Rattle.flat_orders.proofs.Settling as settling
use Rattle.flat_orders.proofs.laws.one_valuation_settles.Goals as goal

pub returns : goal.returns
returns c = record {
  order_settles = settling.order_settles;
  one_settles = settling.one_settles;
  settles_alike = settling.settles_alike;
}
