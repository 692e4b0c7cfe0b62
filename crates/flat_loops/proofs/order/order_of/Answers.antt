use Rattle.flat_loops.proofs.OrderLemmas.{ordered}
use Rattle.flat_loops.proofs.order.order_of.Goals as goal

pub returns : goal.returns
returns c = ordered c.sort.result c.args.nets.now c.args.items.now c.in_ok-graph.graph c.in_ok-numbers.numbers.items c.as_slice.result.now c.in_ok-graph.ensures c.in_ok-numbers.ensures c.as_slice.ensures.value c.sort.ensures
