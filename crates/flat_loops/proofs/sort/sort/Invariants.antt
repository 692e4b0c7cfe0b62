use Rattle.std.proofs.Common.{◌≡◌, ℕ, Bool, true, [], take, length}
use Rattle.flat_orders.specs.Orders.{among}
use Rattle.flat_loops.specs.Graphs.{IsSearch, IsClosed, AllIn}
use Rattle.flat_loops.proofs.sort.sort.Given as goal

-- the nodes so far are sorted, with all to which they lead, and no other
abbrev pub invariant-loop-node : goal.invariant-loop-node
invariant-loop-node l = record {
  search : IsSearch l.graph l.seen l.done l.order.items [];
  bound : length l.seen ≡ length l.graph;
  covers : (k : ℕ) → among k (take l.node-index l.nodes) ≡ true → among k l.order.items ≡ true;
  only : (set : ℕ → Bool) → IsClosed l.graph set → AllIn set l.nodes → AllIn set l.order.items;
}
