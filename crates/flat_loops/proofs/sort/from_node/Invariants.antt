use Rattle.std.proofs.Common.{◌≡◌, true, drop}
use Rattle.flat_orders.specs.Orders.{among}
use Rattle.flat_loops.proofs.sort.from_node.Given as goal

-- the node is in the rest
abbrev pub invariant-loop-i : goal.invariant-loop-i
invariant-loop-i l = among l.node (drop l.i l.path) ≡ true
