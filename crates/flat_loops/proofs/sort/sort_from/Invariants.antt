use Rattle.std.proofs.Common.{◌≡◌, ◌||◌, ℕ, Bool, true, length}
use Rattle.flat_orders.specs.Orders.{among}
use Rattle.flat_loops.specs.Graphs.{IsSearch, IsClosed, AllIn}
use Rattle.flat_loops.specs.Steps.{to_do}
use Rattle.flat_loops.proofs.sort.sort_from.Given as goal

-- the node is sorted or on the path, and what was sorted still is
abbrev pub invariant-search : goal.invariant-search
invariant-search l = record {
  search : IsSearch l.graph l.seen l.done l.order.items l.path.items;
  bound : length l.seen ≡ length l.fn.seen;
  kept : (i : ℕ) → among i l.fn.order.items ≡ true → among i l.order.items ≡ true;
  there : (among l.node l.order.items || among l.node l.path.items) ≡ true;
  within : (set : ℕ → Bool) → IsClosed l.graph set → AllIn set l.fn.order.items → set l.node ≡ true → AllIn set l.order.items × AllIn set l.path.items;
}

abbrev pub decreases-search : goal.decreases-search
decreases-search l = to_do l.seen l.path.items
