-- What is found of the items that no clock starts: an order, or a cycle.
use Rattle.std.specs.Prelude.{List}
use Rattle.flat_design.specs.declared.net.Net.{Net}
use Rattle.flat_design.specs.declared.item.FlatItem.{FlatItem}
use Rattle.flat_orders.specs.Orders.{IsOrder}
use Rattle.flat_orders.specs.Cycles.{IsCycle}
use Rattle.flat_loops.specs.declared.sort.Sorting.{Sorting}
use Rattle.flat_loops.specs.declared.sort.Sorting.TheVariants as S

abbrev pub IsOrdering : List Net → List FlatItem → Sorting → Type 0
IsOrdering nets items (S.Order order) = IsOrder nets items order.items
IsOrdering nets items (S.Loop found) = IsCycle nets items found.items
