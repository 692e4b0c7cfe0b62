-- What sorting the nodes of a graph gives.
use Rattle.std.specs.Prelude.{◌≡◌, ℕ, Bool, true, List}
use Rattle.flat_orders.specs.Orders.{among}
use Rattle.flat_loops.specs.declared.sort.Sorting.{Sorting}
use Rattle.flat_loops.specs.declared.sort.Sorting.TheVariants as S
use Rattle.flat_loops.specs.Graphs.{Graph, IsSorted, IsLoop, IsClosed, AllIn}

-- an order of the nodes and of all to which they lead, and of no other
pub record IsOrderOf (graph : Graph) (nodes order : List ℕ) : Type 0 where
  pub sorted : IsSorted graph order
  pub covers : (k : ℕ) → among k nodes ≡ true → among k order ≡ true
  pub only : (set : ℕ → Bool) → IsClosed graph set → AllIn set nodes → AllIn set order

abbrev pub IsSorting : Graph → List ℕ → Sorting → Type 0
IsSorting graph nodes (S.Order order) = IsOrderOf graph nodes order.items
IsSorting graph nodes (S.Loop found) = IsLoop graph found.items
