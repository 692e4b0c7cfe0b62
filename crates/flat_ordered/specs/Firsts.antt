-- The cycle that is shown of a design: it begins at its first item in text order, and no other cycle begins at an earlier place.
use Rattle.std.specs.Prelude.{◌≡◌, ◌≤◌, ℕ, false, List, ◌∷◌, Some, slice_get}
use Rattle.bit_base.specs.Places.{is_before}
use Rattle.flat_design.specs.declared.net.Net.{Net}
use Rattle.flat_design.specs.declared.item.FlatItem.{FlatItem}
use Rattle.flat_design.specs.Systems.{place_of}
use Rattle.flat_orders.specs.Orders.{IsOrder}
use Rattle.flat_orders.specs.Cycles.{IsCycle, AllFrom}
use Rattle.flat_cycles.specs.Rounds.{StandOnce}
use Rattle.flat_loops.specs.declared.sort.Sorting.{Sorting}
use Rattle.flat_loops.specs.declared.sort.Sorting.TheVariants as S

pub record IsFirstCycle (nets : List Net) (items : List FlatItem) (ks : List ℕ) : Type 0 where
  pub first : ℕ
  pub rest : List ℕ
  pub item : FlatItem
  pub is : ks ≡ first ∷ rest
  pub there : slice_get items first ≡ Some item
  pub cycle : IsCycle nets items ks
  pub from : AllFrom first rest
  pub once : StandOnce ks
  -- no cycle begins at an earlier place, and none at the same place begins with an earlier item
  pub least : (m : ℕ) (js : List ℕ) (x : FlatItem) → slice_get items m ≡ Some x → IsCycle nets items (m ∷ js) → AllFrom m js → is_before (place_of x) (place_of item) ≡ false
  pub also : (m : ℕ) (js : List ℕ) (x : FlatItem) → slice_get items m ≡ Some x → IsCycle nets items (m ∷ js) → AllFrom m js → is_before (place_of item) (place_of x) ≡ false → first ≤ m

abbrev pub IsOrdered : List Net → List FlatItem → Sorting → Type 0
IsOrdered nets items (S.Order order) = IsOrder nets items order.items
IsOrdered nets items (S.Loop found) = IsFirstCycle nets items found.items
