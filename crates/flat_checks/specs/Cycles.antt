-- What is carried of a cycle of items: of each the first net in net order that it assigns.
use Rattle.std.specs.Prelude.{◌≡◌, ◌≤◌, ℕ, true, List, length, Some, slice_get}
use Rattle.flat_design.specs.declared.net.Net.{Net}
use Rattle.flat_design.specs.declared.item.FlatItem.{FlatItem}
use Rattle.flat_design.specs.Systems.{place_of}
use Rattle.flat_orders.specs.Orders.{among}
use Rattle.flat_raw.specs.Assigned.{item_nets}
use Rattle.flat_ordered.specs.Firsts.{IsFirstCycle}
use Rattle.flat_checks.specs.declared.cycle.ItemCycle.{ItemCycle}

-- the first net in net order that the item assigns
pub record IsFirstNet (item : FlatItem) (n : ℕ) : Type 0 where
  pub assigned : among n (item_nets item) ≡ true
  pub first : (m : ℕ) → among m (item_nets item) ≡ true → n ≤ m

-- of each of these items
pub record AreFirstNets (items : List FlatItem) (ks ns : List ℕ) : Type 0 where
  pub as_many : length ns ≡ length ks
  pub each : (p k n : ℕ) (x : FlatItem) → slice_get ks p ≡ Some k → slice_get ns p ≡ Some n → slice_get items k ≡ Some x → IsFirstNet x n

-- the cycle that is shown of a design, at the place of its first item, with the nets of its items
pub record IsShownCycle (nets : List Net) (items : List FlatItem) (c : ItemCycle) : Type 0 where
  pub numbers : List ℕ
  pub cycle : IsFirstCycle nets items numbers
  pub place : c.place ≡ place_of cycle.item
  pub carried : AreFirstNets items numbers c.nets.items

-- each item of the list assigns a net
pub record AreAssigning (items : List FlatItem) (ks : List ℕ) : Type 0 where
  pub assigns : (p k : ℕ) → slice_get ks p ≡ Some k → (x : FlatItem) × ((slice_get items k ≡ Some x) × ((n : ℕ) × (among n (item_nets x) ≡ true)))
