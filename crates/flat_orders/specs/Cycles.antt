-- Cycles of items that no clock starts, each reading what the next drives, and what excludes them.
use Rattle.std.specs.Prelude.{◌≡◌, ◌≤◌, ◌<◌, ℕ, Bool, true, false, List, [], ◌∷◌, ◌++◌, Some, slice_get}
use Rattle.flat_design.specs.declared.net.Net.{Net}
use Rattle.flat_design.specs.declared.item.FlatItem.{FlatItem}
use Rattle.flat_design.specs.Systems.{IsUnclocked, is_clocked, item_flow}
use Rattle.flat_orders.specs.Orders.{IsOrder, among}

-- the first of two items reads a bit that the second drives
pub record Feeds (nets : List Net) (items : List FlatItem) (k j : ℕ) : Type 0 where
  pub reader : FlatItem
  pub driver : FlatItem
  pub bit : ℕ
  pub is_reader : IsUnclocked items k reader
  pub is_driver : IsUnclocked items j driver
  pub reads : (item_flow nets reader).reads bit ≡ true
  pub drives : (item_flow nets driver).drives bit ≡ true

-- from the first item over these to the last
abbrev pub LeadsTo : List Net → List FlatItem → ℕ → List ℕ → ℕ → Type 0
LeadsTo nets items k [] last = Feeds nets items k last
LeadsTo nets items k (j ∷ js) last = Feeds nets items k j × LeadsTo nets items j js last

-- each item feeds on the next, and the last on the first; an item may feed on itself
abbrev pub IsCycle : List Net → List FlatItem → List ℕ → Type 0
IsCycle nets items [] = ⊥
IsCycle nets items (k ∷ ks) = LeadsTo nets items k ks k

-- no item of the list stands before the first in text order
abbrev pub AllFrom : ℕ → List ℕ → Type 0
AllFrom first [] = Unit {0}
AllFrom first (k ∷ ks) = (first ≤ k) × AllFrom first ks

-- a set of items that has all on which an item of this number or one of the set feeds, among the items from that number on, but not the
-- item itself
pub record IsClosedFrom (nets : List Net) (items : List FlatItem) (first : ℕ) (set : ℕ → Bool) : Type 0 where
  pub start : (j : ℕ) → Feeds nets items first j → first ≤ j → set j ≡ true
  pub step : (k j : ℕ) → set k ≡ true → Feeds nets items k j → first ≤ j → set j ≡ true
  pub out : set first ≡ false

-- a list that has with each item all on which it feeds, before it
pub record IsClosedOrder (nets : List Net) (items : List FlatItem) (order : List ℕ) : Type 0 where
  pub only : (p k : ℕ) (x : FlatItem) → slice_get order p ≡ Some k → slice_get items k ≡ Some x → is_clocked x ≡ false
  pub once : (p q k : ℕ) → slice_get order p ≡ Some k → slice_get order q ≡ Some k → p ≡ q
  pub before : (p k j : ℕ) → slice_get order p ≡ Some k → Feeds nets items k j → (q : ℕ) × ((slice_get order q ≡ Some j) × (q < p))

-- an ordered design has no cycle
abbrev pub OrderExcludesCycle : Type 0
OrderExcludesCycle = (nets : List Net) (items : List FlatItem) (order ks : List ℕ) → IsOrder nets items order → IsCycle nets items ks → ⊥

-- where such a set is closed, no cycle has its first item there
abbrev pub ClosedExcludesCycle : Type 0
ClosedExcludesCycle = (nets : List Net) (items : List FlatItem) (first : ℕ) (ks : List ℕ) (set : ℕ → Bool) → IsClosedFrom nets items first set → AllFrom first ks → IsCycle nets items (first ∷ ks) → ⊥

-- an item all of whose drivers stand in a closed order may stand next in it
abbrev pub OneMore : Type 0
OneMore = (nets : List Net) (items : List FlatItem) (order : List ℕ) (n : ℕ) → IsClosedOrder nets items order → among n order ≡ false → ((x : FlatItem) → slice_get items n ≡ Some x → is_clocked x ≡ false)
    → ((j : ℕ) → Feeds nets items n j → among j order ≡ true) → IsClosedOrder nets items (order ++ n ∷ [])

-- a closed order that has every item without a clock is an order, whoever drives the bits
abbrev pub ClosedIsOrder : Type 0
ClosedIsOrder = (nets : List Net) (items : List FlatItem) (order : List ℕ) → IsClosedOrder nets items order → ((k : ℕ) (x : FlatItem) → IsUnclocked items k x → among k order ≡ true) → IsOrder nets items order
