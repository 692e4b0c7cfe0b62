-- Which items feed on which, by a table of drivers.
use Rattle.std.specs.Prelude.{◌≡◌, ◌<◌, ℕ, true, false, List, Option, Some, None, slice_index_or, length}
use Rattle.flat_design.specs.declared.net.Net.{Net}
use Rattle.flat_design.specs.declared.item.FlatItem.{FlatItem}
use Rattle.flat_design.specs.Systems.{IsUnclocked, is_clocked, item_flow}
use Rattle.flat_orders.specs.Orders.{among}
use Rattle.flat_orders.specs.Cycles.{Feeds}
use Rattle.flat_loops.specs.Graphs.{Graph, leads}

abbrev pub driver_at : List (Option ℕ) → ℕ → Option ℕ
driver_at table i = slice_index_or table i None

-- the item of a number, which no clock starts, drives the bit
pub record IsDriver (nets : List Net) (items : List FlatItem) (k i : ℕ) : Type 0 where
  pub item : FlatItem
  pub is : IsUnclocked items k item
  pub drives : (item_flow nets item).drives i ≡ true

-- the table has the drivers of a number below a bound, and no other
pub record AreDrivers (nets : List Net) (items : List FlatItem) (bound : ℕ) (table : List (Option ℕ)) : Type 0 where
  pub found : (i k : ℕ) → driver_at table i ≡ Some k → IsDriver nets items k i
  pub all : (i k : ℕ) → k < bound → IsDriver nets items k i → driver_at table i ≡ Some k

-- a bit of a list, and the driver of it
pub record IsPassed (table : List (Option ℕ)) (bits : List ℕ) (k : ℕ) : Type 0 where
  pub bit : ℕ
  pub there : among bit bits ≡ true
  pub driver : driver_at table bit ≡ Some k

-- the drivers of the bits of a list
pub record ArePassed (table : List (Option ℕ)) (bits feeds : List ℕ) : Type 0 where
  pub found : (k : ℕ) → among k feeds ≡ true → IsPassed table bits k
  pub all : (k : ℕ) → IsPassed table bits k → among k feeds ≡ true

-- the drivers of the bits that an item without a clock reads; none where a clock starts it
pub record IsRowOf (nets : List Net) (x : FlatItem) (table : List (Option ℕ)) (row : List ℕ) : Type 0 where
  pub found : (j : ℕ) → among j row ≡ true → (is_clocked x ≡ false) × ((i : ℕ) × (((item_flow nets x).reads i ≡ true) × (driver_at table i ≡ Some j)))
  pub all : (i j : ℕ) → is_clocked x ≡ false → (item_flow nets x).reads i ≡ true → driver_at table i ≡ Some j → among j row ≡ true

-- a node for each item, which leads to those on which the item feeds
pub record AreFeeds (nets : List Net) (items : List FlatItem) (bound : ℕ) (graph : Graph) : Type 0 where
  pub found : (k j : ℕ) → leads graph k j ≡ true → Feeds nets items k j
  pub all : (k j : ℕ) → k < bound → Feeds nets items k j → leads graph k j ≡ true

pub record IsGraphOf (nets : List Net) (items : List FlatItem) (graph : Graph) : Type 0 where
  pub nodes : length graph ≡ length items
  pub feeds : AreFeeds nets items (length items) graph

-- the numbers of the items that no clock starts
pub record AreUnclocked (items : List FlatItem) (numbers : List ℕ) : Type 0 where
  pub found : (k : ℕ) → among k numbers ≡ true → (x : FlatItem) × IsUnclocked items k x
  pub all : (k : ℕ) (x : FlatItem) → IsUnclocked items k x → among k numbers ≡ true
