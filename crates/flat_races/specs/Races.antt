-- Races: what a design comes to would depend on the order in which its processes run (IEEE 1364-2005, 11.5). In the profile a
-- combinational process assigns by `=` alone; a clocked process assigns a net by one of `=` and `<=`; and no other item reads a net that a
-- clocked process assigns by `=`, which is no output (this project's own).
use Rattle.std.specs.Prelude.{◌≡◌, ◌⊎◌, ℕ, true, false, List, Some, slice_get}
use Rattle.bit_base.specs.declared.place.Place.{Place}
use Rattle.flat_design.specs.declared.net.Net.{Net}
use Rattle.flat_design.specs.declared.stmt.FlatStmt.{FlatStmt}
use Rattle.flat_design.specs.declared.item.FlatItem.{FlatItem}
use Rattle.flat_design.specs.declared.item.FlatEvent.{FlatEvent}
use Rattle.flat_design.specs.declared.item.FlatItem.TheVariants as I
use Rattle.flat_design.specs.Bits.{net_at, of_net}
use Rattle.flat_design.specs.Systems.{item_flow}
use Rattle.flat_orders.specs.Orders.{among}
use Rattle.flat_races.specs.Assigns.{blocking_nets, nonblocking_nets}

-- the item of a number reads a bit of the net of a number
pub record ReadsNet (nets : List Net) (items : List FlatItem) (k n : ℕ) : Type 0 where
  pub item : FlatItem
  pub is : slice_get items k ≡ Some item
  pub bit : ℕ
  pub inside : of_net (net_at nets n) bit ≡ true
  pub reads : (item_flow nets item).reads bit ≡ true

-- an item beside that of a number does
pub record IsReadElsewhere (nets : List Net) (items : List FlatItem) (k n : ℕ) : Type 0 where
  pub reader : ℕ
  pub other : reader ≡ k → ⊥
  pub reads : ReadsNet nets items reader n

-- the item of a number races at the net of a number
abbrev pub RacesAt : List Net → List FlatItem → ℕ → FlatItem → ℕ → Type 0
RacesAt nets items k (I.Assign place targets left val connection) n = ⊥
RacesAt nets items k (I.Comb place targets body) n = among n (nonblocking_nets body) ≡ true
RacesAt nets items k (I.Clocked place targets events body) n =
    (among n (blocking_nets body) ≡ true) × ((among n (nonblocking_nets body) ≡ true) ⊎ (IsReadElsewhere nets items k n ⊎ ((net_at nets n).output ≡ true)))

pub record Races (nets : List Net) (items : List FlatItem) (k n : ℕ) : Type 0 where
  pub item : FlatItem
  pub is : slice_get items k ≡ Some item
  pub races : RacesAt nets items k item n

-- a net that a clocked process assigns by `=` is read by no other item and is no output
pub record AreBlockingNetsOwn (nets : List Net) (items : List FlatItem) : Type 0 where
  pub unread : (k n : ℕ) (place : Place) (targets : List ℕ) (events : List FlatEvent) (body : FlatStmt) → slice_get items k ≡ Some (I.Clocked place targets events body) → among n (blocking_nets body) ≡ true → IsReadElsewhere nets items k n → ⊥
  pub no_output : (k n : ℕ) (place : Place) (targets : List ℕ) (events : List FlatEvent) (body : FlatStmt) → slice_get items k ≡ Some (I.Clocked place targets events body) → among n (blocking_nets body) ≡ true → (net_at nets n).output ≡ false
