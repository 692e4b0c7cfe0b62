-- The latch that is answered of a design: a combinational process at the least place of those that have one, and the first net that one
-- at this place assigns and leaves unassigned on a path (IEEE 1364.1-2002, 5.2.2.3).
use Rattle.std.specs.Prelude.{◌≡◌, ℕ, true, List, Some, slice_get}
use Rattle.bit_base.specs.declared.place.Place.{Place}
use Rattle.flat_design.specs.declared.net.Net.{Net}
use Rattle.flat_design.specs.declared.stmt.FlatStmt.{FlatStmt}
use Rattle.flat_design.specs.declared.item.FlatItem.{FlatItem}
use Rattle.flat_design.specs.declared.item.FlatItem.TheVariants as I
use Rattle.flat_design.specs.Bits.{net_at, of_net}
use Rattle.flat_design.specs.Flows.{flow}
use Rattle.flat_paths.specs.Paths.{IsLeaving}
use Rattle.flat_offences.specs.declared.offence.Offence.{Offence}
use Rattle.flat_offences.specs.Offences.{IsFirstOffence}

-- the item, a combinational process, assigns a bit of the net of a number, and the path leaves that bit unassigned
pub record LeavesNet (nets : List Net) (item : FlatItem) (n : ℕ) (path : List ℕ) : Type 0 where
  pub place : Place
  pub targets : List ℕ
  pub body : FlatStmt
  pub is : item ≡ I.Comb place targets body
  pub bit : ℕ
  pub inside : of_net (net_at nets n) bit ≡ true
  pub drives : (flow nets body).drives bit ≡ true
  pub leaves : IsLeaving nets bit body path

-- the item of a number has a latch in the net of a number
pub record Latches (nets : List Net) (items : List FlatItem) (k n : ℕ) : Type 0 where
  pub item : FlatItem
  pub is : slice_get items k ≡ Some item
  pub path : List ℕ
  pub leaves : LeavesNet nets item n path

-- the first latch, with a path of its process
pub record IsFirstLatch (nets : List Net) (items : List FlatItem) (o : Offence) (path : List ℕ) : Type 0 where
  pub first : IsFirstOffence items (Latches nets items) o
  pub path_leaves : LeavesNet nets first.item o.net path
