-- The first net in which an item has a latch. No public contract cites it.
use Rattle.std.specs.Prelude.{◌≡◌, ◌≤◌, ℕ, List, Option, Some, None, slice_get}
use Rattle.flat_design.specs.declared.net.Net.{Net}
use Rattle.flat_design.specs.declared.item.FlatItem.{FlatItem}
use Rattle.flat_design.specs.Systems.{place_of}
use Rattle.flat_offences.specs.declared.offence.Offence.{Offence}
use Rattle.flat_latched.specs.declared.item.NetLatch.{NetLatch}
use Rattle.flat_latched.specs.Latched.{LeavesNet}

abbrev pub HasNone : List Net → FlatItem → Type 0
HasNone nets item = (n : ℕ) (path : List ℕ) → LeavesNet nets item n path → ⊥

-- no net before it
abbrev pub IsLeastIn : List Net → FlatItem → ℕ → Type 0
IsLeastIn nets item n = (m : ℕ) (path : List ℕ) → LeavesNet nets item m path → n ≤ m

pub record IsItemLatch (nets : List Net) (item : FlatItem) (l : NetLatch) : Type 0 where
  pub leaves : LeavesNet nets item l.net l.path.items
  pub least : IsLeastIn nets item l.net

abbrev pub IsItemAnswer : List Net → FlatItem → Option NetLatch → Type 0
IsItemAnswer nets item None = HasNone nets item
IsItemAnswer nets item (Some l) = IsItemLatch nets item l

pub record IsItemNet (nets : List Net) (item : FlatItem) (n : ℕ) : Type 0 where
  pub path : List ℕ
  pub leaves : LeavesNet nets item n path
  pub least : IsLeastIn nets item n

-- the net alone
abbrev pub IsNetOf : List Net → FlatItem → Option ℕ → Type 0
IsNetOf nets item None = HasNone nets item
IsNetOf nets item (Some n) = IsItemNet nets item n

-- the item stands at the place of the offence, and its net was found there
pub record IsAt (items : List FlatItem) (found : List (Option ℕ)) (o : Offence) (item : FlatItem) : Type 0 where
  pub number : ℕ
  pub there : slice_get items number ≡ Some item
  pub place : place_of item ≡ o.place
  pub net : slice_get found number ≡ Some (Some o.net)
