-- Orders of the items that no clock starts: each after all that drive what it reads.
use Rattle.std.specs.Prelude.{◌≡◌, ◌<◌, ℕ, Bool, true, false, List, [], ◌∷◌, Option, Some, None, ◌==◌, slice_get}
use Rattle.std.specs.List.{list_any}
use Rattle.flat_design.specs.declared.net.Net.{Net}
use Rattle.flat_design.specs.declared.item.FlatItem.{FlatItem}
use Rattle.flat_design.specs.Bits.{Values}
use Rattle.flat_design.specs.Systems.{IsUnclocked, item_flow, is_clocked, after_item}

-- no bit that an item drives without a clock stays unassigned on some path
pub record HaveNoLatch (nets : List Net) (items : List FlatItem) : Type 0 where
  pub complete : (k : ℕ) (x : FlatItem) (i : ℕ) → IsUnclocked items k x → (item_flow nets x).drives i ≡ true → (item_flow nets x).leaves i ≡ false

-- no bit has two drivers
pub record HaveSingleDrivers (nets : List Net) (items : List FlatItem) : Type 0 where
  pub single : (k j : ℕ) (x y : FlatItem) (i : ℕ) → slice_get items k ≡ Some x → slice_get items j ≡ Some y → (item_flow nets x).drives i ≡ true → (item_flow nets y).drives i ≡ true → k ≡ j

-- the number stands in the list
abbrev pub among : ℕ → List ℕ → Bool
among k ks = list_any (λ j. j == k) ks

-- the order has each item that no clock starts, no other, and each once, each after all that drive what it reads
pub record IsOrder (nets : List Net) (items : List FlatItem) (order : List ℕ) : Type 0 where
  pub covers : (k : ℕ) (x : FlatItem) → IsUnclocked items k x → among k order ≡ true
  pub only : (p k : ℕ) (x : FlatItem) → slice_get order p ≡ Some k → slice_get items k ≡ Some x → is_clocked x ≡ false
  pub once : (p q k : ℕ) → slice_get order p ≡ Some k → slice_get order q ≡ Some k → p ≡ q
  pub after : (p q k j : ℕ) (x y : FlatItem) (i : ℕ) → slice_get order p ≡ Some k → slice_get order q ≡ Some j → slice_get items k ≡ Some x → slice_get items j ≡ Some y
      → (item_flow nets x).reads i ≡ true → (item_flow nets y).drives i ≡ true → q < p

-- the values after the item of a number has run; nothing changes where there is none
abbrev pub after_found : List Net → Option FlatItem → Values → Values
after_found nets None v = v
after_found nets (Some x) v = after_item nets x v

-- the values after the items of an order, each once
abbrev pub after_order : List Net → List FlatItem → List ℕ → Values → Values
after_order nets items [] v = v
after_order nets items (k ∷ order) v = after_order nets items order (after_found nets (slice_get items k) v)
