-- A design that has an order has exactly one settled valuation over each base.
use Rattle.std.specs.Prelude.{◌≡◌, ℕ, List}
use Rattle.flat_design.specs.declared.net.Net.{Net}
use Rattle.flat_design.specs.declared.item.FlatItem.{FlatItem}
use Rattle.flat_design.specs.Bits.{Values}
use Rattle.flat_design.specs.Systems.{IsSettled}
use Rattle.flat_orders.specs.Orders.{HaveNoLatch, HaveSingleDrivers, IsOrder, after_order}

-- running the items in an order settles them
abbrev pub OrderSettles : Type 0
OrderSettles = (nets : List Net) (items : List FlatItem) (order : List ℕ) (base : Values) → HaveNoLatch nets items → HaveSingleDrivers nets items → IsOrder nets items order
    → IsSettled nets items base (after_order nets items order base)

-- and no other valuation is settled
abbrev pub OneSettles : Type 0
OneSettles = (nets : List Net) (items : List FlatItem) (order : List ℕ) (base v : Values) → HaveNoLatch nets items → HaveSingleDrivers nets items → IsOrder nets items order
    → IsSettled nets items base v → (i : ℕ) → v i ≡ after_order nets items order base i

-- so that two orders give the same
abbrev pub SettlesAlike : Type 0
SettlesAlike = (nets : List Net) (items : List FlatItem) (order other : List ℕ) (base : Values) → HaveNoLatch nets items → HaveSingleDrivers nets items → IsOrder nets items order → IsOrder nets items other
    → (i : ℕ) → after_order nets items order base i ≡ after_order nets items other base i
