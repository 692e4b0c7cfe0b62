-- The checks of a design below that of its clock, in their order: drivers (207), races (210), latches (209), cycles (208), size (213).
use Rattle.std.specs.Prelude.{◌≡◌, ℕ, true, false, List, Result, Ok, Err}
use Rattle.flat_design.specs.declared.net.Net.{Net}
use Rattle.flat_design.specs.declared.item.FlatItem.{FlatItem}
use Rattle.flat_design.specs.Prices.{design_cost}
use Rattle.flat_orders.specs.Orders.{IsOrder}
use Rattle.flat_orders.specs.Cycles.{IsCycle}
use Rattle.flat_driven.specs.Driven.{HaveDrivers, IsDriverOffence}
use Rattle.flat_offences.specs.Offences.{IsFirstOffence}
use Rattle.flat_races.specs.Races.{Races}
use Rattle.flat_latched.specs.Latched.{Latches, IsFirstLatch}
use Rattle.flat_loads.specs.Sizes.{is_too_large}
use Rattle.flat_checks.specs.declared.check.Refusal.{Refusal}
use Rattle.flat_checks.specs.declared.check.Refusal.TheVariants as R
use Rattle.flat_checks.specs.declared.check.Passed.{Passed}
use Rattle.flat_checks.specs.Cycles.{IsShownCycle}

abbrev pub HaveNoRaces : List Net → List FlatItem → Type 0
HaveNoRaces nets items = (k n : ℕ) → Races nets items k n → ⊥

abbrev pub HaveNoLatches : List Net → List FlatItem → Type 0
HaveNoLatches nets items = (k n : ℕ) → Latches nets items k n → ⊥

abbrev pub HaveNoCycles : List Net → List FlatItem → Type 0
HaveNoCycles nets items = (ks : List ℕ) → IsCycle nets items ks → ⊥

-- no offence of any of these kinds
pub record IsFree (nets : List Net) (items : List FlatItem) : Type 0 where
  pub drivers : HaveDrivers nets items
  pub races : HaveNoRaces nets items
  pub latches : HaveNoLatches nets items
  pub cycles : HaveNoCycles nets items
  pub size : is_too_large nets items ≡ false

-- a design without offences, with an order of its items that no clock starts, and its cost
pub record IsPassed (nets : List Net) (items : List FlatItem) (p : Passed) : Type 0 where
  pub free : IsFree nets items
  pub order : IsOrder nets items p.order.items
  pub cost : p.cost ≡ design_cost nets items

-- the first offence of the first kind of which the design has one
abbrev pub IsRefusal : List Net → List FlatItem → Refusal → Type 0
IsRefusal nets items (R.Drive o) = IsDriverOffence nets items o
IsRefusal nets items (R.Race o) = HaveDrivers nets items × IsFirstOffence items (Races nets items) o
IsRefusal nets items (R.Latch l) = HaveDrivers nets items × (HaveNoRaces nets items × IsFirstLatch nets items l.offence l.path.items)
IsRefusal nets items (R.Cycle c) = HaveDrivers nets items × (HaveNoRaces nets items × (HaveNoLatches nets items × IsShownCycle nets items c))
IsRefusal nets items R.Size = HaveDrivers nets items × (HaveNoRaces nets items × (HaveNoLatches nets items × (HaveNoCycles nets items × (is_too_large nets items ≡ true))))

abbrev pub IsAnswer : List Net → List FlatItem → Result Passed Refusal → Type 0
IsAnswer nets items (Ok p) = IsPassed nets items p
IsAnswer nets items (Err r) = IsRefusal nets items r
