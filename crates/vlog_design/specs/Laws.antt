-- What holds of the checks of a design.
use Rattle.std.specs.Prelude.{ℕ, List}
use Rattle.bit_base.specs.declared.place.Place.{Place}
use Rattle.flat_design.specs.declared.net.Net.{Net}
use Rattle.flat_design.specs.declared.item.FlatItem.{FlatItem}
use Rattle.flat_orders.specs.Orders.{HaveSingleDrivers}
use Rattle.flat_races.specs.Races.{AreBlockingNetsOwn}
use Rattle.flat_checks.specs.Checks.{IsFree}
use Rattle.vlog_tree.specs.declared.fault.VlogCode.{VlogCode}
use Rattle.vlog_tree.specs.declared.fault.VlogFault.TheVariants.{At}
use Rattle.vlog_design.specs.Refusals.{IsAccepted, IsRefused}

-- a design that is accepted isn't refused
abbrev pub AcceptedIsNotRefused : Type 0
AcceptedIsNotRefused = (nets : List Net) (items : List FlatItem) (code : VlogCode) (place : Place) (names : List (List ℕ)) (path : List ℕ) → IsAccepted nets items → IsRefused nets items (At code place names path) → ⊥

-- in a design without offences a net that a clocked process assigns by `=` is read by no other item and is no output
abbrev pub FreeKeepsBlockingNets : Type 0
FreeKeepsBlockingNets = (nets : List Net) (items : List FlatItem) → IsFree nets items → AreBlockingNetsOwn nets items

-- and each bit has one driver at most
abbrev pub FreeHasSingleDrivers : Type 0
FreeHasSingleDrivers = (nets : List Net) (items : List FlatItem) → IsFree nets items → HaveSingleDrivers nets items
