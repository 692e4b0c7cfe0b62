-- Designs that are accepted, and what the others are refused for: of 211, 207, 210, 209, 208 and 213 the first that is due, at its
-- least place, with the nets that it is about. The clock counts as marked.
use Rattle.std.specs.Prelude.{◌≡◌, ℕ, true, List, [], ◌∷◌, map}
use Rattle.bit_base.specs.declared.place.Place.{Place}
use Rattle.flat_design.specs.declared.net.Net.{Net}
use Rattle.flat_design.specs.declared.item.FlatItem.{FlatItem}
use Rattle.flat_design.specs.Bits.{net_at}
use Rattle.flat_offences.specs.declared.offence.Offence.{Offence}
use Rattle.flat_offences.specs.Offences.{IsFirstOffence}
use Rattle.flat_driven.specs.Driven.{HaveDrivers, IsDriverOffence}
use Rattle.flat_races.specs.Races.{Races}
use Rattle.flat_latched.specs.Latched.{IsFirstLatch}
use Rattle.flat_loads.specs.Sizes.{is_too_large}
use Rattle.flat_clocks.specs.Offences.{IsClockOffence, HasNoClockOffence}
use Rattle.flat_checks.specs.declared.cycle.ItemCycle.{ItemCycle}
use Rattle.flat_checks.specs.Cycles.{IsShownCycle}
use Rattle.flat_checks.specs.Checks.{HaveNoRaces, HaveNoLatches, HaveNoCycles, IsFree}
use Rattle.vlog_tree.specs.declared.fault.VlogFault.{VlogFault}
use Rattle.vlog_tree.specs.declared.fault.VlogFault.TheVariants.{NoMemory, At}
use Rattle.vlog_tree.specs.declared.fault.VlogCode.TheVariants.{VlogClock, VlogDrive, VlogRace, VlogLatch, VlogLoop, VlogSize}
use Rattle.vlog_design.specs.Clocks.{AreMarked}

-- the names of nets are their paths
abbrev pub net_name : List Net → ℕ → List ℕ
net_name nets n = (net_at nets n).path

abbrev pub net_names : List Net → List ℕ → List (List ℕ)
net_names nets ns = map (net_name nets) ns

-- a fault at the place of an offence that carries the net of it
pub record IsAbout (nets : List Net) (o : Offence) (place : Place) (names : List (List ℕ)) : Type 0 where
  pub at : place ≡ o.place
  pub named : names ≡ net_name nets o.net ∷ []

-- a fault about a cycle of items
pub record IsOfCycle (nets : List Net) (c : ItemCycle) (place : Place) (names : List (List ℕ)) : Type 0 where
  pub at : place ≡ c.place
  pub named : names ≡ net_names nets c.nets.items

-- a fault that is about the whole design
pub record IsOfAll (place : Place) (names : List (List ℕ)) : Type 0 where
  pub at : place ≡ record { file = 0; line = 0; column = 0 }
  pub named : names ≡ []

-- none of the offences up to these
pub record PassesDrivers (nets : List Net) (items : List FlatItem) : Type 0 where
  pub clocks : HasNoClockOffence nets items
  pub drivers : HaveDrivers nets items

pub record PassesRaces (nets : List Net) (items : List FlatItem) : Type 0 where
  pub before : PassesDrivers nets items
  pub races : HaveNoRaces nets items

pub record PassesLatches (nets : List Net) (items : List FlatItem) : Type 0 where
  pub before : PassesRaces nets items
  pub latches : HaveNoLatches nets items

pub record PassesLoops (nets : List Net) (items : List FlatItem) : Type 0 where
  pub before : PassesLatches nets items
  pub cycles : HaveNoCycles nets items

-- what the nets, whose clock is marked, and the items are refused for
abbrev pub Refuses : List Net → List FlatItem → VlogFault → Type 0
Refuses nets items NoMemory = Unit {0}
Refuses nets items (At VlogClock place names path) = (o : Offence) × (IsClockOffence nets items o × (IsAbout nets o place names × (path ≡ [])))
Refuses nets items (At VlogDrive place names path) = HasNoClockOffence nets items × ((o : Offence) × (IsDriverOffence nets items o × (IsAbout nets o place names × (path ≡ []))))
Refuses nets items (At VlogRace place names path) = PassesDrivers nets items × ((o : Offence) × (IsFirstOffence items (Races nets items) o × (IsAbout nets o place names × (path ≡ []))))
Refuses nets items (At VlogLatch place names path) = PassesRaces nets items × ((o : Offence) × (IsFirstLatch nets items o path × IsAbout nets o place names))
Refuses nets items (At VlogLoop place names path) = PassesLatches nets items × ((c : ItemCycle) × (IsShownCycle nets items c × (IsOfCycle nets c place names × (path ≡ []))))
Refuses nets items (At VlogSize place names path) = PassesLoops nets items × ((is_too_large nets items ≡ true) × (IsOfAll place names × (path ≡ [])))
Refuses nets items (At _ place names path) = ⊥

-- none of these offences
pub record IsFine (nets : List Net) (items : List FlatItem) : Type 0 where
  pub clocks : HasNoClockOffence nets items
  pub free : IsFree nets items

-- of nets whose clock isn't marked yet
pub record IsAccepted (nets : List Net) (items : List FlatItem) : Type 0 where
  pub marked : List Net
  pub are : AreMarked nets items marked
  pub fine : IsFine marked items

abbrev pub IsRefused : List Net → List FlatItem → VlogFault → Type 0
IsRefused nets items NoMemory = Unit {0}
IsRefused nets items (At code place names path) = (marked : List Net) × (AreMarked nets items marked × Refuses marked items (At code place names path))
