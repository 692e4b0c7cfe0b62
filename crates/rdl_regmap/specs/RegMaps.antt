-- A register map as the parts that it is made of, and the facts of a valid one.
use Rattle.field_policies.specs.declared.map.RegMap.{RegMap}
use Rattle.field_policies.specs.Maps.{IsBus, AreInWords, AreResets, AreInRange, AreDistinct, HavePaths, AreWide, AreWires, AreCounters, AreInterrupts, AreMembers, IsSmall}
use Rattle.rdl_tree.specs.declared.tree.RdlFile.{RdlFile}
use Rattle.rdl_map.specs.declared.map.Parts.{Parts}
use Rattle.rdl_map.specs.Maps.{IsMapOf}

abbrev pub parts_in : RegMap → Parts
parts_in m = record { bus_width = m.bus_width; words = m.words; fields = m.fields; inputs = m.inputs }

-- the register map of a description
abbrev pub IsRegMapOf : RdlFile → RegMap → Type 0
IsRegMapOf file m = IsMapOf file (parts_in m)

pub record IsValid (m : Parts) : Type 0 where
  pub bus : IsBus m.bus_width m.words.items
  pub in_words : AreInWords m.bus_width m.words.items m.fields.items
  pub fits : AreResets m.fields.items
  pub in_range : AreInRange m.fields.items m.inputs.items
  pub distinct : AreDistinct m.fields.items m.inputs.items
  pub paths : HavePaths m.fields.items
  pub widths : AreWide m.fields.items m.inputs.items
  pub wires : AreWires m.fields.items
  pub counters : AreCounters m.fields.items
  pub interrupts : AreInterrupts m.fields.items
  pub members : AreMembers m.fields.items
  pub small : IsSmall m.words.items m.fields.items
