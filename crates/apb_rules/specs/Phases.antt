-- The phase of the bus (AMBA APB, operating states: a setup phase leads to an access phase, which
-- lasts until PREADY is 1).
use Rattle.std.specs.Prelude.{Bool, if◌then◌else◌}
use Rattle.apb_rules.specs.declared.wires.BusWires.{BusWires}
use Rattle.apb_rules.specs.declared.phase.Held.{Held}
use Rattle.apb_rules.specs.declared.phase.Phase.{Phase}
use Rattle.apb_rules.specs.declared.phase.Phase.TheVariants.{Free, Access}

-- what an edge drives that its transfer holds
abbrev pub held_of : BusWires → Held
held_of wires = record {
  write = wires.write;
  address = wires.address;
  payload = wires.payload;
  strobe = wires.strobe;
  prot = wires.prot;
}

-- the phase after an edge with these wires and this PREADY
abbrev pub phase_after : Phase → BusWires → Bool → Phase
phase_after Free wires ready = if wires.select then Access (held_of wires) else Free
phase_after (Access held) wires ready = if ready then Free else Access held
