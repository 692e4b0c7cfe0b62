-- The event of an edge (AMBA APB, transfers: a transfer ends at the edge at which PSEL, PENABLE and
-- PREADY are 1).
use Rattle.std.specs.Prelude.{Bool, ◌&&◌, if◌then◌else◌}
use Rattle.apb_rules.specs.declared.wires.BusWires.{BusWires}
use Rattle.apb_rules.specs.declared.event.BusEvent.{BusEvent}
use Rattle.apb_rules.specs.declared.event.BusEvent.TheVariants.{Nothing, Read, Write}

-- what the wires ask for where their transfer ends: PWRITE tells a write from a read
abbrev pub asked : BusWires → BusEvent
asked wires = if wires.write
    then Write wires.address wires.payload wires.strobe
    else Read wires.address

abbrev pub bus_event : BusWires → Bool → BusEvent
bus_event wires ready = if wires.select && wires.enable && ready then asked wires else Nothing
