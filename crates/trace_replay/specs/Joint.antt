-- The joint run: the block's register and the register machine, edge by edge, under one legal master
-- (AMBA APB, operating states and transfers; the reading of the edges is this project's own).
use Rattle.std.specs.Prelude.{ℕ, ◌+◌, ◌==◌, nat_lt, nat_le, min, Bool, true, false, not, ◌&&◌, ◌||◌, if◌then◌else◌, Option, Some, None, List, [], ◌∷◌}
use Rattle.std.specs.Bool.{beq}
use Rattle.apb_rules.specs.Drive.{driven}
use Rattle.apb_rules.specs.Events.{bus_event}
use Rattle.apb_rules.specs.Phases.{phase_after}
use Rattle.apb_rules.specs.declared.event.BusEvent.{BusEvent}
use Rattle.apb_rules.specs.declared.event.BusEvent.TheVariants.{Nothing, Read, Write}
use Rattle.apb_rules.specs.declared.phase.Phase.TheVariants.{Free}
use Rattle.apb_rules.specs.declared.wires.BusWires.{BusWires}
use Rattle.apb_rules.specs.declared.wires.Choice.{Choice}
use Rattle.field_policies.specs.Bits.{bit, any_below}
use Rattle.bit_base.specs.Operators.{differ}
use Rattle.field_policies.specs.declared.signal.OutSignal.TheVariants as out
use Rattle.reg_machine.specs.Machines.{answer_bit, counts_bit, is_unmapped, output_of, always_counts}
use Rattle.reg_machine.specs.States.{State, reset_state, next_state, known_in}
use Rattle.reg_machine.specs.Steps.{Edge}
use Rattle.trace_replay.specs.declared.joint.TheConstants.{RESET_EDGES, WAIT, UNMAPPED_ERROR}
use Rattle.trace_replay.specs.declared.block.Outputs.{Outputs}
use Rattle.trace_replay.specs.declared.joint.Difference.{Difference}
use Rattle.trace_replay.specs.declared.joint.Difference.TheVariants.{Wait, Error, ReadData, Output}
use Rattle.trace_replay.specs.declared.pins.Pins.{Pins}
use Rattle.trace_replay.specs.Blocks.{FlatBlock}
use Rattle.trace_replay.specs.States.{JointParts}
use Rattle.trace_replay.specs.Expression.{expression_value}

-- before the first edge: the block's register holds any number, the machine is in its reset state
abbrev pub start_of : FlatBlock → ℕ → JointParts
start_of block register = record {
  edge = 0;
  register = register;
  machine = reset_state block.fields;
  phase = Free;
  waited = 0;
}

-- the first edges are the reset edges
abbrev pub in_reset : JointParts → Bool
in_reset state = nat_lt state.edge RESET_EDGES

-- the wires of a legal master on a bus of one byte; at a reset edge it starts no transfer
abbrev pub wires_of : JointParts → Choice → BusWires
wires_of state choice = driven (record { strobe = false; prot = false }) 1 state.phase
    (record choice { start = choice.start && not (in_reset state) })

-- the pins of the block: the reset pin is active, at 0, at the reset edges
abbrev pub pins_of : JointParts → BusWires → Pins
pins_of state wires = record { reset_n = not (in_reset state); bus = wires }

-- what the block shows at its pins: PREADY is 1 and PSLVERR is 0 at every edge
abbrev pub outputs_at : FlatBlock → Pins → ℕ → Outputs
outputs_at block pins register = record {
  ready = true;
  error = false;
  read_data = expression_value block.read_data pins register;
  value = register;
}

-- what its register takes at a rising edge
abbrev pub taken_at : FlatBlock → Pins → ℕ → ℕ
taken_at block pins register = expression_value block.next pins register

-- what it shows before an edge of the run
abbrev pub shown_at : FlatBlock → JointParts → BusWires → Outputs
shown_at block state wires = outputs_at block (pins_of state wires) state.register

-- the event of an edge, by the block's own PREADY
abbrev pub event_at : FlatBlock → JointParts → BusWires → BusEvent
event_at block state wires = bus_event wires (shown_at block state wires).ready

-- what the register machine looks at: its map, its values before the edge, and no hardware input
abbrev pub edge_at : FlatBlock → State → BusEvent → Edge
edge_at block machine event = record { view = record { fields = block.fields; values = machine.values; hw = [] }; words = block.words; event = event }

-- an edge of an access phase at which PREADY is 0
abbrev pub is_waiting : BusWires → Outputs → Bool
is_waiting wires shown = wires.select && wires.enable && not shown.ready

-- how many edges the open transfer waited, one above the number that may be at most
abbrev pub waited_after : ℕ → BusWires → Outputs → ℕ
waited_after before wires shown = if is_waiting wires shown then min (before + 1) (WAIT + 1) else 0

-- after an edge; at a reset edge the machine stays in its reset state
abbrev pub state_after : FlatBlock → JointParts → BusWires → JointParts
state_after block state wires = record {
  edge = min (state.edge + 1) RESET_EDGES;
  register = taken_at block (pins_of state wires) state.register;
  machine = if in_reset state then state.machine else next_state (edge_at block state.machine (event_at block state wires)) state.machine;
  phase = if in_reset state then Free else phase_after state.phase wires (shown_at block state wires).ready;
  waited = waited_after state.waited wires (shown_at block state wires);
}

-- the machine refuses the event
abbrev pub machine_error : FlatBlock → BusEvent → Bool
machine_error block event = UNMAPPED_ERROR && is_unmapped event block.words

-- a transfer ends here with a PSLVERR unlike the machine's error
abbrev pub wrong_error : Bool → BusEvent → Outputs → Bool
wrong_error error Nothing shown = false
wrong_error error (Read address) shown = not (beq shown.error error)
wrong_error error (Write address payload strobe) shown = not (beq shown.error error)

-- data of so many bits is unlike a word in a bit that counts
abbrev pub unlike : ℕ → ℕ → (ℕ → Bool) → (ℕ → Bool) → Bool
unlike width shown word counts = any_below width (λ j. counts j && differ (bit shown j) (word j))

abbrev pub is_read : BusEvent → Bool
is_read (Read address) = true
is_read (Write address payload strobe) = false
is_read Nothing = false

-- a read ends here, which the machine doesn't refuse, with a PRDATA unlike its data in a bit that counts
abbrev pub wrong_data : FlatBlock → State → BusEvent → Outputs → Bool
wrong_data block machine event shown = is_read event && not (machine_error block event)
    && unlike block.bus_width shown.read_data (answer_bit (edge_at block machine event) machine.known) (counts_bit (edge_at block machine event) machine.known)

-- the mapped output, the value of the first field, counts, and is unlike the machine's
abbrev pub wrong_output : FlatBlock → State → BusEvent → Outputs → Bool
wrong_output block machine event shown = (always_counts out.Value || known_in machine 0)
    && not (shown.value == output_of (edge_at block machine event) machine.used 0 out.Value)

-- the first difference that holds, in the order of the four, where the transfer has waited too long or not
abbrev pub difference_of : FlatBlock → State → Bool → BusEvent → Outputs → Option Difference
difference_of block machine late event shown =
    if late then Some Wait
    else if wrong_error (machine_error block event) event shown then Some Error
    else if wrong_data block machine event shown then Some ReadData
    else if wrong_output block machine event shown then Some (Output 0)
    else None

-- the difference of an edge; a reset edge has none
abbrev pub difference_at : FlatBlock → JointParts → BusWires → Option Difference
difference_at block state wires =
    if in_reset state then None
    else difference_of block state.machine (is_waiting wires (shown_at block state wires) && nat_le WAIT state.waited) (event_at block state wires) (shown_at block state wires)

-- the wires of a run: each choice drives them in the state that the edges before it left
abbrev pub wires_from : FlatBlock → JointParts → List Choice → List BusWires
wires_from block state [] = []
wires_from block state (choice ∷ choices) =
    wires_of state choice ∷ wires_from block (state_after block state (wires_of state choice)) choices

-- the first edge of a run with a difference, counted from this number on, with that difference
abbrev pub first_or : Option Difference → ℕ → Option (ℕ × Difference) → Option (ℕ × Difference)
first_or (Some difference) edge later = Some (edge, difference)
first_or None edge later = later

abbrev pub first_from : FlatBlock → JointParts → ℕ → List BusWires → Option (ℕ × Difference)
first_from block state edge [] = None
first_from block state edge (wires ∷ more) =
    first_or (difference_at block state wires) edge (first_from block (state_after block state wires) (edge + 1) more)

-- the first difference of the run that starts with this register under these wires
abbrev pub first_difference : FlatBlock → ℕ → List BusWires → Option (ℕ × Difference)
first_difference block register wires = first_from block (start_of block register) 0 wires
