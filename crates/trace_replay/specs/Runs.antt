-- A joint run as a whole: what the block's register and the register machine hold before each edge,
-- under the wires of a legal master (AMBA APB, transfers; the machine beside the block is this
-- project's own).
use Rattle.std.specs.Prelude.{◌≡◌, ℕ, ◌+◌, ◌-◌, ◌<◌, ◌≤◌, nat_le, nat_lt, Bool, true, false, ◌&&◌, if◌then◌else◌, Option, Some, None, List, length, map, slice_get}
use Rattle.std.specs.Option.{option_and_then, option_map_or}
use Rattle.std.specs.List.{enumerate_from}
use Rattle.apb_rules.specs.Events.{bus_event}
use Rattle.apb_rules.specs.Master.{BusEdge, IsLegalMaster}
use Rattle.apb_rules.specs.Moves.{Move, calm, edges_of}
use Rattle.apb_rules.specs.declared.event.BusEvent.{BusEvent}
use Rattle.apb_rules.specs.declared.phase.Phase.TheVariants.{Free}
use Rattle.apb_rules.specs.declared.style.BusStyle.{BusStyle}
use Rattle.apb_rules.specs.declared.wires.BusWires.{BusWires}
use Rattle.apb_rules.specs.declared.wires.Choice.{Choice}
use Rattle.field_policies.specs.Bits.{all_below}
use Rattle.reg_machine.specs.States.{State, reset_state, next_state}
use Rattle.trace_replay.specs.declared.joint.TheConstants.{RESET_EDGES, WAIT}
use Rattle.trace_replay.specs.declared.joint.Difference.{Difference}
use Rattle.trace_replay.specs.declared.block.Outputs.{Outputs}
use Rattle.trace_replay.specs.declared.pins.Pins.{Pins}
use Rattle.trace_replay.specs.Blocks.{FlatBlock}
use Rattle.trace_replay.specs.Joint.{outputs_at, taken_at, edge_at, is_waiting, difference_of}

-- a bus without PSTRB and PPROT
abbrev pub plain : BusStyle
plain = record { strobe = false; prot = false }

-- before the edge of each number: the block's register and the machine's state
pub record JointRun : Type 0 where
  pub register : ℕ → ℕ
  pub machine : ℕ → State

module _ (block : FlatBlock) (wires : List BusWires) (run : JointRun) where
  -- at an edge with these wires: the reset pin is active, at 0, at the first edges; what the block
  -- shows there; and the event, by the block's own PREADY
  abbrev pub pins_in : ℕ → BusWires → Pins
  pins_in e w = record { reset_n = nat_le RESET_EDGES e; bus = w }

  abbrev pub shown_in : ℕ → BusWires → Outputs
  shown_in e w = outputs_at block (pins_in e w) (run.register e)

  abbrev pub event_in : ℕ → BusWires → BusEvent
  event_in e w = bus_event w (shown_in e w).ready

  -- the register takes what the block gives it; the machine keeps its reset state up to the end of
  -- the reset edges and steps at each edge after them
  pub record IsJointRun : Type 0 where
    pub taken : (e : ℕ) (w : BusWires) → slice_get wires e ≡ Some w → run.register (e + 1) ≡ taken_at block (pins_in e w) (run.register e)
    pub reset : (e : ℕ) → e ≤ RESET_EDGES → run.machine e ≡ reset_state block.fields
    pub steps : (e : ℕ) (w : BusWires) → RESET_EDGES ≤ e → slice_get wires e ≡ Some w
        → run.machine (e + 1) ≡ next_state (edge_at block (run.machine e) (event_in e w)) (run.machine e)

  -- the wires and PREADY of each edge
  abbrev pub bus_edges : List BusEdge
  bus_edges = map (λ p. record { wires = p.1; ready = (shown_in p.0 p.1).ready }) (enumerate_from 0 wires)

  -- the wires are those of a legal master on a bus of one byte, without strobes and protection
  abbrev pub IsLegalRun : Type 0
  IsLegalRun = IsLegalMaster plain 1 RESET_EDGES bus_edges

  -- the block's own PREADY at an edge, and the moves of these choices with it
  abbrev pub ready_in : ℕ → Bool
  ready_in e = option_map_or (λ w. (shown_in e w).ready) (slice_get wires e) true

  abbrev pub moves_in : List Choice → List Move
  moves_in choices = map (λ p. record { choice = record p.1 { strobe = 0; prot = 0 }; ready = ready_in p.0 }) (enumerate_from 0 choices)

  -- the wires are those that these choices drive, one choice for each edge; none starts a transfer at
  -- a reset edge
  abbrev pub IsDriven : List Choice → Type 0
  IsDriven choices = bus_edges ≡ edges_of plain 1 Free (calm RESET_EDGES (moves_in choices))

  -- PREADY is 0 at an edge of an access phase
  abbrev pub waits_in : ℕ → Bool
  waits_in e = option_map_or (λ w. is_waiting w (shown_in e w)) (slice_get wires e) false

  -- so it was at as many edges before as a transfer may wait: they are of the same transfer
  abbrev pub is_late : ℕ → Bool
  is_late e = waits_in e && (nat_le (RESET_EDGES + WAIT) e && all_below WAIT (λ i. waits_in (e - (i + 1))))

  -- the difference of an edge: the first of the four that holds, and none at a reset edge
  abbrev pub difference_in : ℕ → Option Difference
  difference_in e = option_and_then (λ w. if nat_lt e RESET_EDGES then None else difference_of block (run.machine e) (is_late e) (event_in e w) (shown_in e w)) (slice_get wires e)

  -- an edge with a difference, and none before it has one; or no edge has one
  abbrev pub IsFirst : Option (ℕ × Difference) → Type 0
  IsFirst None = (e : ℕ) → difference_in e ≡ None
  IsFirst (Some found) = (difference_in found.0 ≡ Some found.1) × ((e : ℕ) → e < found.0 → difference_in e ≡ None)

-- two runs that hold the same before each edge and after the last
pub record SameRun (wires : List BusWires) (first second : JointRun) : Type 0 where
  pub registers : (e : ℕ) → e ≤ length wires → first.register e ≡ second.register e
  pub machines : (e : ℕ) → e ≤ length wires → first.machine e ≡ second.machine e

-- some run starts with this register
pub record HasJointRun (block : FlatBlock) (wires : List BusWires) (register : ℕ) : Type 0 where
  pub run : JointRun
  pub is : IsJointRun block wires run
  pub begins : run.register 0 ≡ register
