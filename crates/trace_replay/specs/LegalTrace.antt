-- Which traces are legal for a block (AMBA APB: the wires of a legal master, with the block's own PREADY;
-- the reset and the number of edges are this project's own).
use Rattle.std.specs.Prelude.{◌≡◌, ℕ, ◌+◌, ◌<◌, ◌≤◌, Bool, true, false, List, [], ◌∷◌, length, take, drop}
use Rattle.std.specs.List.{All}
use Rattle.bit_base.specs.Numbers.{number_of}
use Rattle.apb_rules.specs.declared.style.BusStyle.{BusStyle}
use Rattle.apb_rules.specs.declared.wires.Choice.{Choice}
use Rattle.apb_rules.specs.Master.{BusEdge, IsLegalMaster}
use Rattle.trace_replay.specs.Blocks.{FlatBlock}
use Rattle.trace_replay.specs.States.{JointParts}
use Rattle.trace_replay.specs.declared.joint.TheConstants.{RESET_EDGES}
use Rattle.trace_replay.specs.declared.trace.TheConstants.{START_BITS, EDGE_LIMIT}
use Rattle.trace_replay.specs.Joint.{start_of, shown_at, state_after}
use Rattle.trace_replay.specs.Trace.{HasAllInputs, edge_reset, edge_wires}

-- a bus of one byte with neither PSTRB nor PPROT
abbrev pub plain_style : BusStyle
plain_style = record { strobe = false; prot = false }

-- what master and block drive at each edge of a trace, from this state on
abbrev pub bus_edges : FlatBlock → JointParts → List (List Bool) → List BusEdge
bus_edges block state [] = []
bus_edges block state (edge ∷ edges) =
    record { wires = edge_wires edge; ready = (shown_at block state (edge_wires edge)).ready }
    ∷ bus_edges block (state_after block state (edge_wires edge)) edges

-- no edge has forbidden wires: the reset pin is active, at 0, at the reset edges alone, and the bus is a
-- legal master's
pub record IsAllowed (block : FlatBlock) (start : List Bool) (edges : List (List Bool)) : Type 0 where
  pub in_reset : All (λ edge. edge_reset edge ≡ false) (take RESET_EDGES edges)
  pub after_reset : All (λ edge. edge_reset edge ≡ true) (drop RESET_EDGES edges)
  pub master : IsLegalMaster plain_style 1 RESET_EDGES (bus_edges block (start_of block (number_of start)) edges)

-- the first edge with forbidden wires: the edges before it have none
pub record IsFirstForbidden (block : FlatBlock) (start : List Bool) (edges : List (List Bool)) (edge : ℕ) : Type 0 where
  pub inside : edge < length edges
  pub before : IsAllowed block start (take edge edges)
  pub here : IsAllowed block start (take (edge + 1) edges) → ⊥

-- lists of the block's lengths
pub record HasSizes (start : List Bool) (edges : List (List Bool)) : Type 0 where
  pub start_bits : length start ≡ START_BITS
  pub input_bits : HasAllInputs edges
  pub few : length edges ≤ EDGE_LIMIT

pub record IsLegalTrace (block : FlatBlock) (start : List Bool) (edges : List (List Bool)) : Type 0 where
  pub sizes : HasSizes start edges
  pub allowed : IsAllowed block start edges

-- what a master would like to drive, on a bus of one byte and two bits of address
pub record FitsPins (choice : Choice) : Type 0 where
  pub address_fits : choice.address < 4
  pub payload_fits : choice.payload < 256
