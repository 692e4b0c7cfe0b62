-- Traces (this project's own): the register's bits before the first edge, and at each edge the bits of
-- the inputs in the order of the ports, each least first.
use Rattle.std.specs.Prelude.{◌≡◌, ℕ, ⊤, length, Bool, false, Option, List, [], ◌∷◌, ◌++◌, map, slice_index_or}
use Rattle.std.specs.declared.vec.Vec.{Vec}
use Rattle.std.specs.declared.alloc.Global.{Global}
use Rattle.bit_base.specs.Numbers.{low_bits, number_of, sliced}
use Rattle.apb_rules.specs.declared.wires.BusWires.{BusWires}
use Rattle.apb_rules.specs.declared.wires.Choice.{Choice}
use Rattle.trace_replay.specs.Blocks.{FlatBlock}
use Rattle.trace_replay.specs.declared.input.JointInput.{JointInput}
use Rattle.trace_replay.specs.declared.input.TheConstants.{INPUT_BITS}
use Rattle.trace_replay.specs.declared.joint.Difference.{Difference}
use Rattle.trace_replay.specs.States.{JointParts}
use Rattle.trace_replay.specs.declared.pins.Pins.{Pins}
use Rattle.trace_replay.specs.Joint.{pins_of, start_of, state_after, wires_from, first_difference}

-- the lists in a list of vectors
abbrev pub lists_of : List (Vec Bool Global) → List (List Bool)
lists_of vectors = map (λ v. v.items) vectors

-- the inputs at an edge: the reset pin, PSEL, PENABLE, PWRITE, two bits of PADDR, eight of PWDATA
abbrev pub edge_bits : Pins → List Bool
edge_bits pins =
    (pins.reset_n ∷ pins.bus.select ∷ pins.bus.enable ∷ pins.bus.write ∷ []) ++ low_bits 2 pins.bus.address ++ low_bits 8 pins.bus.payload

-- those of each edge of a run
abbrev pub edges_from : FlatBlock → JointParts → List BusWires → List (List Bool)
edges_from block state [] = []
edges_from block state (wires ∷ more) = edge_bits (pins_of state wires) ∷ edges_from block (state_after block state wires) more

-- each edge has the bits of all inputs
abbrev pub HasAllInputs : List (List Bool) → Type 0
HasAllInputs [] = ⊤
HasAllInputs (edge ∷ edges) = (length edge ≡ INPUT_BITS) × HasAllInputs edges

-- what the bits of an edge are on the reset pin and on the bus, which has neither PSTRB nor PPROT
abbrev pub edge_reset : List Bool → Bool
edge_reset bits = slice_index_or bits 0 false

abbrev pub edge_wires : List Bool → BusWires
edge_wires bits = record {
  select = slice_index_or bits 1 false;
  enable = slice_index_or bits 2 false;
  write = slice_index_or bits 3 false;
  address = number_of (sliced 4 2 bits);
  payload = number_of (sliced 6 8 bits);
  strobe = 1;
  prot = 0;
}

-- the first difference of the joint run that a trace gives
unfoldable pub trace_difference : FlatBlock → List Bool → List (List Bool) → Option (ℕ × Difference)
trace_difference block start edges = first_difference block (number_of start) (map edge_wires edges)

-- the edges of the joint run of these registers and inputs
abbrev pub choices_of : List JointInput → List Choice
choices_of inputs = map (λ input. input.choice) inputs

unfoldable pub joint_edges : FlatBlock → List Bool → List JointInput → List (List Bool)
joint_edges block start inputs =
    edges_from block (start_of block (number_of start)) (wires_from block (start_of block (number_of start)) (choices_of inputs))
