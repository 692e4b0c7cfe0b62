-- A master that is driven by choices, over a whole list of edges.
use Rattle.std.specs.Prelude.{ℕ, zero, suc, Bool, false, List, [], ◌∷◌, ◌<◌, ◌^◌}
use Rattle.apb_rules.specs.declared.style.BusStyle.{BusStyle}
use Rattle.apb_rules.specs.declared.wires.BusWires.{BusWires}
use Rattle.apb_rules.specs.declared.wires.Choice.{Choice}
use Rattle.apb_rules.specs.declared.phase.Phase.{Phase}
use Rattle.apb_rules.specs.Phases.{phase_after}
use Rattle.apb_rules.specs.Drive.{driven}
use Rattle.apb_rules.specs.Master.{BusEdge}

-- what decides one edge: the master's choice, and PREADY, which is the block's
pub record Move : Type 0 where
  pub choice : Choice
  pub ready : Bool

-- the choice has one strobe bit for each byte and three bits of protection
pub record FitsBus (bytes : ℕ) (choice : Choice) : Type 0 where
  pub strobe_fits : choice.strobe < 2 ^ bytes
  pub prot_fits : choice.prot < 8

-- the choice of these very wires, with a start where they select
abbrev pub choice_of : BusWires → Choice
choice_of wires = record {
  start = wires.select;
  enable = wires.enable;
  write = wires.write;
  address = wires.address;
  payload = wires.payload;
  strobe = wires.strobe;
  prot = wires.prot;
}

abbrev pub move_of : BusEdge → Move
move_of edge = record { choice = choice_of edge.wires; ready = edge.ready }

-- the first moves start no transfer, since the block is reset there
abbrev pub calm : ℕ → List Move → List Move
calm zero moves = moves
calm (suc resets) [] = []
calm (suc resets) (move ∷ moves) =
    record { choice = record move.choice { start = false }; ready = move.ready } ∷ calm resets moves

-- the edges that these moves drive, from this phase on
abbrev pub edges_of : BusStyle → ℕ → Phase → List Move → List BusEdge
edges_of style bytes phase [] = []
edges_of style bytes phase (move ∷ moves) =
    let wires = driven style bytes phase move.choice in
    record { wires = wires; ready = move.ready } ∷ edges_of style bytes (phase_after phase wires move.ready) moves
