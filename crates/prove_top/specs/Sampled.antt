-- The sampled run (this project's own): a list of drawn bits, used by index. Bit r is bit r of the
-- register; then each edge has one bit for PSEL's start, PENABLE and PWRITE, two of PADDR and eight of
-- PWDATA, each least first.
use Rattle.std.specs.Prelude.{◌≡◌, ℕ, zero, suc, ◌+◌, ◌*◌, Bool, false, Option, List, [], ◌∷◌, ◌++◌, take, slice_index_or}
use Rattle.bit_base.specs.Numbers.{number_of, sliced, low_bits}
use Rattle.apb_rules.specs.declared.wires.BusWires.{BusWires}
use Rattle.apb_rules.specs.declared.wires.Choice.{Choice}
use Rattle.trace_replay.specs.declared.block.Block.{Block}
use Rattle.trace_replay.specs.declared.joint.Difference.{Difference}
use Rattle.trace_replay.specs.Joint.{start_of, wires_from, first_difference}
use Rattle.trace_replay.specs.Trace.{edges_from}
use Rattle.trace_replay.specs.TraceText.{trace_text}
use Rattle.prove_top.specs.Draws.{drawn_bits}
use Rattle.prove_top.specs.declared.sampled.Run.{Run}
use Rattle.prove_top.specs.declared.sampled.TheConstants.{EDGES, REGISTER_BITS, CHOICE_BITS}

-- the choice of thirteen bits
abbrev pub choice_of : List Bool → Choice
choice_of draw = record {
  start = slice_index_or draw 0 false;
  enable = slice_index_or draw 1 false;
  write = slice_index_or draw 2 false;
  address = number_of (sliced 3 2 draw);
  payload = number_of (sliced 5 8 draw);
  strobe = 0;
  prot = 0;
}

-- the choice of an edge, and those of the first edges, so many
unfoldable pub choice_at : List Bool → ℕ → Choice
choice_at bits edge = choice_of (sliced (REGISTER_BITS + CHOICE_BITS * edge) CHOICE_BITS bits)

unfoldable pub choices_to : List Bool → ℕ → List Choice
choices_to bits zero = []
choices_to bits (suc edge) = choices_to bits edge ++ choice_at bits edge ∷ []

-- all bits that are drawn, the register's start, and the wires of the run
unfoldable pub sample_bits : ℕ → List Bool
sample_bits seed = drawn_bits seed (REGISTER_BITS + CHOICE_BITS * EDGES)

unfoldable pub sampled_register : ℕ → ℕ
sampled_register seed = number_of (take REGISTER_BITS (sample_bits seed))

unfoldable pub sampled_wires : Block → ℕ → List BusWires
sampled_wires block seed = wires_from block (start_of block (sampled_register seed)) (choices_to (sample_bits seed) EDGES)

-- a run that is the sampled one
pub record IsSampled (block : Block) (seed : ℕ) (run : Run) : Type 0 where
  pub register : run.register ≡ sampled_register seed
  pub wires : run.wires.items ≡ sampled_wires block seed

-- its first difference
abbrev pub sampled : Block → ℕ → Option (ℕ × Difference)
sampled block seed = first_difference block (sampled_register seed) (sampled_wires block seed)

-- the text of the trace of a run, and that of the sampled run up to this edge
abbrev pub cut_trace : Block → ℕ → List BusWires → List ℕ
cut_trace block register run = trace_text (low_bits 8 register) (edges_from block (start_of block register) run)

unfoldable pub sampled_trace : Block → ℕ → ℕ → List ℕ
sampled_trace block seed edge = cut_trace block (sampled_register seed) (take (edge + 1) (sampled_wires block seed))
