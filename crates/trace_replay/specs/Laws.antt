-- Laws of traces and their first differences.
use Rattle.std.specs.Prelude.{◌≡◌, ℕ, ◌+◌, ◌<◌, ◌≤◌, Bool, Option, Some, List, length, take}
use Rattle.std.specs.List.{All}
use Rattle.bit_base.specs.Numbers.{low_bits}
use Rattle.apb_rules.specs.declared.wires.Choice.{Choice}
use Rattle.trace_replay.specs.Blocks.{FlatBlock}
use Rattle.trace_replay.specs.declared.joint.Difference.{Difference}
use Rattle.trace_replay.specs.declared.trace.TheConstants.{START_BITS, EDGE_LIMIT}
use Rattle.trace_replay.specs.Joint.{start_of, wires_from, first_difference}
use Rattle.trace_replay.specs.LegalTrace.{FitsPins, IsLegalTrace}
use Rattle.trace_replay.specs.Reading.{IsRefusedAt}
use Rattle.trace_replay.specs.Trace.{edges_from, trace_difference}
use Rattle.trace_replay.specs.TraceText.{trace_text}
use Rattle.trace_replay.specs.declared.fault.TraceCode.{TraceCode}

-- a legal trace, cut after the edge of its first difference, is legal, and has that difference at its last
-- edge
pub record EndsThere (block : FlatBlock) (start : List Bool) (edges : List (List Bool)) (edge : ℕ) (difference : Difference) : Type 0 where
  pub legal : IsLegalTrace block start edges
  pub last : length edges ≡ edge + 1
  pub first : trace_difference block start edges ≡ Some (edge, difference)

abbrev pub CutAtFirst : Type 0
CutAtFirst = (block : FlatBlock) (start : List Bool) (edges : List (List Bool)) (edge : ℕ) (difference : Difference)
    → IsLegalTrace block start edges → trace_difference block start edges ≡ Some (edge, difference)
    → EndsThere block start (take (edge + 1) edges) edge difference

-- so is the trace of a joint run under these choices, cut after the edge of its first difference
abbrev pub RunEndsThere : Type 0
RunEndsThere = (block : FlatBlock) (register : ℕ) (choices : List Choice) (edge : ℕ) (difference : Difference)
    → register < 256 → length choices ≤ EDGE_LIMIT → All FitsPins choices
    → first_difference block register (wires_from block (start_of block register) choices) ≡ Some (edge, difference)
    → EndsThere block (low_bits START_BITS register)
    (edges_from block (start_of block register) (take (edge + 1) (wires_from block (start_of block register) choices))) edge difference

-- a text is that of at most one trace of a block; that of a legal one isn't refused; and it is refused for
-- one reason, at one line
pub record OneReading : Type 0 where
  pub one_trace : (block : FlatBlock) (bytes : List ℕ) (s t : List Bool) (a b : List (List Bool)) → IsLegalTrace block s a → IsLegalTrace block t b
      → bytes ≡ trace_text s a → bytes ≡ trace_text t b → (s ≡ t) × (a ≡ b)
  pub legal_or_refused : (block : FlatBlock) (bytes : List ℕ) (start : List Bool) (edges : List (List Bool)) (code : TraceCode) (line : ℕ)
      → IsLegalTrace block start edges → bytes ≡ trace_text start edges → IsRefusedAt block bytes code line → ⊥
  pub one_refusal : (block : FlatBlock) (bytes : List ℕ) (code other : TraceCode) (line at : ℕ) → IsRefusedAt block bytes code line → IsRefusedAt block bytes other at
      → (code ≡ other) × (line ≡ at)
