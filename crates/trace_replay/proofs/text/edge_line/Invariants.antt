use Rattle.std.proofs.Common.{◌≡◌, ◌++◌, drop, length}
use Rattle.trace_replay.specs.declared.input.TheConstants.{INPUTS}
use Rattle.trace_replay.specs.Inputs.{width_of}
use Rattle.trace_replay.specs.TraceText.{fields_text, edge_line}
use Rattle.trace_replay.proofs.text.edge_line.Given as goal

-- the fields so far, and then those of the other inputs, are the line
abbrev pub invariant-loop-input : goal.invariant-loop-input
invariant-loop-input l = record {
  text : l.line.items ++ fields_text (drop l.input-index INPUTS) l.rest ≡ edge_line l.bits;
  width : length l.rest ≡ width_of (drop l.input-index INPUTS);
}
