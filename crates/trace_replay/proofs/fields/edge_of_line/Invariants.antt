use Rattle.std.proofs.Common.{◌≡◌, ◌++◌, take, length, codes}
use Rattle.trace_replay.specs.declared.input.TheConstants.{INPUTS}
use Rattle.trace_replay.specs.Inputs.{width_of}
use Rattle.trace_replay.specs.TraceText.{fields_text}
use Rattle.trace_replay.proofs.fields.edge_of_line.Given as goal

-- the inputs before this one are read, and the rest of the line is still there
abbrev pub invariant-loop-input : goal.invariant-loop-input
invariant-loop-input l = record {
  text : l.line ≡ codes "edge" ++ (fields_text (take l.input-index INPUTS) l.bits.items ++ l.rest);
  width : length l.bits.items ≡ width_of (take l.input-index INPUTS);
}
