use Rattle.std.proofs.Common.{◌≡◌, ◌++◌, drop}
use Rattle.trace_replay.specs.Joint.{wires_from}
use Rattle.trace_replay.specs.Trace.{choices_of, edges_from, joint_edges, lists_of}
use Rattle.trace_replay.proofs.trace.trace_of.Given as goal

-- the edges so far, and then those of the other inputs, are those of the run
abbrev pub invariant-loop-input : goal.invariant-loop-input
invariant-loop-input l =
    lists_of l.edges.items ++ edges_from l.block l.state (wires_from l.block l.state (choices_of (drop l.input-index l.inputs))) ≡ joint_edges l.block l.start_bits l.inputs
