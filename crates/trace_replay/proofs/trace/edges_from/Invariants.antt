use Rattle.std.proofs.Common.{◌≡◌, ◌++◌, drop}
use Rattle.trace_replay.specs.Trace.{edges_from, lists_of}
use Rattle.trace_replay.proofs.trace.edges_from.Given as goal

-- the edges so far, and then those of the rest, are those of the whole run
abbrev pub invariant-loop-wires : goal.invariant-loop-wires
invariant-loop-wires l = lists_of l.edges.items ++ edges_from l.block l.state (drop l.wires-index l.run) ≡ edges_from l.block l.fn.start l.run
