use Rattle.std.proofs.Common.{◌≡◌, map, take}
use Rattle.trace_replay.specs.Trace.{edge_wires, lists_of}
use Rattle.trace_replay.proofs.replay.trace_wires.Given as goal

-- the wires of the edges before this one
abbrev pub invariant-loop-edge : goal.invariant-loop-edge
invariant-loop-edge l = l.wires.items ≡ map edge_wires (lists_of (take l.edge-index l.edges))
