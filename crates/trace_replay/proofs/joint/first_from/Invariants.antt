use Rattle.std.proofs.Common.{◌≡◌, drop}
use Rattle.trace_replay.specs.Joint.{first_from}
use Rattle.trace_replay.proofs.joint.first_from.Given as goal

-- no edge before this one has a difference
abbrev pub invariant-loop-edge : goal.invariant-loop-edge
invariant-loop-edge l =
    first_from l.block l.state l.edge (drop l.edge l.run) ≡ first_from l.block l.fn.start 0 l.run
