use Rattle.std.proofs.Common.{◌≡◌, ◌++◌, drop}
use Rattle.trace_replay.specs.Joint.{wires_from}
use Rattle.trace_replay.proofs.joint.run_wires.Given as goal

-- the wires so far, and then those of the rest, are those of the whole run
abbrev pub invariant-loop-choice : goal.invariant-loop-choice
invariant-loop-choice l =
    l.run.items ++ wires_from l.block l.state (drop l.choice-index l.choices) ≡ wires_from l.block l.fn.start l.choices
