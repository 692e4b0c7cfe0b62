use Rattle.std.proofs.Common.{◌≡◌, take}
use Rattle.bit_base.specs.Numbers.{number_of}
use Rattle.trace_replay.specs.Joint.{start_of}
use Rattle.trace_replay.specs.Trace.{lists_of}
use Rattle.trace_replay.proofs.AllowedLemmas.{AllowedFrom, state_over}
use Rattle.trace_replay.proofs.replay.first_forbidden.Given as goal

-- the edges before this one are allowed, and the state is the one that they leave
abbrev pub invariant-loop-edge : goal.invariant-loop-edge
invariant-loop-edge l = record {
  allowed : AllowedFrom l.block (start_of l.block (number_of l.trace.start.items)) (take l.edge (lists_of l.trace.edges.items));
  state : l.state ≡ state_over l.block (start_of l.block (number_of l.trace.start.items)) (take l.edge (lists_of l.trace.edges.items));
}
