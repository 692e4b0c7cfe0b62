use Rattle.std.proofs.Common.{◌≡◌, ◌+◌, ◌++◌, map, take, drop}
use Rattle.std.specs.List.{sum_by}
use Rattle.word_gates.specs.Graphs.{off, on}
use Rattle.latch_order.specs.Latches.{latch_bits, all_stored}
use Rattle.latch_order.specs.Wires.{stored_wires}
use Rattle.latch_order.proofs.latches.state_gates.Given as goal

abbrev pub invariant-loop-n : goal.invariant-loop-n
invariant-loop-n l = record {
  start : l.start ≡ sum_by latch_bits (take l.n l.fields);
  stored : map stored_wires l.states.items ++ all_stored off on (drop l.n l.fields) (drop l.start l.latches) ≡ all_stored off on l.fields l.latches;
}
