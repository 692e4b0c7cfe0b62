use Rattle.std.proofs.Common.{◌≡◌, map, take}
use Rattle.gate_graph.specs.Gates.{wire_value}
use Rattle.gate_graph.specs.Values.{at}
use Rattle.gate_graph.proofs.next.next_values.Given as goal

abbrev pub invariant-loop-latch : goal.invariant-loop-latch
invariant-loop-latch l = l.next.items ≡ map (λ m. wire_value (at l.table) m.next) (take l.latch-index l.latches)
