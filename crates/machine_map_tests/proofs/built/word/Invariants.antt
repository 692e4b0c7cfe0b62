use Rattle.std.proofs.Common.{◌≡◌, ◌+◌, length}
use Rattle.gate_graph.specs.Gates.{AreOf, Keeps}
use Rattle.machine_map_tests.proofs.built.word.Given as goal

abbrev pub invariant-loop-i : goal.invariant-loop-i
invariant-loop-i l = record {
  of : AreOf l.wires.items l.graph;
  size : length l.wires.items ≡ l.i;
  grown : length l.graph ≡ length l.fn.graph + l.i;
  keeps : Keeps l.fn.graph l.graph;
}
