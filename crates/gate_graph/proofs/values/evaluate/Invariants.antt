use Rattle.gate_graph.specs.Values.{at}
use Rattle.gate_graph.proofs.ValueLemmas.{AreDone}
use Rattle.gate_graph.proofs.values.evaluate.Given as goal

abbrev pub invariant-loop-i : goal.invariant-loop-i
invariant-loop-i l = AreDone l.latches l.inputs (at l.table) l.nodes l.i
