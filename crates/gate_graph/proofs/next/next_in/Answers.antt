use Rattle.std.proofs.Common.{map, ap, ◌∙◌}
use Rattle.gate_graph.specs.declared.parts.Latch.{Latch}
use Rattle.gate_graph.specs.Gates.{wire_value}
use Rattle.gate_graph.specs.Values.{at}
use Rattle.gate_graph.proofs.NextLemmas.{next_by_values}
use Rattle.gate_graph.proofs.next.next_in.Goals as goal

pub returns : goal.returns
returns c =
    c.in_ok-next.ensures
    ∙ (ap (map (λ (l : Latch). wire_value (at c.eval.new.table) l.next)) c.as_slice.ensures.value
    ∙ next_by_values c.args.circuit.now c.args.state.now c.args.inputs.now (at c.eval.new.table) c.eval.ensures.values)
