use Rattle.std.proofs.Common.{List, ◌∙◌, ap, map}
use Rattle.std.proofs.lemmas.Result.{IfOk-weaker}
use Rattle.gate_graph.specs.declared.parts.Latch.{Latch}
use Rattle.gate_graph.specs.Gates.{wire_value}
use Rattle.gate_graph.specs.Runs.{next_state}
use Rattle.invariant_miner.specs.Lanes.{lane, lane_at}
use Rattle.gate_graph.proofs.NextLemmas.{next_by_values}
use Rattle.invariant_miner.proofs.samples.step.Goals as goal

pub returns-clause-lanes : goal.returns-clause-lanes
returns-clause-lanes c = IfOk-weaker c.next_row.result _ _
    (λ next h r lt. h r lt ∙ (ap (λ (ls : List Latch). map (λ l. wire_value (lane_at r c.evaluate.new.table) l.next) ls) c.as_slice.ensures.value
    ∙ (next_by_values c.args.circuit.now (lane r c.args.row.now) (lane r c.draw_inputs.new.inputs) (lane_at r c.evaluate.new.table) (c.evaluate.ensures r lt)
    ∙ ap (next_state c.args.circuit.now (lane r c.args.row.now)) (c.draw_inputs.ensures.lanes r lt))))
    c.next_row.ensures.lanes
