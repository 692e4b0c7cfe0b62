use Rattle.std.proofs.Common.{◌≡◌, ℕ, Bool, List, length, take}
use Rattle.std.specs.List.{sum_by}
use Rattle.gate_graph.specs.declared.wires.Wire.{Wire}
use Rattle.gate_graph.specs.Gates.{Extends, AreOf}
use Rattle.reg_machine.specs.Steps.{Edge}
use Rattle.word_gates.specs.Words.{Shows}
use Rattle.answer_gates.specs.Laws.{shown_below}
use Rattle.event_gates.specs.declared.hits.EventGates.{EventGates}
use Rattle.map_edges.specs.Edges.{SeesMap}
use Rattle.map_answers.specs.Answers.{data_gates_of, known_at}
use Rattle.map_answers.proofs.data.data_word.Given as goal

abbrev pub invariant-loop-n : goal.invariant-loop-n
invariant-loop-n l = record {
  size : length l.word.items ≡ l.map.bus_width;
  of : AreOf l.word.items l.graph;
  extends : Extends l.fn.graph l.graph (sum_by data_gates_of (take l.n l.map.fields.items));
  shown : (e : (ℕ → Bool) → Edge) (event : EventGates) (payload : List Wire) → SeesMap l.fn.graph l.map event payload l.hits l.views l.hw e
      → Shows l.graph l.word.items (λ v. shown_below (e v) (known_at v l.states) l.map.bus_width l.n);
}
