use Rattle.std.proofs.Common.{◌≡◌, ℕ, ◌*◌, Bool, List, length}
use Rattle.std.specs.declared.vec.Vec.{Vec}
use Rattle.std.specs.declared.alloc.Global.{Global}
use Rattle.gate_graph.specs.declared.wires.Wire.{Wire}
use Rattle.gate_graph.specs.Gates.{Extends, AreOf}
use Rattle.reg_machine.specs.Steps.{Edge}
use Rattle.word_gates.specs.Words.{Shows}
use Rattle.answer_gates.specs.Laws.{hidden_below}
use Rattle.event_gates.specs.declared.hits.EventGates.{EventGates}
use Rattle.expr_gates.specs.declared.view.FieldView.{FieldView}
use Rattle.map_edges.specs.Edges.{SeesMap}
use Rattle.map_answers.specs.Answers.{known_at}
use Rattle.map_answers.proofs.counts.hidden_all.Given as goal

abbrev pub invariant-loop-n : goal.invariant-loop-n
invariant-loop-n l = record {
  size : length l.word.items ≡ l.map.bus_width;
  of : AreOf l.word.items l.graph;
  extends : Extends l.fn.graph l.graph (l.n * 33);
  hidden : (e : (ℕ → Bool) → Edge) (event : EventGates) (payload : List Wire) (views : List FieldView) (hw : List (Vec Wire Global)) → SeesMap l.fn.graph l.map event payload l.hits views hw e
      → Shows l.graph l.word.items (λ v. hidden_below (e v) (known_at v l.states) l.map.bus_width l.n);
}
