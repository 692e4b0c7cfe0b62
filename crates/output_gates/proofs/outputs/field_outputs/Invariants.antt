use Rattle.std.proofs.Common.{◌≡◌, ℕ, Bool, [], map, take}
use Rattle.std.specs.List.{filter, sum_by}
use Rattle.field_policies.specs.Expressions.{shows}
use Rattle.gate_graph.specs.Gates.{Extends}
use Rattle.reg_machine.specs.Steps.{Edge}
use Rattle.word_gates.specs.Graphs.{carried}
use Rattle.field_edges.specs.Made.{edge_wires, views_of, words_of}
use Rattle.output_gates.specs.Outputs.{SeesOutputs, ShowsAll, signal_bits, signal_gates, signals, shown_step_made, view_at}
use Rattle.output_gates.proofs.outputs.field_outputs.Given as goal

abbrev pub invariant-loop-signal : goal.invariant-loop-signal
invariant-loop-signal l = record {
  extends : Extends l.fn.graph l.graph (sum_by (signal_gates l.map.fields.items l.field) (take l.signal-index signals));
  words : (e : (ℕ → Bool) → Edge) (u : (ℕ → Bool) → Bool) → SeesOutputs l.fn.graph l.map l.number l.field l.reads l.edge l.views l.hw e u
      → ShowsAll l.graph l.words.items (λ v. map (signal_bits (e v) l.number l.field (u v)) (filter (shows l.field.shown) (take l.signal-index signals)));
  exact : carried (shown_step_made l.map.fields.items l.field l.reads (edge_wires l.edge) (view_at (views_of l.views) l.number) (views_of l.views) (words_of l.hw)) l.fn.graph [] (take l.signal-index signals) ≡ (words_of l.words.items, l.graph);
}
