use Rattle.std.proofs.Common.{◌≡◌, ℕ, Bool, take}
use Rattle.std.specs.List.{list_any, sum_by}
use Rattle.gate_graph.specs.Gates.{Extends, IsOf, Means}
use Rattle.reg_machine.specs.Steps.{View}
use Rattle.reg_machine.specs.Machines.{raises}
use Rattle.word_gates.specs.Graphs.{off, carried}
use Rattle.field_edges.specs.Made.{views_of, words_of}
use Rattle.raise_gates.specs.Raises.{SeesFields, member_gates, raise_step_made}
use Rattle.raise_gates.proofs.raises.raise_wire.Given as goal

abbrev pub invariant-loop-n : goal.invariant-loop-n
invariant-loop-n l = record {
  of : IsOf l.raised l.graph;
  extends : Extends l.fn.graph l.graph (sum_by (member_gates l.map.fields.items) (take l.n l.members));
  wire : (e : (ℕ → Bool) → View) → SeesFields l.fn.graph l.map l.views l.hw e → Means l.graph l.raised (λ v. list_any (raises (e v)) (take l.n l.members));
  exact : carried (raise_step_made l.map.fields.items (views_of l.views) (words_of l.hw)) l.fn.graph off (take l.n l.members) ≡ (l.raised, l.graph);
}
