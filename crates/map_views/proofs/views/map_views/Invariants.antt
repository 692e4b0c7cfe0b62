use Rattle.std.proofs.Common.{◌≡◌, ℕ, ◌*◌, List, length, map, take, slice_get, Some}
use Rattle.std.specs.List.{sum_by}
use Rattle.field_policies.specs.declared.field.Field.{Field}
use Rattle.gate_graph.specs.Gates.{Extends}
use Rattle.expr_gates.specs.declared.view.FieldView.{FieldView}
use Rattle.latch_order.specs.declared.latches.StateGates.{StateGates}
use Rattle.field_edges.specs.Made.{words_of, views_of, each_made}
use Rattle.map_views.specs.Views.{IsShown, stores_of, pairs_of, view_made}
use Rattle.map_views.proofs.views.map_views.Given as goal

abbrev pub invariant-loop-n : goal.invariant-loop-n
invariant-loop-n l = record {
  size : length l.views.items ≡ l.n;
  extends : Extends l.fn.graph l.graph (5 * sum_by (λ f. f.width) (take l.n l.map.fields.items));
  made : (n : ℕ) (g : FieldView) → slice_get l.views.items n ≡ Some g → (f : Field) → slice_get l.map.fields.items n ≡ Some f → (s : StateGates) → slice_get l.states n ≡ Some s → IsShown l.graph f s l.hw g;
  exact : each_made (view_made (words_of l.hw)) l.fn.graph (take l.n (pairs_of l.map.fields.items (stores_of l.states))) ≡ (views_of l.views.items, l.graph);
}
