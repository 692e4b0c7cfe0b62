use Rattle.std.proofs.Common.{◌≡◌, ◌<◌, Some, [], ◌∷◌, length, get_or, slice_get, ap, arith, length-append}
use Rattle.std.proofs.lemmas.Option.{slice_get-get_or}
use Rattle.std.proofs.lemmas.List.Sums.{sum_by_more, sum_by_more_le}
use Rattle.gate_graph.proofs.GateLemmas.{extends_more}
use Rattle.gate_graph.specs.Gates.{wire_value}
use Rattle.reg_machine.proofs.Views.{got}
use Rattle.field_edges.proofs.GivenLemmas.{given_later}
use Rattle.map_views.proofs.ViewLemmas.{at_index, or_at, all_later}
use Rattle.map_edges.proofs.EdgeLemmas.{sees_later, edges_later, next_later, no_hit}
use Rattle.machine_edge.specs.Edges.{edge_at}
use Rattle.output_gates.specs.Outputs.{output_gates_of}
use Rattle.machine_gates.proofs.MachineLemmas.{sees_outputs, row_is, rows_push}
use Rattle.machine_gates.proofs.outputs.all_outputs.Goals as goal

pub field_outputs-requires-clause-reads_of : goal.field_outputs-requires-clause-reads_of
field_outputs-requires-clause-reads_of c =
    let there : c.field_at-field.result.now.word < length c.args.hits.now = omega (arith, c.field_at-field.ensures.field.there, c.requires.hits_length) in
    let hit = slice_get-get_or c.args.hits.now c.field_at-field.result.now.word no_hit there in
    omega (arith, c.requires.hits.reads_of c.field_at-field.result.now.word _ hit, c.loop-n.invariant.extends.grows)

pub field_outputs-requires-clause-edge : goal.field_outputs-requires-clause-edge
field_outputs-requires-clause-edge c =
    let lt : c.loop-n.n < length c.args.map.now.fields.items = omega (arith, c.loop-n-test.true, c.len-n-end.ensures) in
    let field_is = c.field_at-field.ensures.here in
    let edge : slice_get c.args.edges.now c.loop-n.n ≡ Some c.index-edges-n.result = at_index c.args.edges.now c.loop-n.n c.index-edges-n.result (omega (arith, lt, c.requires.edges.one_each)) c.index-edges-n.is in
    edges_later _ _ _ _ _ c.loop-n.invariant.extends (c.requires.edges.each c.loop-n.n _ edge _ field_is)

pub field_outputs-requires-clause-given : goal.field_outputs-requires-clause-given
field_outputs-requires-clause-given c = given_later _ _ _ _ _ _ _ c.loop-n.invariant.extends c.requires.given

pub field_outputs-requires-clause-room : goal.field_outputs-requires-clause-room
field_outputs-requires-clause-room c =
    let lt : c.loop-n.n < length c.args.map.now.fields.items = omega (arith, c.loop-n-test.true, c.len-n-end.ensures) in
    let field_is = c.field_at-field.ensures.here in
    let cost : output_gates_of c.args.map.now.fields.items (get_or c.args.map.now.fields.items c.loop-n.n c.field_at-field.result.now) ≡ output_gates_of c.args.map.now.fields.items c.field_at-field.result.now = ap (output_gates_of c.args.map.now.fields.items) (or_at c.args.map.now.fields.items c.loop-n.n c.field_at-field.result.now field_is) in
    let fits = sum_by_more_le (output_gates_of c.args.map.now.fields.items) c.args.map.now.fields.items c.loop-n.n c.field_at-field.result.now lt in
    omega (arith, cost, fits, c.loop-n.invariant.extends.bound, c.requires.room)

pub returns-in_err-row-clause-nodes : goal.returns-in_err-row-clause-nodes
returns-in_err-row-clause-nodes c =
    let lt : c.loop-n.n < length c.args.map.now.fields.items = omega (arith, c.loop-n-test.true, c.len-n-end.ensures) in
    let field_is = c.field_at-field.ensures.here in
    let cost : output_gates_of c.args.map.now.fields.items (get_or c.args.map.now.fields.items c.loop-n.n c.field_at-field.result.now) ≡ output_gates_of c.args.map.now.fields.items c.field_at-field.result.now = ap (output_gates_of c.args.map.now.fields.items) (or_at c.args.map.now.fields.items c.loop-n.n c.field_at-field.result.now field_is) in
    let fits = sum_by_more_le (output_gates_of c.args.map.now.fields.items) c.args.map.now.fields.items c.loop-n.n c.field_at-field.result.now lt in
    extends_more _ _ _ _ _ _ c.loop-n.invariant.extends c.field_outputs.ensures.nodes (omega (arith, cost, fits))

pub returns-in_err-push-clause-nodes : goal.returns-in_err-push-clause-nodes
returns-in_err-push-clause-nodes c =
    let lt : c.loop-n.n < length c.args.map.now.fields.items = omega (arith, c.loop-n-test.true, c.len-n-end.ensures) in
    let field_is = c.field_at-field.ensures.here in
    let cost : output_gates_of c.args.map.now.fields.items (get_or c.args.map.now.fields.items c.loop-n.n c.field_at-field.result.now) ≡ output_gates_of c.args.map.now.fields.items c.field_at-field.result.now = ap (output_gates_of c.args.map.now.fields.items) (or_at c.args.map.now.fields.items c.loop-n.n c.field_at-field.result.now field_is) in
    let fits = sum_by_more_le (output_gates_of c.args.map.now.fields.items) c.args.map.now.fields.items c.loop-n.n c.field_at-field.result.now lt in
    extends_more _ _ _ _ _ _ c.loop-n.invariant.extends c.field_outputs.ensures.nodes (omega (arith, cost, fits))

pub loop-n-preserved : goal.loop-n-preserved
loop-n-preserved c =
    let lt : c.loop-n.n < length c.args.map.now.fields.items = omega (arith, c.loop-n-test.true, c.len-n-end.ensures) in
    let field_is = c.field_at-field.ensures.here in
    let edge : slice_get c.args.edges.now c.loop-n.n ≡ Some c.index-edges-n.result = at_index c.args.edges.now c.loop-n.n c.index-edges-n.result (omega (arith, lt, c.requires.edges.one_each)) c.index-edges-n.is in
    let cost : output_gates_of c.args.map.now.fields.items (get_or c.args.map.now.fields.items c.loop-n.n c.field_at-field.result.now) ≡ output_gates_of c.args.map.now.fields.items c.field_at-field.result.now = ap (output_gates_of c.args.map.now.fields.items) (or_at c.args.map.now.fields.items c.loop-n.n c.field_at-field.result.now field_is) in
    let there : c.field_at-field.result.now.word < length c.args.hits.now = omega (arith, c.field_at-field.ensures.field.there, c.requires.hits_length) in
    let hit = slice_get-get_or c.args.hits.now c.field_at-field.result.now.word no_hit there in
    let more = sum_by_more (output_gates_of c.args.map.now.fields.items) c.args.map.now.fields.items c.loop-n.n c.field_at-field.result.now lt in
    rw c.in_ok-push.ensures.items record {
      size = omega (arith, length-append c.loop-n.rows.items (c.in_ok-row.row ∷ []), c.loop-n.invariant.size);
      extends = extends_more _ _ _ _ _ _ c.loop-n.invariant.extends c.field_outputs.ensures.nodes (omega (arith, cost, more));
      outputs = λ states event payload stored p next.
          let s = got states c.loop-n.n (omega (arith, lt, stored.one_each)) in
          let sees = sees_outputs c.loop-n.graph c.args.map.now states event payload c.args.hits.now c.args.views.now c.args.hw.now c.loop-n.n c.field_at-field.result.now s.0 _ c.index-edges-n.result
          (all_later _ _ _ _ _ c.loop-n.invariant.extends stored) (given_later _ _ _ _ _ _ _ c.loop-n.invariant.extends c.requires.given) (sees_later _ _ _ _ _ _ _ _ _ _ c.loop-n.invariant.extends p) field_is s.1 hit
          (next_later _ _ _ _ _ _ _ _ c.loop-n.invariant.extends (next c.loop-n.n _ edge _ field_is _ s.1)) in
          rows_push _ _ _ c.loop-n.n c.args.map.now states event c.args.hw.now c.loop-n.rows.items c.in_ok-row.row c.field_at-field.result.now c.field_outputs.ensures.nodes c.loop-n.invariant.size field_is (c.loop-n.invariant.outputs states event payload stored p next)
          (row_is _ c.args.map.now states event c.args.hw.now c.loop-n.n c.field_at-field.result.now s.0 c.in_ok-row.row.items field_is s.1 (c.in_ok-row.ensures.value (edge_at c.args.map.now states event c.args.hw.now) (λ v. wire_value v s.0.used) sees));
    }

pub returns-clause-outputs : goal.returns-clause-outputs
returns-clause-outputs c = λ states event payload stored p next. record {
  one_each = omega (arith, c.loop-n.invariant.size, c.loop-n-test.false, c.len-n-end.ensures, c.loop-n.auto.n-end);
  each = c.loop-n.invariant.outputs states event payload stored p next;
}
