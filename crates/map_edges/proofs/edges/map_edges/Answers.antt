use Rattle.std.proofs.Common.{◌≡◌, ◌+◌, ◌*◌, ◌<◌, ◌≤◌, Some, [], ◌∷◌, length, map, get_or, slice_get, ap, sym, ◌∙◌, refl, arith, length-append}
use Rattle.std.proofs.lemmas.List.{map_push}
use Rattle.std.proofs.lemmas.List.Sums.{sum_by_more, sum_by_more_le}
use Rattle.std.proofs.lemmas.Option.{slice_get-get_or}
use Rattle.field_policies.specs.declared.field.Field.{Field}
use Rattle.gate_graph.specs.declared.wires.Wire.{Wire}
use Rattle.word_gates.specs.Graphs.{off}
use Rattle.latch_order.specs.Latches.{Stored}
use Rattle.latch_order.specs.Wires.{stored_wires}
use Rattle.field_edges.specs.Made.{words_of, views_of, edge_wires, edge_made, each_made}
use Rattle.field_edges.proofs.LoopLemmas.{each_more, each_end}
use Rattle.map_views.specs.Views.{stores_of, pair_of, pairs_of}
use Rattle.map_edges.specs.Hits.{hits_of}
use Rattle.gate_graph.proofs.GateLemmas.{extends_more, extends_none, are_of_later}
use Rattle.reg_machine.proofs.Views.{got}
use Rattle.event_gates.proofs.EventLemmas.{events_later}
use Rattle.field_edges.proofs.GivenLemmas.{given_later, states_later}
use Rattle.map_views.proofs.ViewLemmas.{at_index, or_at, pair_at, pairs_long}
use Rattle.map_edges.specs.Edges.{edge_gates_of, edges_made, stored_number}
use Rattle.map_edges.proofs.EdgeLemmas.{sees_later, sees_one, edges_push, next_push, hit_is, no_hit}
use Rattle.map_edges.proofs.edges.map_edges.Goals as goal

pub edge_gates-requires-clause-state : goal.edge_gates-requires-clause-state
edge_gates-requires-clause-state c =
    let lt : c.loop-n.n < length c.args.map.now.fields.items = omega (arith, c.loop-n-test.true, c.len-n-end.ensures) in
    let here : slice_get c.args.states.now c.loop-n.n ≡ Some c.index-states-n.result = at_index c.args.states.now c.loop-n.n c.index-states-n.result (omega (arith, lt, c.requires.states.one_each)) c.index-states-n.is in
    let hit = got c.args.hits.now c.field_at-field.result.now.word (omega (arith, c.field_at-field.ensures.field.there, c.requires.hits_length)) in
    states_later _ _ _ _ _ c.loop-n.invariant.extends (c.requires.states.each c.loop-n.n _ _ c.field_at-field.ensures.here here)

pub edge_gates-requires-clause-event : goal.edge_gates-requires-clause-event
edge_gates-requires-clause-event c = events_later _ _ _ _ c.loop-n.invariant.extends c.requires.event

pub edge_gates-requires-clause-payload_of : goal.edge_gates-requires-clause-payload_of
edge_gates-requires-clause-payload_of c = are_of_later _ _ _ _ c.loop-n.invariant.extends c.requires.payload_of

pub edge_gates-requires-clause-given : goal.edge_gates-requires-clause-given
edge_gates-requires-clause-given c = given_later _ _ _ _ _ _ _ c.loop-n.invariant.extends c.requires.given

pub edge_gates-requires-clause-room : goal.edge_gates-requires-clause-room
edge_gates-requires-clause-room c =
    let lt : c.loop-n.n < length c.args.map.now.fields.items = omega (arith, c.loop-n-test.true, c.len-n-end.ensures) in
    let width : (get_or c.args.map.now.fields.items c.loop-n.n c.field_at-field.result.now).width ≡ c.field_at-field.result.now.width = ap (λ (f : Field). f.width) (or_at c.args.map.now.fields.items c.loop-n.n c.field_at-field.result.now c.field_at-field.ensures.here) in
    let fits = sum_by_more_le edge_gates_of c.args.map.now.fields.items c.loop-n.n c.field_at-field.result.now lt in
    omega (arith, width, fits, c.loop-n.invariant.extends.bound, c.requires.room)

pub returns-in_err-edge-clause-nodes : goal.returns-in_err-edge-clause-nodes
returns-in_err-edge-clause-nodes c =
    let lt : c.loop-n.n < length c.args.map.now.fields.items = omega (arith, c.loop-n-test.true, c.len-n-end.ensures) in
    let width : (get_or c.args.map.now.fields.items c.loop-n.n c.field_at-field.result.now).width ≡ c.field_at-field.result.now.width = ap (λ (f : Field). f.width) (or_at c.args.map.now.fields.items c.loop-n.n c.field_at-field.result.now c.field_at-field.ensures.here) in
    let fits = sum_by_more_le edge_gates_of c.args.map.now.fields.items c.loop-n.n c.field_at-field.result.now lt in
    extends_more _ _ _ _ _ _ c.loop-n.invariant.extends c.edge_gates.ensures.nodes (omega (arith, width, fits))

pub returns-in_err-push-clause-nodes : goal.returns-in_err-push-clause-nodes
returns-in_err-push-clause-nodes c =
    let lt : c.loop-n.n < length c.args.map.now.fields.items = omega (arith, c.loop-n-test.true, c.len-n-end.ensures) in
    let width : (get_or c.args.map.now.fields.items c.loop-n.n c.field_at-field.result.now).width ≡ c.field_at-field.result.now.width = ap (λ (f : Field). f.width) (or_at c.args.map.now.fields.items c.loop-n.n c.field_at-field.result.now c.field_at-field.ensures.here) in
    let fits = sum_by_more_le edge_gates_of c.args.map.now.fields.items c.loop-n.n c.field_at-field.result.now lt in
    extends_more _ _ _ _ _ _ c.loop-n.invariant.extends c.edge_gates.ensures.nodes (omega (arith, width, fits))

pub loop-n-preserved : goal.loop-n-preserved
loop-n-preserved c =
    let lt : c.loop-n.n < length c.args.map.now.fields.items = omega (arith, c.loop-n-test.true, c.len-n-end.ensures) in
    let width : (get_or c.args.map.now.fields.items c.loop-n.n c.field_at-field.result.now).width ≡ c.field_at-field.result.now.width = ap (λ (f : Field). f.width) (or_at c.args.map.now.fields.items c.loop-n.n c.field_at-field.result.now c.field_at-field.ensures.here) in
    let more = sum_by_more edge_gates_of c.args.map.now.fields.items c.loop-n.n c.field_at-field.result.now lt in
    let field_is = c.field_at-field.ensures.here in
    let here : slice_get c.args.states.now c.loop-n.n ≡ Some c.index-states-n.result = at_index c.args.states.now c.loop-n.n c.index-states-n.result (omega (arith, lt, c.requires.states.one_each)) c.index-states-n.is in
    let there : c.field_at-field.result.now.word < length c.args.hits.now = omega (arith, c.field_at-field.ensures.field.there, c.requires.hits_length) in
    let stored = states_later _ _ _ _ _ c.loop-n.invariant.extends (c.requires.states.each c.loop-n.n _ _ field_is here) in
    rw c.in_ok-push.ensures.items record {
      size = omega (arith, length-append c.loop-n.edges.items (c.in_ok-edge.edge ∷ []), c.loop-n.invariant.size);
      extends = extends_more _ _ _ _ _ _ c.loop-n.invariant.extends c.edge_gates.ensures.nodes (omega (arith, width, more));
      of = edges_push _ _ _ c.loop-n.n c.args.map.now.fields.items c.loop-n.edges.items c.in_ok-edge.edge c.field_at-field.result.now c.edge_gates.ensures.nodes c.loop-n.invariant.size field_is c.loop-n.invariant.of c.in_ok-edge.ensures.of;
      next = λ e p. next_push _ _ _ c.loop-n.n c.args.map.now.fields.items c.args.states.now e c.loop-n.edges.items c.in_ok-edge.edge c.field_at-field.result.now c.index-states-n.result c.edge_gates.ensures.nodes c.loop-n.invariant.size field_is here
          (c.loop-n.invariant.next e p)
          (c.in_ok-edge.ensures.next e (stored_number c.index-states-n.result)
          (sees_one c.loop-n.graph c.args.map.now c.args.event.now c.args.payload.now c.args.hits.now c.args.views.now c.args.hw.now e c.loop-n.n c.field_at-field.result.now c.index-states-n.result _
          (sees_later _ _ _ c.args.map.now c.args.event.now c.args.payload.now c.args.hits.now c.args.views.now c.args.hw.now e c.loop-n.invariant.extends p) field_is stored (slice_get-get_or c.args.hits.now c.field_at-field.result.now.word no_hit there)));
      exact = rw (map_push edge_wires c.loop-n.edges.items c.in_ok-edge.edge)
          (each_more (λ g (p : Field × Stored Wire). edge_made p.0 g p.1 (get_or (hits_of c.args.hits.now) p.0.word (off, off)) c.args.event.now.strobe.items c.args.payload.now (views_of c.args.views.now) (words_of c.args.hw.now)) c.args.graph.now
          (pairs_of c.args.map.now.fields.items (stores_of c.args.states.now)) c.loop-n.n (pair_of c.field_at-field.result.now (stored_wires c.index-states-n.result)) _ _ _ _
          (omega (arith, pairs_long c.args.map.now.fields.items c.args.states.now c.requires.states.one_each, lt))
          (pair_at c.args.map.now.fields.items c.args.states.now c.loop-n.n c.field_at-field.result.now c.index-states-n.result lt (omega (arith, lt, c.requires.states.one_each)) (or_at c.args.map.now.fields.items c.loop-n.n c.field_at-field.result.now field_is)
          (or_at c.args.states.now c.loop-n.n c.index-states-n.result here))
          (ap (λ x. edge_made c.field_at-field.result.now c.loop-n.graph (stored_wires c.index-states-n.result) x c.args.event.now.strobe.items c.args.payload.now (views_of c.args.views.now) (words_of c.args.hw.now)) (hit_is c.args.hits.now c.field_at-field.result.now.word there)
          ∙ c.in_ok-edge.ensures.exact)
          c.loop-n.invariant.exact);
    }

pub returns-clause-exact : goal.returns-clause-exact
unfolding edges_made
returns-clause-exact c =
    each_end (λ g (p : Field × Stored Wire). edge_made p.0 g p.1 (get_or (hits_of c.args.hits.now) p.0.word (off, off)) c.args.event.now.strobe.items c.args.payload.now (views_of c.args.views.now) (words_of c.args.hw.now)) c.args.graph.now
    (pairs_of c.args.map.now.fields.items (stores_of c.args.states.now)) c.loop-n.n _ (omega (arith, pairs_long c.args.map.now.fields.items c.args.states.now c.requires.states.one_each, c.len-n-end.ensures, c.loop-n-test.false)) c.loop-n.invariant.exact
