use Rattle.std.proofs.Common.{◌≡◌, ◌&&◌, length, map, ap, ◌∙◌}
use Rattle.gate_graph.specs.Gates.{Respects}
use Rattle.gate_graph.proofs.GateLemmas.{respects_old}
use Rattle.word_gates.specs.Graphs.{off, on}
use Rattle.word_gates.specs.Words.{values}
use Rattle.word_gates.proofs.WordLemmas.{extends_sum, shows_later, shows_same}
use Rattle.latch_order.specs.Latches.{all_stored}
use Rattle.latch_order.specs.Wires.{stored_wires}
use Rattle.field_edges.proofs.GivenLemmas.{given_later}
use Rattle.map_views.proofs.ViewLemmas.{all_later, inputs_later}
use Rattle.machine_edge.proofs.EdgeLaws.{stored_are, edge_is}
use Rattle.machine_core.proofs.CoreLemmas.{all_shown_later, hits_of_graph}
use Rattle.machine_core.proofs.around.around_gates.Goals as goal

pub map_views-requires-clause-states : goal.map_views-requires-clause-states
map_views-requires-clause-states c =
    let same : map stored_wires c.in_ok-states.states.items ≡ all_stored off on c.args.map.now.fields.items c.args.state.now = c.in_ok-states.ensures ∙ ap (λ fs. all_stored off on fs c.args.state.now) c.as_slice.ensures.value in
    let stored = stored_are c.args.graph.now c.args.map.now.fields.items c.args.state.now c.in_ok-states.states.items c.size-size.ensures.graph.low.first c.requires.state_of c.requires.state_length same in
    rw c.as_slice-2.ensures.value stored

pub returns-clause-states : goal.returns-clause-states
returns-clause-states c =
    let same : map stored_wires c.in_ok-states.states.items ≡ all_stored off on c.args.map.now.fields.items c.args.state.now = c.in_ok-states.ensures ∙ ap (λ fs. all_stored off on fs c.args.state.now) c.as_slice.ensures.value in
    let stored = stored_are c.args.graph.now c.args.map.now.fields.items c.args.state.now c.in_ok-states.states.items c.size-size.ensures.graph.low.first c.requires.state_of c.requires.state_length same in
    let rest = extends_sum _ _ _ _ _ c.write_wire.ensures.nodes (extends_sum _ _ _ _ _ c.payload_gates.ensures.nodes c.hit_words.ensures.nodes) in
    let all = extends_sum _ _ _ _ _ c.map_views.ensures.nodes rest in
    all_later _ _ _ _ _ all stored

pub returns-clause-given : goal.returns-clause-given
returns-clause-given c =
    let rest = extends_sum _ _ _ _ _ c.write_wire.ensures.nodes (extends_sum _ _ _ _ _ c.payload_gates.ensures.nodes c.hit_words.ensures.nodes) in
    given_later _ _ _ _ _ _ _ rest c.in_ok-views.ensures.given

pub returns-clause-hits : goal.returns-clause-hits
returns-clause-hits c = rw c.as_slice-3.ensures.value at c.in_ok-hits.ensures.hits

pub returns-clause-hits_of : goal.returns-clause-hits_of
returns-clause-hits_of c =
    hits_of_graph _ c.args.event.now c.args.map.now.words.items c.in_ok-hits.hits.items (c.in_ok-hits.ensures.one_each ∙ ap length c.as_slice-3.ensures.value) (rw c.as_slice-3.ensures.value at c.in_ok-hits.ensures.hits)

pub returns-clause-sees : goal.returns-clause-sees
returns-clause-sees c =
    let same : map stored_wires c.in_ok-states.states.items ≡ all_stored off on c.args.map.now.fields.items c.args.state.now = c.in_ok-states.ensures ∙ ap (λ fs. all_stored off on fs c.args.state.now) c.as_slice.ensures.value in
    let stored = stored_are c.args.graph.now c.args.map.now.fields.items c.args.state.now c.in_ok-states.states.items c.size-size.ensures.graph.low.first c.requires.state_of c.requires.state_length same in
    let rest = extends_sum _ _ _ _ _ c.write_wire.ensures.nodes (extends_sum _ _ _ _ _ c.payload_gates.ensures.nodes c.hit_words.ensures.nodes) in
    let all = extends_sum _ _ _ _ _ c.map_views.ensures.nodes rest in
    edge_is _ c.args.map.now c.in_ok-states.states.items c.args.event.now c.in_ok-payload.payload.items c.in_ok-hits.hits.items c.in_ok-views.views.items c.args.hw.now (all_later _ _ _ _ _ all stored) (inputs_later _ _ _ _ _ all c.requires.inputs)
    (given_later _ _ _ _ _ _ _ rest c.in_ok-views.ensures.given) (all_shown_later _ _ _ _ _ _ _ rest (rw c.as_slice-2.ensures.value at c.in_ok-views.ensures.shown)) (rw c.as_slice-3.ensures.value at c.in_ok-hits.ensures.hits)
    (shows_later _ _ _ _ _ c.hit_words.ensures.nodes (shows_same _ _ _ _ c.in_ok-payload.ensures.value (λ v r.
    let before : Respects v c.write_wire.new.graph = respects_old v _ _ _ c.payload_gates.ensures.nodes r in
    ap (λ b. map (λ x. x && b) (values v c.args.event.now.payload.items)) (c.in_ok-only.ensures.wire.value v before))))
