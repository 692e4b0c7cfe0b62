use Rattle.std.proofs.Common.{◌≡◌, length, ap, ◌∙◌}
use Rattle.word_gates.proofs.WordLemmas.{extends_sum, shows_later}
use Rattle.event_gates.proofs.EventLemmas.{events_later}
use Rattle.field_edges.proofs.GivenLemmas.{given_later}
use Rattle.map_views.proofs.ViewLemmas.{all_later}
use Rattle.map_edges.proofs.EdgeLemmas.{sees_later}
use Rattle.next_latches.proofs.NextLemmas.{next_are}
use Rattle.machine_core.proofs.CoreLemmas.{hits_later, of_graph_later, all_edges_later, all_next_later}
use Rattle.machine_core.proofs.edge.core_gates.Goals as goal

pub data_word-requires-clause-states : goal.data_word-requires-clause-states
data_word-requires-clause-states c = rw c.deref-5.ensures.value (all_later _ _ _ _ _ c.map_edges.ensures.nodes c.requires.states)

pub data_word-requires-clause-hits : goal.data_word-requires-clause-hits
data_word-requires-clause-hits c = rw c.deref-6.ensures.value (of_graph_later _ _ _ _ c.map_edges.ensures.nodes c.requires.hits_of)

pub data_word-requires-clause-given : goal.data_word-requires-clause-given
data_word-requires-clause-given c = rw c.deref-7.ensures.value (given_later _ _ _ _ _ _ _ c.map_edges.ensures.nodes c.requires.given)

pub counts_word-requires-clause-states : goal.counts_word-requires-clause-states
counts_word-requires-clause-states c = rw c.deref-8.ensures.value (all_later _ _ _ _ _ (extends_sum _ _ _ _ _ c.map_edges.ensures.nodes c.data_word.ensures.nodes) c.requires.states)

pub counts_word-requires-clause-hits : goal.counts_word-requires-clause-hits
counts_word-requires-clause-hits c = rw c.deref-9.ensures.value (of_graph_later _ _ _ _ (extends_sum _ _ _ _ _ c.map_edges.ensures.nodes c.data_word.ensures.nodes) c.requires.hits_of)

pub error_wire-requires-clause-event : goal.error_wire-requires-clause-event
error_wire-requires-clause-event c = events_later _ _ _ _ (extends_sum _ _ _ _ _ c.map_edges.ensures.nodes (extends_sum _ _ _ _ _ c.data_word.ensures.nodes c.counts_word.ensures.nodes)) c.requires.event

pub error_wire-requires-clause-hits : goal.error_wire-requires-clause-hits
error_wire-requires-clause-hits c = rw (c.as_slice-3.ensures.value, c.deref-10.ensures.value) (hits_later _ _ _ _ _ _ (extends_sum _ _ _ _ _ c.map_edges.ensures.nodes (extends_sum _ _ _ _ _ c.data_word.ensures.nodes c.counts_word.ensures.nodes)) c.requires.hits)

pub returns-clause-edges : goal.returns-clause-edges
returns-clause-edges c =
    let rest = extends_sum _ _ _ _ _ c.data_word.ensures.nodes (extends_sum _ _ _ _ _ c.counts_word.ensures.nodes c.error_wire.ensures.nodes) in
    all_edges_later _ _ _ _ _ rest c.in_ok-edges.ensures.of

pub returns-clause-fields_next : goal.returns-clause-fields_next
returns-clause-fields_next c = λ e p.
    let rest = extends_sum _ _ _ _ _ c.data_word.ensures.nodes (extends_sum _ _ _ _ _ c.counts_word.ensures.nodes c.error_wire.ensures.nodes) in
    let next = c.in_ok-edges.ensures.next e (rw (c.deref-3.ensures.value, c.deref-2.ensures.value, c.deref-4.ensures.value) p) in
    all_next_later _ _ _ _ _ _ _ rest (rw c.deref.ensures.value at next)

pub returns-clause-next : goal.returns-clause-next
returns-clause-next c = λ e p.
    let rest = extends_sum _ _ _ _ _ c.data_word.ensures.nodes (extends_sum _ _ _ _ _ c.counts_word.ensures.nodes c.error_wire.ensures.nodes) in
    let next = c.in_ok-edges.ensures.next e (rw (c.deref-3.ensures.value, c.deref-2.ensures.value, c.deref-4.ensures.value) p) in
    rw (c.in_ok-next.ensures, c.as_slice.ensures.value, c.as_slice-2.ensures.value)
    (shows_later _ _ _ _ _ rest (next_are _ c.args.map.now.fields.items c.args.around.now.states.items c.in_ok-edges.edges.items e p.views_are.fields_are c.requires.states.one_each c.in_ok-edges.ensures.of (rw c.deref.ensures.value at next)))

pub returns-clause-payload : goal.returns-clause-payload
returns-clause-payload c = λ e p.
    let shown = c.in_ok-payload.ensures.shown e c.args.event.now c.args.around.now.payload.items (rw (c.deref-6.ensures.value, c.deref-7.ensures.value) (sees_later _ _ _ _ _ _ _ _ _ _ c.map_edges.ensures.nodes p)) in
    shows_later _ _ _ _ _ (extends_sum _ _ _ _ _ c.counts_word.ensures.nodes c.error_wire.ensures.nodes) (rw c.deref-5.ensures.value at shown)

pub returns-clause-counts : goal.returns-clause-counts
returns-clause-counts c = λ e p.
    let before = extends_sum _ _ _ _ _ c.map_edges.ensures.nodes c.data_word.ensures.nodes in
    let counts = c.in_ok-counts.ensures.counts e c.args.event.now c.args.around.now.payload.items c.args.around.now.views.items c.args.hw.now (rw c.deref-9.ensures.value (sees_later _ _ _ _ _ _ _ _ _ _ before p)) in
    shows_later _ _ _ _ _ c.error_wire.ensures.nodes (rw c.deref-8.ensures.value at counts)
