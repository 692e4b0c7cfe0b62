use Rattle.std.proofs.Common.{length, map, ap, ◌∙◌, arith}
use Rattle.gate_graph.proofs.GateLemmas.{extends_more, respects_old, means_later}
use Rattle.word_gates.proofs.WordLemmas.{shows_later, extends_at}
use Rattle.latch_order.specs.declared.latches.StateGates.{StateGates}
use Rattle.map_views.proofs.ViewLemmas.{all_later}
use Rattle.machine_core.proofs.CoreLemmas.{hits_of_graph}
use Rattle.machine_gates.proofs.MachineLemmas.{few, outputs_latched, known_shown}
use Rattle.machine_gates.proofs.build.build_machine.Goals as goal

pub cycle_gates-requires-clause-room : goal.cycle_gates-requires-clause-room
cycle_gates-requires-clause-room c = omega (arith, few c.args.map.now (length c.args.event.now.address.items) c.requires.address_length, c.requires.room)

pub returns-in_err-cycle-clause-nodes : goal.returns-in_err-cycle-clause-nodes
returns-in_err-cycle-clause-nodes c = extends_at _ _ _ _ c.cycle_gates.ensures.nodes (omega (arith, few c.args.map.now (length c.args.event.now.address.items) c.requires.address_length))

pub all_outputs-requires-clause-hits : goal.all_outputs-requires-clause-hits
all_outputs-requires-clause-hits c = rw c.deref.ensures.value (hits_of_graph _ c.args.event.now c.args.map.now.words.items c.in_ok-cycle.cycle.around.hits.items c.in_ok-cycle.ensures.hits_length c.in_ok-cycle.ensures.sees.hits_are)

pub all_outputs-requires-clause-room : goal.all_outputs-requires-clause-room
all_outputs-requires-clause-room c = omega (arith, few c.args.map.now (length c.args.event.now.address.items) c.requires.address_length, c.cycle_gates.ensures.nodes.bound, c.requires.room)

pub returns-in_err-outputs-clause-nodes : goal.returns-in_err-outputs-clause-nodes
returns-in_err-outputs-clause-nodes c = extends_more _ _ _ _ _ _ c.cycle_gates.ensures.nodes c.all_outputs.ensures.nodes (few c.args.map.now (length c.args.event.now.address.items) c.requires.address_length)

pub returns-in_err-known-clause-nodes : goal.returns-in_err-known-clause-nodes
returns-in_err-known-clause-nodes c = extends_more _ _ _ _ _ _ c.cycle_gates.ensures.nodes c.all_outputs.ensures.nodes (few c.args.map.now (length c.args.event.now.address.items) c.requires.address_length)

pub returns-clause-nodes : goal.returns-clause-nodes
returns-clause-nodes c = extends_more _ _ _ _ _ _ c.cycle_gates.ensures.nodes c.all_outputs.ensures.nodes (few c.args.map.now (length c.args.event.now.address.items) c.requires.address_length)

pub returns-clause-next : goal.returns-clause-next
returns-clause-next c = shows_later _ _ _ _ _ c.all_outputs.ensures.nodes c.in_ok-cycle.ensures.next

pub returns-clause-payload : goal.returns-clause-payload
returns-clause-payload c = shows_later _ _ _ _ _ c.all_outputs.ensures.nodes c.in_ok-cycle.ensures.payload

pub returns-clause-counts : goal.returns-clause-counts
returns-clause-counts c = shows_later _ _ _ _ _ c.all_outputs.ensures.nodes c.in_ok-cycle.ensures.counts

pub returns-clause-error : goal.returns-clause-error
returns-clause-error c = means_later _ _ _ _ _ c.all_outputs.ensures.nodes c.in_ok-cycle.ensures.error

pub returns-clause-outputs : goal.returns-clause-outputs
returns-clause-outputs c =
    outputs_latched _ c.args.map.now c.args.state.now c.in_ok-cycle.cycle.around.states.items c.args.event.now c.args.hw.now c.in_ok-outputs.outputs.items (λ v r. c.in_ok-cycle.ensures.stored v (respects_old v _ _ _ c.all_outputs.ensures.nodes r))
    (c.in_ok-outputs.ensures.outputs c.in_ok-cycle.cycle.around.states.items c.args.event.now c.in_ok-cycle.cycle.around.payload.items c.in_ok-cycle.ensures.states (rw (c.deref.ensures.value, c.deref-2.ensures.value) c.in_ok-cycle.ensures.sees) (rw c.as_slice.ensures.value c.in_ok-cycle.ensures.fields_next))

pub returns-clause-known : goal.returns-clause-known
returns-clause-known c =
    known_shown _ c.args.map.now c.args.state.now c.in_ok-cycle.cycle.around.states.items c.in_ok-known.known.items (c.in_ok-known.ensures ∙ ap (map (λ (s : StateGates). s.known)) c.deref-3.ensures.value)
    (all_later _ _ _ _ _ c.all_outputs.ensures.nodes c.in_ok-cycle.ensures.states) (λ v r. c.in_ok-cycle.ensures.stored v (respects_old v _ _ _ c.all_outputs.ensures.nodes r))
