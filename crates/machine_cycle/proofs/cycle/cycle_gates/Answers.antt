use Rattle.std.proofs.Common.{refl}
use Rattle.reg_machine.specs.States.{next_state}
use Rattle.latch_order.specs.Latches.{state_bits}
use Rattle.word_gates.proofs.WordLemmas.{shows_same}
use Rattle.field_edges.proofs.GivenLemmas.{given_later}
use Rattle.map_views.proofs.ViewLemmas.{all_later}
use Rattle.map_edges.proofs.EdgeLemmas.{sees_later}
use Rattle.map_answers.specs.Answers.{counts_row}
use Rattle.machine_edge.specs.Edges.{edge_at}
use Rattle.machine_cycle.specs.Latched.{answer_row}
use Rattle.machine_cycle.proofs.CycleLemmas.{state_is, answers_are, shows_latched}
use Rattle.machine_cycle.proofs.cycle.cycle_gates.Goals as goal

pub returns-clause-states : goal.returns-clause-states
returns-clause-states c = all_later _ _ _ _ _ c.core_gates.ensures.nodes c.in_ok-around.ensures.states

pub returns-clause-given : goal.returns-clause-given
returns-clause-given c = given_later _ _ _ _ _ _ _ c.core_gates.ensures.nodes c.in_ok-around.ensures.given

pub returns-clause-sees : goal.returns-clause-sees
returns-clause-sees c = sees_later _ _ _ _ _ _ _ _ _ _ c.core_gates.ensures.nodes c.in_ok-around.ensures.sees

pub returns-clause-fields_next : goal.returns-clause-fields_next
returns-clause-fields_next c = c.in_ok-core.ensures.fields_next (edge_at c.args.map.now c.in_ok-around.around.states.items c.args.event.now c.args.hw.now) c.in_ok-around.ensures.sees

pub returns-clause-stored : goal.returns-clause-stored
returns-clause-stored c = λ v r.
    let given = given_later _ _ _ _ _ _ _ c.core_gates.ensures.nodes c.in_ok-around.ensures.given in
    state_is c.core_gates.new.graph c.args.map.now c.args.state.now c.in_ok-around.around.states.items v given.zero r c.in_ok-around.ensures.stored

pub returns-clause-next : goal.returns-clause-next
returns-clause-next c =
    let given = given_later _ _ _ _ _ _ _ c.core_gates.ensures.nodes c.in_ok-around.ensures.given in
    let next = c.in_ok-core.ensures.next (edge_at c.args.map.now c.in_ok-around.around.states.items c.args.event.now c.args.hw.now) c.in_ok-around.ensures.sees in
    shows_latched c.core_gates.new.graph c.args.map.now c.args.state.now c.in_ok-around.around.states.items c.args.event.now c.args.hw.now c.in_ok-core.core.next.items (λ e s. state_bits c.args.map.now.fields.items (next_state e s))
    (λ v r. state_is c.core_gates.new.graph c.args.map.now c.args.state.now c.in_ok-around.around.states.items v given.zero r c.in_ok-around.ensures.stored) next

pub returns-clause-payload : goal.returns-clause-payload
returns-clause-payload c =
    let given = given_later _ _ _ _ _ _ _ c.core_gates.ensures.nodes c.in_ok-around.ensures.given in
    let shown = c.in_ok-core.ensures.payload (edge_at c.args.map.now c.in_ok-around.around.states.items c.args.event.now c.args.hw.now) c.in_ok-around.ensures.sees in
    let rows = shows_same _ _ _ _ shown (λ v r. answers_are (edge_at c.args.map.now c.in_ok-around.around.states.items c.args.event.now c.args.hw.now v) c.args.map.now.fields.items _ c.args.map.now.bus_width refl) in
    shows_latched c.core_gates.new.graph c.args.map.now c.args.state.now c.in_ok-around.around.states.items c.args.event.now c.args.hw.now c.in_ok-core.core.payload.items (λ e s. answer_row e s.known c.args.map.now.bus_width)
    (λ v r. state_is c.core_gates.new.graph c.args.map.now c.args.state.now c.in_ok-around.around.states.items v given.zero r c.in_ok-around.ensures.stored) rows

pub returns-clause-counts : goal.returns-clause-counts
returns-clause-counts c =
    let given = given_later _ _ _ _ _ _ _ c.core_gates.ensures.nodes c.in_ok-around.ensures.given in
    let counts = c.in_ok-core.ensures.counts (edge_at c.args.map.now c.in_ok-around.around.states.items c.args.event.now c.args.hw.now) c.in_ok-around.ensures.sees in
    shows_latched c.core_gates.new.graph c.args.map.now c.args.state.now c.in_ok-around.around.states.items c.args.event.now c.args.hw.now c.in_ok-core.core.counts.items (λ e s. counts_row e s.known c.args.map.now.bus_width)
    (λ v r. state_is c.core_gates.new.graph c.args.map.now c.args.state.now c.in_ok-around.around.states.items v given.zero r c.in_ok-around.ensures.stored) counts
