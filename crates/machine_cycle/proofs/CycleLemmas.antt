-- What the latches of a map stand for.
use Rattle.std.proofs.Common.{◌≡◌, ℕ, Bool, List, [], ◌∷◌, length, map, refl, sym, ap, ◌∙◌}
use Rattle.std.specs.declared.vec.Vec.{Vec}
use Rattle.std.specs.declared.alloc.Global.{Global}
use Rattle.bit_base.specs.Numbers.{number_of}
use Rattle.field_policies.specs.declared.field.Field.{Field}
use Rattle.field_policies.specs.declared.map.RegMap.{RegMap}
use Rattle.gate_graph.specs.declared.wires.Wire.{Wire}
use Rattle.gate_graph.specs.declared.nodes.Node.{Node}
use Rattle.gate_graph.specs.Gates.{Respects}
use Rattle.gate_graph.specs.Sharing.{HasZero}
use Rattle.gate_graph.proofs.GateLemmas.{value_zero, value_one}
use Rattle.reg_machine.specs.Steps.{Edge}
use Rattle.reg_machine.specs.States.{State}
use Rattle.reg_machine.specs.Machines.{answer_bit}
use Rattle.answer_gates.specs.Laws.{shown_below}
use Rattle.word_gates.specs.Graphs.{off, on}
use Rattle.word_gates.specs.Words.{Shows}
use Rattle.word_gates.proofs.WordLemmas.{shows_same}
use Rattle.event_gates.specs.declared.hits.EventGates.{EventGates}
use Rattle.event_gates.specs.Events.{event_at}
use Rattle.latch_order.specs.declared.latches.StateGates.{StateGates}
use Rattle.latch_order.specs.Latches.{Stored, all_stored, state_by}
use Rattle.latch_order.specs.Wires.{stored_wires, stored_at}
use Rattle.latch_order.proofs.LatchLemmas.{stored_are}
use Rattle.next_latches.specs.Next.{state_at}
use Rattle.map_views.specs.Laws.{inputs_at}
use Rattle.machine_edge.specs.Edges.{edge_at}
use Rattle.machine_cycle.specs.Latched.{latched_state, latched_edge, answer_row}

-- the list's first is put before each list of the state
one_more : Stored Bool → State → State
one_more s t = record { values = number_of s.value ∷ t.values; used = s.used ∷ t.used; known = s.known ∷ t.known }

by_wires : (v : ℕ → Bool) (states : List StateGates) → state_at v states ≡ state_by (map (stored_at v) (map stored_wires states))
unfolding one_more
by_wires v [] = refl
by_wires v (s ∷ states) = ap (one_more (stored_at v (stored_wires s))) (by_wires v states)

pub state_is : (nodes : List Node) (map_of : RegMap) (latches : List Wire) (states : List StateGates) (v : ℕ → Bool) → HasZero nodes → Respects v nodes → map stored_wires states ≡ all_stored off on map_of.fields.items latches
    → state_at v states ≡ latched_state map_of latches v
state_is nodes map_of latches states v z r same =
    by_wires v states ∙ (ap (λ l. state_by (map (stored_at v) l)) same ∙ ap state_by (stored_are v map_of.fields.items latches (value_zero v nodes off z r refl) (value_one v nodes on z r refl)))

pub answers_are : (e : Edge) (fields : List Field) (known : List Bool) (bus : ℕ) → e.view.fields ≡ fields → shown_below e known bus (length fields) ≡ answer_row e known bus
unfolding answer_bit
answers_are e fields known bus same = ap (λ fs. shown_below e known bus (length fs)) (sym same)

-- the edge that a state stands for
pub edge_by : RegMap → EventGates → List (Vec Wire Global) → (ℕ → Bool) → State → Edge
edge_by map_of event hw v s = record { view = record { fields = map_of.fields.items; values = s.values; hw = inputs_at v hw }; words = map_of.words.items; event = event_at v event }

-- what is shown of the states' edge is shown of the latches'
pub shows_latched : (nodes : List Node) (map_of : RegMap) (latches : List Wire) (states : List StateGates) (event : EventGates) (hw : List (Vec Wire Global)) (wires : List Wire) (f : Edge → State → List Bool)
    → ((v : ℕ → Bool) → Respects v nodes → state_at v states ≡ latched_state map_of latches v) → Shows nodes wires (λ v. f (edge_at map_of states event hw v) (state_at v states))
    → Shows nodes wires (λ v. f (latched_edge map_of latches event hw v) (latched_state map_of latches v))
unfolding edge_by
shows_latched nodes map_of latches states event hw wires f same shows = shows_same nodes wires _ _ shows (λ v r. ap (λ s. f (edge_by map_of event hw v s) s) (same v r))
