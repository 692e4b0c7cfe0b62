-- What the wires of a field stand for at an edge of the register machine.
use Rattle.std.specs.Prelude.{◌≡◌, ℕ, ◌<◌, ◌^◌, Bool, not, ◌&&◌, List, length, map}
use Rattle.std.specs.declared.vec.Vec.{Vec}
use Rattle.std.specs.declared.alloc.Global.{Global}
use Rattle.bit_base.specs.Numbers.{low_bits}
use Rattle.field_policies.specs.declared.field.Field.{Field}
use Rattle.field_policies.specs.declared.map.RegMap.{RegMap}
use Rattle.field_policies.specs.Expressions.{input_value}
use Rattle.gate_graph.specs.declared.wires.Wire.{Wire}
use Rattle.gate_graph.specs.declared.nodes.Node.{Node}
use Rattle.gate_graph.specs.Gates.{wire_value, IsOf, AreOf, Means}
use Rattle.reg_machine.specs.Steps as machine
use Rattle.reg_machine.specs.Steps.{Edge}
use Rattle.reg_machine.specs.Machines.{overflow_of, underflow_of}
use Rattle.word_gates.specs.Words.{values, Shows}
use Rattle.expr_gates.specs.declared.view.FieldView.{FieldView}
use Rattle.expr_gates.specs.Laws.{AreViews}
use Rattle.event_gates.specs.declared.hits.EventGates.{EventGates}
use Rattle.event_gates.specs.declared.hits.HitGates.{HitGates}
use Rattle.event_gates.specs.Events.{event_at}
use Rattle.field_gates.specs.Laws.{places}
use Rattle.latch_order.specs.declared.latches.StateGates.{StateGates}
use Rattle.field_edges.specs.declared.edge.EdgeGates.{EdgeGates}

-- the wires are what the edge e v sees where each node i has the value v i; n v is what the field stores
pub record SeesField (nodes : List Node) (map_of : RegMap) (event : EventGates) (payload : List Wire) (hit : HitGates) (state : StateGates) (views : List FieldView) (hw : List (Vec Wire Global)) (f : Field)
    (e : (ℕ → Bool) → Edge) (n : (ℕ → Bool) → ℕ) : Type 0 where
  pub views_are : AreViews nodes map_of.fields.items map_of.inputs.items (λ v. (e v).view) views hw
  pub event_is : (v : ℕ → Bool) → (e v).event ≡ event_at v event
  pub reads : Means nodes hit.reads (λ v. machine.reads (e v) f)
  pub writes : Means nodes hit.writes (λ v. machine.writes (e v) f)
  pub payload_is : Shows nodes payload (λ v. map (λ x. x && (wire_value v event.write && not (wire_value v event.read))) (values v event.payload.items))
  pub value : Shows nodes state.value.items (λ v. low_bits f.width (n v))
  pub value_fits : (v : ℕ → Bool) → n v < 2 ^ f.width
  pub input_fits : (v : ℕ → Bool) → input_value (e v).view.hw f.data_in < 2 ^ f.width

-- then the field's wires are the register machine's after the edge
pub record IsNext (nodes : List Node) (f : Field) (e : (ℕ → Bool) → Edge) (n : (ℕ → Bool) → ℕ) (state : StateGates) (g : EdgeGates) : Type 0 where
  pub software : Means nodes g.step.software (λ v. machine.is_software_active (e v) f (wire_value v state.used))
  pub value : Shows nodes g.step.value.items (λ v. places f (machine.next_bit (e v) f (wire_value v state.used) (n v)))
  pub used : Means nodes g.step.used (λ v. machine.next_used (e v) f (wire_value v state.used))
  pub known : Means nodes g.step.known (λ v. machine.next_known (e v) f (wire_value v state.used) (wire_value v state.known) (n v))
  pub over : Means nodes g.over (λ v. overflow_of (e v).view f (n v) f.extra)
  pub under : Means nodes g.under (λ v. underflow_of (e v).view f (n v) f.extra)
  pub enabled : Shows nodes g.enabled.items (λ v. places f (machine.is_enabled (e v) f))

-- the wires are of the graph, one for each place
pub record AreEdges (nodes : List Node) (width : ℕ) (g : EdgeGates) : Type 0 where
  pub software_of : IsOf g.step.software nodes
  pub value_of : AreOf g.step.value.items nodes
  pub used_of : IsOf g.step.used nodes
  pub known_of : IsOf g.step.known nodes
  pub enabled_of : AreOf g.enabled.items nodes
  pub over_of : IsOf g.over nodes
  pub under_of : IsOf g.under nodes
  pub value_length : length g.step.value.items ≡ width
  pub enabled_length : length g.enabled.items ≡ width
