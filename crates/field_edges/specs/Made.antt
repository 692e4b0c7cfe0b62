-- Which graph each call builds, as a function of lists of wires.
use Rattle.std.specs.Prelude.{ℕ, if◌then◌else◌, List, [], ◌∷◌, ◌++◌, map, replicate, get_or, slice_get, Option, Some, None, is_some}
use Rattle.std.specs.List.{fold}
use Rattle.std.specs.Option.{option_map_or}
use Rattle.std.specs.declared.vec.Vec.{Vec}
use Rattle.std.specs.declared.alloc.Global.{Global}
use Rattle.field_policies.specs.declared.field.Field.{Field}
use Rattle.field_policies.specs.declared.signal.Gate.{Gate}
use Rattle.field_policies.specs.declared.signal.HwExpr.{HwExpr}
use Rattle.field_policies.specs.declared.signal.HwExpr.TheVariants as expr
use Rattle.field_policies.specs.Fields.{incr_of, decr_of}
use Rattle.gate_graph.specs.declared.wires.Wire.{Wire}
use Rattle.gate_graph.specs.declared.nodes.Node.{Node}
use Rattle.word_gates.specs.Graphs.{off, on, inverse, as_bit}
use Rattle.expr_gates.specs.declared.view.FieldView.{FieldView}
use Rattle.side_gates.specs.Graphs.{SourceWires, any_three_made}
use Rattle.event_gates.specs.Places.{enabled_made, payload_of_field}
use Rattle.field_gates.specs.SeenGates.{SeenWires}
use Rattle.field_gates.specs.StepGraphs.{step_made}
use Rattle.latch_order.specs.Latches.{Stored}
use Rattle.field_edges.specs.declared.edge.EdgeGates.{EdgeGates}
use Rattle.field_edges.specs.Kinds.{kind_made}

-- a field as others see it, what it stores, and what it is at an edge
pub record ViewWires : Type 0 where
  pub value : List Wire
  pub anded : Wire
  pub ored : Wire
  pub xored : Wire

abbrev pub view_wires : FieldView → ViewWires
view_wires g = record { value = g.value.items; anded = g.anded; ored = g.ored; xored = g.xored }

pub record EdgeWires : Type 0 where
  pub software : Wire
  pub value : List Wire
  pub used : Wire
  pub known : Wire
  pub enabled : List Wire
  pub over : Wire
  pub under : Wire

abbrev pub edge_wires : EdgeGates → EdgeWires
edge_wires g = record { software = g.step.software; value = g.step.value.items; used = g.step.used; known = g.step.known; enabled = g.enabled.items; over = g.over; under = g.under }

abbrev pub views_of : List FieldView → List ViewWires
views_of views = map view_wires views

abbrev pub words_of : List (Vec Wire Global) → List (List Wire)
words_of hw = map (λ x. x.items) hw

-- an expression, one of one bit that may be missing, a gate of one bit, and one of many
abbrev pub expr_by : List ViewWires → List (List Wire) → HwExpr → List Wire
expr_by views hw (expr.Input k) = option_map_or (λ x. x) (slice_get hw k) []
expr_by views hw (expr.Value n) = option_map_or (λ g. g.value) (slice_get views n) []
expr_by views hw (expr.Anded n) = option_map_or (λ g. g.anded ∷ []) (slice_get views n) []
expr_by views hw (expr.Ored n) = option_map_or (λ g. g.ored ∷ []) (slice_get views n) []
expr_by views hw (expr.Xored n) = option_map_or (λ g. g.xored ∷ []) (slice_get views n) []

abbrev pub given_by : List ViewWires → List (List Wire) → Option HwExpr → Wire
given_by views hw None = off
given_by views hw (Some e) = get_or (expr_by views hw e) 0 off

abbrev pub open_by : List ViewWires → List (List Wire) → Option Gate → Wire
open_by views hw None = on
open_by views hw (Some g) = as_bit (get_or (expr_by views hw g.expr) 0 off) g.high

abbrev pub opened_by : ℕ → List ViewWires → List (List Wire) → Option Gate → List Wire
opened_by width views hw None = replicate width on
opened_by width views hw (Some g) = if g.high then expr_by views hw g.expr else map inverse (expr_by views hw g.expr)

abbrev pub data_by : List (List Wire) → ℕ → Option ℕ → List Wire
data_by hw width None = replicate width off
data_by hw width (Some k) = option_map_or (λ x. x) (slice_get hw k) []

-- what hardware gives to a field
abbrev pub source_by : Field → List ViewWires → List (List Wire) → SourceWires
source_by f views hw = record {
  taken = if is_some f.data_in then open_by views hw f.data_gate else off;
  set = given_by views hw f.set;
  clear = given_by views hw f.clear;
  incr = given_by views hw (incr_of f.extra);
  decr = given_by views hw (decr_of f.extra);
  given = data_by hw f.width f.data_in;
}

-- what a field sees at an edge, and whether its count goes over and under, from what hardware gives to it and what its gates let through
unfoldable pub seen_from : Field → List Node → Stored Wire → Wire × Wire → List Wire → List Wire → SourceWires → Wire → List Wire → (SeenWires × (Wire × Wire)) × List Node
seen_from f ns state hit strobe payload source allowed opened =
    let enabled = enabled_made f ns hit.1 strobe in
    let whole = any_three_made enabled.1 source.taken source.set source.clear in
    let kind = kind_made f.extra whole.1 source state.value in (
      (
        record {
          reads = hit.0;
          allowed = allowed;
          used = state.used;
          known = state.known;
          active = kind.0.0;
          whole = whole.0;
          enabled = enabled.0;
          payload = payload_of_field f payload;
          value = state.value;
          side = kind.0.1.0;
          opened = opened;
        },
        kind.0.1.1,
      ),
      kind.1,
    )

abbrev pub seen_made : Field → List Node → Stored Wire → Wire × Wire → List Wire → List Wire → List ViewWires → List (List Wire) → (SeenWires × (Wire × Wire)) × List Node
seen_made f ns state hit strobe payload views hw = seen_from f ns state hit strobe payload (source_by f views hw) (open_by views hw f.sw_gate) (opened_by f.width views hw f.bit_gate)

-- a field at an edge
unfoldable pub edge_made : Field → List Node → Stored Wire → Wire × Wire → List Wire → List Wire → List ViewWires → List (List Wire) → EdgeWires × List Node
edge_made f ns state hit strobe payload views hw =
    let at = seen_made f ns state hit strobe payload views hw in
    let step = step_made f at.1 at.0.0 in (
      record {
        software = step.0.0;
        value = step.0.1.0;
        used = step.0.1.1.0;
        known = step.0.1.1.1;
        enabled = at.0.0.enabled;
        over = at.0.1.0;
        under = at.0.1.1;
      },
      step.1,
    )

-- one after the other
abbrev pub each_made : {X A : Type 0} → (List Node → X → A × List Node) → List Node → List X → List A × List Node
each_made f ns xs = fold (λ made x. (made.0 ++ (f made.1 x).0 ∷ [], (f made.1 x).1)) ([], ns) xs
