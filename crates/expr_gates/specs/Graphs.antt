-- Which wires and which graph each call gives, as a function of its arguments.
use Rattle.std.specs.Prelude.{ℕ, if◌then◌else◌, List, [], ◌∷◌, map, replicate, get_or, slice_get, Option, Some, None}
use Rattle.std.specs.Option.{option_map_or}
use Rattle.std.specs.declared.vec.Vec.{Vec}
use Rattle.std.specs.declared.alloc.Global.{Global}
use Rattle.field_policies.specs.declared.signal.Gate.{Gate}
use Rattle.field_policies.specs.declared.signal.HwExpr.{HwExpr}
use Rattle.field_policies.specs.declared.signal.HwExpr.TheVariants as expr
use Rattle.gate_graph.specs.declared.wires.Wire.{Wire}
use Rattle.gate_graph.specs.declared.nodes.Node.{Node}
use Rattle.word_gates.specs.Graphs.{off, on, inverse, as_bit, all_made, any_made, parity_made}
use Rattle.expr_gates.specs.declared.view.FieldView.{FieldView}

-- the reductions of a field, each once
unfoldable pub viewed_made : List Node → List Wire → (Wire × (Wire × Wire)) × List Node
viewed_made ns value =
    let anded = all_made ns value in
    let ored = any_made anded.1 value in
    let xored = parity_made ored.1 value in
    ((anded.0, (ored.0, xored.0)), xored.1)

-- the wires of an expression
abbrev pub expr_wires : List FieldView → List (Vec Wire Global) → HwExpr → List Wire
expr_wires views hw (expr.Input k) = option_map_or (λ x. x.items) (slice_get hw k) []
expr_wires views hw (expr.Value n) = option_map_or (λ g. g.value.items) (slice_get views n) []
expr_wires views hw (expr.Anded n) = option_map_or (λ g. g.anded ∷ []) (slice_get views n) []
expr_wires views hw (expr.Ored n) = option_map_or (λ g. g.ored ∷ []) (slice_get views n) []
expr_wires views hw (expr.Xored n) = option_map_or (λ g. g.xored ∷ []) (slice_get views n) []

-- one of one bit that may be missing
abbrev pub given_made : List FieldView → List (Vec Wire Global) → Option HwExpr → Wire
given_made views hw None = off
given_made views hw (Some e) = get_or (expr_wires views hw e) 0 off

-- a gate of one bit, and one of many
abbrev pub open_made : List FieldView → List (Vec Wire Global) → Option Gate → Wire
open_made views hw None = on
open_made views hw (Some g) = as_bit (get_or (expr_wires views hw g.expr) 0 off) g.high

abbrev pub opened_made : ℕ → List FieldView → List (Vec Wire Global) → Option Gate → List Wire
opened_made width views hw None = replicate width on
opened_made width views hw (Some g) = if g.high then expr_wires views hw g.expr else map inverse (expr_wires views hw g.expr)
