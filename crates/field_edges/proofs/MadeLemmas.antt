-- Expressions as lists of wires.
use Rattle.std.proofs.Common.{◌≡◌, ℕ, zero, suc, Bool, true, false, if◌then◌else◌, List, [], ◌∷◌, map, get_or, slice_get, Option, Some, None, refl, sym, ap, ◌∙◌}
use Rattle.std.specs.Prelude.{is_some}
use Rattle.std.specs.Option.{option_map_or}
use Rattle.std.specs.declared.vec.Vec.{Vec}
use Rattle.std.specs.declared.alloc.Global.{Global}
use Rattle.field_policies.specs.declared.field.Field.{Field}
use Rattle.field_policies.specs.declared.signal.Gate.{Gate}
use Rattle.field_policies.specs.declared.signal.HwExpr.{HwExpr}
use Rattle.field_policies.specs.declared.signal.HwExpr.TheVariants.{Input, Value, Anded, Ored, Xored}
use Rattle.field_policies.specs.Fields.{incr_of, decr_of}
use Rattle.gate_graph.specs.declared.wires.Wire.{Wire}
use Rattle.word_gates.specs.Graphs.{off, inverse, as_bit}
use Rattle.expr_gates.specs.declared.view.FieldView.{FieldView}
use Rattle.expr_gates.specs.Graphs.{expr_wires, given_made, open_made, opened_made}
use Rattle.side_gates.specs.declared.source.SourceGates.{SourceGates}
use Rattle.side_gates.specs.Graphs.{IsSource, data_made, source_wires}
use Rattle.side_gates.specs.Graphs.{SourceWires, any_three_made}
use Rattle.gate_graph.specs.declared.nodes.Node.{Node}
use Rattle.event_gates.specs.Places.{enabled_made, payload_of_field}
use Rattle.field_gates.specs.SeenGates.{SeenWires}
use Rattle.field_gates.specs.StepGraphs.{step_made}
use Rattle.latch_order.specs.Latches.{Stored}
use Rattle.field_edges.specs.Kinds.{kind_made}
use Rattle.field_edges.specs.Made.{ViewWires, view_wires, views_of, words_of, expr_by, given_by, open_by, opened_by, data_by, source_by, seen_from, seen_made, edge_made}

through : {A B C : Type 0} (f : A → B) (g : B → C) (xs : List A) (n : ℕ) (d : C) → option_map_or (λ x. g (f x)) (slice_get xs n) d ≡ option_map_or g (slice_get (map f xs) n) d
through f g [] n d = refl
through f g (x ∷ xs) zero d = refl
through f g (x ∷ xs) (suc n) d = through f g xs n d

pub expr_is : (views : List FieldView) (hw : List (Vec Wire Global)) (e : HwExpr) → expr_wires views hw e ≡ expr_by (map view_wires views) (words_of hw) e
expr_is views hw (Input k) = through (λ (x : Vec Wire Global). x.items) (λ x. x) hw k []
expr_is views hw (Value n) = through view_wires (λ g. g.value) views n []
expr_is views hw (Anded n) = through view_wires (λ g. g.anded ∷ []) views n []
expr_is views hw (Ored n) = through view_wires (λ g. g.ored ∷ []) views n []
expr_is views hw (Xored n) = through view_wires (λ g. g.xored ∷ []) views n []

pub given_is : (views : List FieldView) (hw : List (Vec Wire Global)) (x : Option HwExpr) → given_made views hw x ≡ given_by (map view_wires views) (words_of hw) x
given_is views hw None = refl
given_is views hw (Some e) = ap (λ ws. get_or ws 0 off) (expr_is views hw e)

pub open_is : (views : List FieldView) (hw : List (Vec Wire Global)) (x : Option Gate) → open_made views hw x ≡ open_by (map view_wires views) (words_of hw) x
open_is views hw None = refl
open_is views hw (Some g) = ap (λ ws. as_bit (get_or ws 0 off) g.high) (expr_is views hw g.expr)

pub opened_is : (width : ℕ) (views : List FieldView) (hw : List (Vec Wire Global)) (x : Option Gate) → opened_made width views hw x ≡ opened_by width (map view_wires views) (words_of hw) x
opened_is width views hw None = refl
opened_is width views hw (Some g) = ap (λ ws. if g.high then ws else map inverse ws) (expr_is views hw g.expr)

data_is : (hw : List (Vec Wire Global)) (width : ℕ) (x : Option ℕ) → data_made hw width x ≡ data_by (words_of hw) width x
data_is hw width None = refl
data_is hw width (Some k) = through (λ (x : Vec Wire Global). x.items) (λ x. x) hw k []

pub source_is : (f : Field) (views : List FieldView) (hw : List (Vec Wire Global)) (s : SourceGates) → IsSource f views hw s → source_wires s ≡ source_by f (map view_wires views) (words_of hw)
source_is f views hw s is = rw (is.taken, is.set, is.clear, is.incr, is.decr, is.given, open_is views hw f.data_gate, given_is views hw f.set, given_is views hw f.clear, given_is views hw (incr_of f.extra), given_is views hw (decr_of f.extra), data_is hw f.width f.data_in) refl

-- what a field sees, step by step
pub seen_is : (f : Field) (ns : List Node) (state : Stored Wire) (hit : Wire × Wire) (strobe payload : List Wire) (views : List FieldView) (hw : List (Vec Wire Global)) (source : SourceGates) (allowed : Wire) (opened : List Wire)
    → IsSource f views hw source → allowed ≡ open_made views hw f.sw_gate → opened ≡ opened_made f.width views hw f.bit_gate
    → seen_made f ns state hit strobe payload (views_of views) (words_of hw) ≡ seen_from f ns state hit strobe payload (source_wires source) allowed opened
seen_is f ns state hit strobe payload views hw source allowed opened is a o =
    ap (λ x. seen_from f ns state hit strobe payload x (open_by (views_of views) (words_of hw) f.sw_gate) (opened_by f.width (views_of views) (words_of hw) f.bit_gate)) (sym (source_is f views hw source is))
    ∙ (ap (λ x. seen_from f ns state hit strobe payload (source_wires source) x (opened_by f.width (views_of views) (words_of hw) f.bit_gate)) (sym (a ∙ open_is views hw f.sw_gate))
    ∙ ap (λ x. seen_from f ns state hit strobe payload (source_wires source) allowed x) (sym (o ∙ opened_is f.width views hw f.bit_gate)))

pub seen_steps : (f : Field) (ns n1 n2 n3 : List Node) (state : Stored Wire) (hit : Wire × Wire) (strobe payload : List Wire) (source : SourceWires) (allowed whole active over under : Wire) (opened enabled side written value : List Wire)
    → enabled_made f ns hit.1 strobe ≡ (enabled, n1) → any_three_made n1 source.taken source.set source.clear ≡ (whole, n2) → kind_made f.extra n2 source state.value ≡ ((active, (side, (over, under))), n3)
    → written ≡ payload_of_field f payload → value ≡ state.value
    → seen_from f ns state hit strobe payload source allowed opened ≡ (
      (
        record {
          reads = hit.0;
          allowed = allowed;
          used = state.used;
          known = state.known;
          active = active;
          whole = whole;
          enabled = enabled;
          payload = written;
          value = value;
          side = side;
          opened = opened;
        },
        (over, under),
      ),
      n3,
    )
unfolding seen_from
seen_steps f ns n1 n2 n3 state hit strobe payload source allowed whole active over under opened enabled side written value a b c w x = rw (a, b, c, w, x) refl

pub edge_steps : (f : Field) (ns n1 n2 : List Node) (state : Stored Wire) (hit : Wire × Wire) (strobe payload : List Wire) (views : List ViewWires) (hw : List (List Wire)) (seen : SeenWires) (over under software used known : Wire) (value : List Wire)
    → seen_made f ns state hit strobe payload views hw ≡ ((seen, (over, under)), n1) → step_made f n1 seen ≡ ((software, (value, (used, known))), n2)
    → edge_made f ns state hit strobe payload views hw ≡ (record { software = software; value = value; used = used; known = known; enabled = seen.enabled; over = over; under = under }, n2)
unfolding edge_made
edge_steps f ns n1 n2 state hit strobe payload views hw seen over under software used known value a b = rw (a, b) refl
