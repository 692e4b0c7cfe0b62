-- Which wires and which graph each call gives, as a function of its arguments.
use Rattle.std.specs.Prelude.{◌≡◌, ℕ, if◌then◌else◌, List, [], length, replicate, slice_get, Option, Some, None, is_some}
use Rattle.std.specs.Option.{option_map_or}
use Rattle.std.specs.declared.vec.Vec.{Vec}
use Rattle.std.specs.declared.alloc.Global.{Global}
use Rattle.field_policies.specs.declared.field.Field.{Field}
use Rattle.field_policies.specs.declared.extra.Counter.{Counter}
use Rattle.field_policies.specs.Fields.{incr_of, decr_of}
use Rattle.gate_graph.specs.declared.wires.Wire.{Wire}
use Rattle.gate_graph.specs.declared.nodes.Node.{Node}
use Rattle.gate_graph.specs.Gates.{IsOf, AreOf}
use Rattle.word_gates.specs.Graphs.{off, inverse, or_made, bitwise_made, masked_made, between_made}
use Rattle.extra_gates.specs.Graphs.{counted_made}
use Rattle.expr_gates.specs.declared.view.FieldView.{FieldView}
use Rattle.expr_gates.specs.Graphs.{given_made, open_made}
use Rattle.side_gates.specs.declared.source.SourceGates.{SourceGates}

-- the wires are of the graph, and the data has one for each place
pub record AreSources (nodes : List Node) (width : ℕ) (s : SourceGates) : Type 0 where
  pub taken_of : IsOf s.taken nodes
  pub set_of : IsOf s.set nodes
  pub clear_of : IsOf s.clear nodes
  pub incr_of : IsOf s.incr nodes
  pub decr_of : IsOf s.decr nodes
  pub given_of : AreOf s.given.items nodes
  pub given_length : length s.given.items ≡ width

-- the same as lists of wires
pub record SourceWires : Type 0 where
  pub taken : Wire
  pub set : Wire
  pub clear : Wire
  pub incr : Wire
  pub decr : Wire
  pub given : List Wire

abbrev pub source_wires : SourceGates → SourceWires
source_wires s = record { taken = s.taken; set = s.set; clear = s.clear; incr = s.incr; decr = s.decr; given = s.given.items }

-- what hardware gives to a field, no gates
abbrev pub data_made : List (Vec Wire Global) → ℕ → Option ℕ → List Wire
data_made hw width None = replicate width off
data_made hw width (Some k) = option_map_or (λ x. x.items) (slice_get hw k) []

pub record IsSource (f : Field) (views : List FieldView) (hw : List (Vec Wire Global)) (s : SourceGates) : Type 0 where
  pub taken : s.taken ≡ (if is_some f.data_in then open_made views hw f.data_gate else off)
  pub set : s.set ≡ given_made views hw f.set
  pub clear : s.clear ≡ given_made views hw f.clear
  pub incr : s.incr ≡ given_made views hw (incr_of f.extra)
  pub decr : s.decr ≡ given_made views hw (decr_of f.extra)
  pub given : s.given.items ≡ data_made hw f.width f.data_in

-- ones, then zeros
unfoldable pub forced_made : List Node → Wire → Wire → List Wire → List Wire × List Node
forced_made ns set clear a =
    let high = bitwise_made 1 ns a (replicate (length a) set) in
    masked_made high.1 high.0 (inverse clear)

-- one of three wires, and of four
unfoldable pub any_three_made : List Node → Wire → Wire → Wire → Wire × List Node
any_three_made ns a b c =
    let two = or_made ns b c in
    or_made two.1 a two.0

unfoldable pub any_four_made : List Node → Wire → Wire → Wire → Wire → Wire × List Node
any_four_made ns a b c d =
    let three = any_three_made ns b c d in
    or_made three.1 a three.0

-- the side of each kind: whether it is active, then its bits
unfoldable pub plain_made : List Node → SourceWires → List Wire → (Wire × List Wire) × List Node
plain_made ns s value =
    let active = any_three_made ns s.taken s.set s.clear in
    let taken = between_made active.1 s.given value s.taken in
    let bits = forced_made taken.1 s.set s.clear taken.0 in
    ((active.0, bits.0), bits.1)

-- a counter's, and whether it goes over and under
unfoldable pub counter_made : Counter → List Node → SourceWires → List Wire → (Wire × (List Wire × (Wire × Wire))) × List Node
counter_made c ns s value =
    let active = any_four_made ns s.incr s.decr s.set s.clear in
    let count = counted_made c active.1 value s.incr s.decr in
    let bits = forced_made count.1 s.set s.clear count.0.0 in
    ((active.0, (bits.0, count.0.1)), bits.1)
