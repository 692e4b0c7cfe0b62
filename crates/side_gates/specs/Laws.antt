-- The law that the side of hardware by bits is the register machine's.
use Rattle.std.specs.Prelude.{◌≡◌, ℕ, ◌<◌, ◌^◌, Bool, List, Some, length, map, slice_get}
use Rattle.std.specs.declared.vec.Vec.{Vec}
use Rattle.std.specs.declared.alloc.Global.{Global}
use Rattle.std.specs.List.{range_with_len}
use Rattle.bit_base.specs.Numbers.{low_bits}
use Rattle.field_policies.specs.declared.field.Field.{Field}
use Rattle.field_policies.specs.declared.extra.Extra.TheVariants as extra
use Rattle.field_policies.specs.declared.extra.Counter.{Counter}
use Rattle.field_policies.specs.declared.extra.Intr.{Intr}
use Rattle.field_policies.specs.declared.signal.HwInput.{HwInput}
use Rattle.field_policies.specs.Fields.{EachExpr, is_in_range, has_width}
use Rattle.field_policies.specs.Expressions.{input_value}
use Rattle.gate_graph.specs.declared.wires.Wire.{Wire}
use Rattle.gate_graph.specs.declared.nodes.Node.{Node}
use Rattle.gate_graph.specs.Gates.{Respects}
use Rattle.word_gates.specs.Words.{Shows}
use Rattle.expr_gates.specs.declared.view.FieldView.{FieldView}
use Rattle.expr_gates.specs.Laws.{AreViews}
use Rattle.side_gates.specs.declared.source.SourceGates.{SourceGates}
use Rattle.side_gates.specs.Graphs.{IsSource}
use Rattle.reg_machine.specs.Steps as machine
use Rattle.reg_machine.specs.Steps.{View}
use Rattle.side_gates.specs.Sides.{source_at, Source, plain_active, plain_bits, counter_active, counter_bits, count_at, intr_active, intr_bits}

-- what is seen is what the register machine sees of the field's hardware, where the field's value is v
pub record SeesSource (w : View) (f : Field) (v : ℕ) (s : Source) : Type 0 where
  pub taken : s.taken ≡ machine.is_taken w f
  pub set : s.set ≡ machine.is_set w f
  pub clear : s.clear ≡ machine.is_cleared w f
  pub incr : (c : Counter) → f.extra ≡ extra.Counter c → s.incr ≡ machine.gives w c.incr
  pub decr : (c : Counter) → f.extra ≡ extra.Counter c → s.decr ≡ machine.gives w c.decr
  pub given : s.given ≡ low_bits f.width (input_value w.hw f.data_in)
  pub given_fits : input_value w.hw f.data_in < 2 ^ f.width
  pub value : s.value ≡ low_bits f.width v
  pub value_fits : v < 2 ^ f.width

-- what its expressions read is there, each with the bits that it asks for
pub record IsReadable (fields : List Field) (inputs : List HwInput) (f : Field) : Type 0 where
  pub in_range : EachExpr (is_in_range (length fields) (length inputs)) (is_in_range (length fields) (length inputs)) f
  pub widths : EachExpr (has_width fields inputs 1) (has_width fields inputs f.width) f
  pub source : (k : ℕ) → f.data_in ≡ Some k → k < length inputs
  pub source_width : (k : ℕ) (h : HwInput) → f.data_in ≡ Some k → slice_get inputs k ≡ Some h → h.width ≡ f.width

abbrev pub places : Field → (ℕ → Bool) → List Bool
places f bits = map bits (range_with_len 0 f.width)

-- then each kind's side is the register machine's
pub record IsSide (w : View) (f : Field) (v : ℕ) (is_active : Bool) (side : List Bool) : Type 0 where
  pub active : is_active ≡ machine.is_hardware_active w f v
  pub bits : side ≡ places f (machine.side_of w f v f.extra).bits

abbrev pub PlainSideIsMachines : Type 0
PlainSideIsMachines = (w : View) (f : Field) (v : ℕ) (s : Source) → SeesSource w f v s → f.extra ≡ extra.Plain → IsSide w f v (plain_active s) (plain_bits s)

abbrev pub CounterSideIsMachines : Type 0
CounterSideIsMachines = (w : View) (f : Field) (v : ℕ) (s : Source) (c : Counter) → SeesSource w f v s → f.extra ≡ extra.Counter c
    → IsSide w f v (counter_active s) (counter_bits c f.width s) × (count_at c f.width s ≡ machine.count_of w f c v)

abbrev pub IntrSideIsMachines : Type 0
IntrSideIsMachines = (w : View) (f : Field) (v : ℕ) (s : Source) (n : Intr) → SeesSource w f v s → f.extra ≡ extra.Intr n → IsSide w f v (intr_active n.sticky s) (intr_bits n.sticky f.width s)

-- what hardware gives to a field, as wires, is what the register machine sees of it
abbrev pub SourcesAreMachines : Type 0
SourcesAreMachines = (nodes : List Node) (fields : List Field) (inputs : List HwInput) (w : (ℕ → Bool) → View) (views : List FieldView) (hw : List (Vec Wire Global)) (f : Field) (s : SourceGates)
    (value : List Wire) (n : (ℕ → Bool) → ℕ)
    → AreViews nodes fields inputs w views hw → IsReadable fields inputs f → IsSource f views hw s
    → Shows nodes value (λ v. low_bits f.width (n v)) → ((v : ℕ → Bool) → n v < 2 ^ f.width) → ((v : ℕ → Bool) → input_value (w v).hw f.data_in < 2 ^ f.width)
    → (v : ℕ → Bool) → Respects v nodes → SeesSource (w v) f (n v) (source_at v s value)
