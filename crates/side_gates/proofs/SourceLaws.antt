-- What hardware gives to a field, as wires.
use Rattle.std.proofs.Common.{◌≡◌, ℕ, zero, suc, ◌<◌, Bool, true, false, ◌&&◌, if◌then◌else◌, List, length, replicate, Option, Some, None, slice_get, slice_index, IsTrue, refl, sym, ap, ◌∙◌}
use Rattle.std.specs.Prelude.{is_some, nat_lt}
use Rattle.std.specs.declared.vec.Vec.{Vec}
use Rattle.std.specs.declared.alloc.Global.{Global}
use Rattle.std.proofs.lemmas.Bool.{lt-ltb}
use Rattle.bit_base.specs.Numbers.{low_bits}
use Rattle.field_policies.specs.declared.field.Field.{Field}
use Rattle.field_policies.specs.declared.signal.HwInput.{HwInput}
use Rattle.field_policies.specs.Fields.{incr_of, decr_of}
use Rattle.field_policies.specs.Expressions.{input_value}
use Rattle.gate_graph.specs.declared.wires.Wire.{Wire}
use Rattle.gate_graph.specs.declared.nodes.Node.{Node}
use Rattle.gate_graph.specs.Gates.{wire_value, Respects}
use Rattle.gate_graph.proofs.GateLemmas.{means_zero}
use Rattle.reg_machine.specs.Steps as machine
use Rattle.reg_machine.specs.Steps.{View, opens, gives}
use Rattle.word_gates.specs.Graphs.{off}
use Rattle.word_gates.specs.Words.{values}
use Rattle.extra_gates.proofs.NumberLemmas.{low_zeros}
use Rattle.expr_gates.specs.declared.view.FieldView.{FieldView}
use Rattle.expr_gates.specs.Graphs.{open_made}
use Rattle.expr_gates.specs.Laws.{AreViews}
use Rattle.expr_gates.proofs.ExprLemmas.{given, gates, there}
use Rattle.side_gates.specs.Graphs.{data_made}
use Rattle.side_gates.specs.Laws.{SourcesAreMachines}

-- the data of a field, by its input
values_off : (v : ℕ → Bool) (w : ℕ) → wire_value v off ≡ false → values v (replicate w off) ≡ replicate w false
values_off v zero z = refl
values_off v (suc w) z = rw (z, values_off v w z) refl

data_is : (nodes : List Node) (fields : List Field) (inputs : List HwInput) (w : (ℕ → Bool) → View) (views : List FieldView) (hw : List (Vec Wire Global)) (width : ℕ) (x : Option ℕ)
    → AreViews nodes fields inputs w views hw → ((k : ℕ) → x ≡ Some k → k < length inputs) → ((k : ℕ) (h : HwInput) → x ≡ Some k → slice_get inputs k ≡ Some h → h.width ≡ width)
    → (v : ℕ → Bool) → Respects v nodes → values v (data_made hw width x) ≡ low_bits width (input_value (w v).hw x)
data_is nodes fields inputs w views hw width None a h wide v r = values_off v width ((means_zero nodes off a.zero refl).value v r) ∙ sym (low_zeros width)
data_is nodes fields inputs w views hw width (Some k) a h wide v r =
    let lt : IsTrue (nat_lt k (length inputs)) = lt-ltb k (length inputs) (h k refl) in
    let x = there hw k (length inputs) a.input_each lt in
    let i = there inputs k (length inputs) refl lt in
    rw x.1 ((a.input k i.0 x.0 i.1 x.1).value v r ∙ ap (λ m. low_bits m (slice_index (w v).hw k)) (wide k i.0 refl i.1))

-- the data is taken
taken_is : (nodes : List Node) (wire : Wire) (b : Bool) (v : ℕ → Bool) (open_bit : Bool) → wire_value v off ≡ false → wire_value v wire ≡ open_bit → wire_value v (if b then wire else off) ≡ (b && open_bit)
taken_is nodes wire true v o z e = e
taken_is nodes wire false v o z e = z

pub sources : SourcesAreMachines
unfolding machine.is_taken
sources nodes fields inputs w views hw f s value n a fits is shows below data_below v r =
    let z : wire_value v off ≡ false = (means_zero nodes off a.zero refl).value v r in
    let set = given nodes fields inputs w views hw f.set a fits.in_range.set fits.widths.set in
    let clear = given nodes fields inputs w views hw f.clear a fits.in_range.clear fits.widths.clear in
    let incr = given nodes fields inputs w views hw (incr_of f.extra) a fits.in_range.incr fits.widths.incr in
    let decr = given nodes fields inputs w views hw (decr_of f.extra) a fits.in_range.decr fits.widths.decr in
    let opened = gates nodes fields inputs w views hw f.data_gate a fits.in_range.data_gate fits.widths.data_gate in
    record {
      taken = ap (wire_value v) is.taken ∙ taken_is nodes (open_made views hw f.data_gate) (is_some f.data_in) v (opens (w v) f.data_gate 0) z (opened.value v r);
      set = ap (wire_value v) is.set ∙ set.value v r;
      clear = ap (wire_value v) is.clear ∙ clear.value v r;
      incr = λ c kind. ap (wire_value v) is.incr ∙ (incr.value v r ∙ ap (λ e. gives (w v) (incr_of e)) kind);
      decr = λ c kind. ap (wire_value v) is.decr ∙ (decr.value v r ∙ ap (λ e. gives (w v) (decr_of e)) kind);
      given = ap (values v) is.given ∙ data_is nodes fields inputs w views hw f.width f.data_in a fits.source fits.source_width v r;
      given_fits = data_below v;
      value = shows.value v r;
      value_fits = below v;
    }
