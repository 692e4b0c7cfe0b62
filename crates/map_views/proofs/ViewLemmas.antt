-- The fields of a register map as others see them.
use Rattle.std.proofs.Common.{◌≡◌, ◌≢◌, ℕ, zero, suc, ◌<◌, Bool, true, false, List, [], ◌∷◌, length, map, get_or, slice_get, slice_index, Option, Some, None, refl, sym, ap, ◌∙◌, arith, subst}
use Rattle.std.specs.Option.{option_map_or}
use Rattle.std.specs.declared.vec.Vec.{Vec}
use Rattle.std.specs.declared.alloc.Global.{Global}
use Rattle.std.proofs.Math.ListN.{get_or-map}
use Rattle.std.proofs.lemmas.List.{length-map}
use Rattle.std.proofs.lemmas.Simd.{get_or-zip2, length-zip2}
use Rattle.std.proofs.lemmas.Option.{slice_get-map, slice_get_within, slice_get-get_or, same_Some}
use Rattle.bit_base.specs.Numbers.{number_of, low_bits}
use Rattle.bit_base.proofs.Numbers.{low_bits-number_of}
use Rattle.field_policies.specs.declared.field.Field.{Field}
use Rattle.field_policies.specs.declared.signal.HwInput.{HwInput}
use Rattle.field_policies.specs.declared.map.RegMap.{RegMap}
use Rattle.field_policies.specs.Expressions.{value_of, input_value}
use Rattle.gate_graph.specs.declared.wires.Wire.{Wire}
use Rattle.gate_graph.specs.declared.nodes.Node.{Node}
use Rattle.gate_graph.specs.Gates.{Extends, Means, AreOf}
use Rattle.gate_graph.proofs.GateLemmas.{means_later, are_of_later}
use Rattle.gate_graph.specs.Sharing.{HasZero}
use Rattle.reg_machine.specs.Conditions.{IsFieldOf}
use Rattle.reg_machine.proofs.Views.{got, field_of}
use Rattle.word_gates.specs.Words.{values, Shows}
use Rattle.word_gates.proofs.WordLemmas.{length-values, shows_itself, shows_same}
use Rattle.expr_gates.specs.declared.view.FieldView.{FieldView}
use Rattle.expr_gates.specs.Laws.{AreViews}
use Rattle.latch_order.specs.Latches.{Stored}
use Rattle.latch_order.specs.Wires.{stored_wires}
use Rattle.expr_gates.specs.Graphs.{viewed_made}
use Rattle.latch_order.specs.declared.latches.StateGates.{StateGates}
use Rattle.field_edges.specs.Given.{AreGiven, AreStates}
use Rattle.field_edges.specs.Made.{words_of, view_wires}
use Rattle.field_edges.proofs.GivenLemmas.{IsWord, states_later}
use Rattle.field_edges.proofs.LoopLemmas.{index_map}
use Rattle.map_views.specs.Views.{AreInputs, AllStates, AreShown, IsShown, stores_of, value_by, with_value, view_made, pair_of, pairs_of}
use Rattle.map_views.specs.Laws.{values_at, inputs_at, view_at, HaveSources, ViewsAreMachines}

-- a word stands for its number
pub back : (v : ℕ → Bool) (wires : List Wire) (w : ℕ) → length wires ≡ w → values v wires ≡ low_bits w (number_of (values v wires))
back v wires w long = sym (low_bits-number_of (values v wires)) ∙ ap (λ k. low_bits k (number_of (values v wires))) (length-values v wires ∙ long)

-- what a field's value wires are
value_is : (fields : List Field) (inputs : List HwInput) (states : List StateGates) (hw : List (Vec Wire Global)) (n : ℕ) (f : Field) (s : StateGates) (v : ℕ → Bool) (wire : Bool) (source : Option ℕ) (wires : List Wire)
    → f.wire ≡ wire → f.data_in ≡ source → ((k : ℕ) → f.data_in ≡ Some k → k < length hw) → (f.wire ≡ true → f.data_in ≢ None) → slice_get states n ≡ Some s → wires ≡ value_by (words_of hw) wire source s.value.items → length wires ≡ f.width
    → values v wires ≡ low_bits f.width (value_of (values_at v states) (inputs_at v hw) n f)
value_is fields inputs states hw n f s v true None wires w d there some at is long = absurd (some w d)
value_is fields inputs states hw n f s v true (Some k) wires w d there some at is long =
    let x = got hw k (there k d) in
    let same : wires ≡ x.0.items = is ∙ (ap (λ o. option_map_or (λ y. y) o []) (slice_get-map (λ (y : Vec Wire Global). y.items) hw k) ∙ rw x.1 refl) in
    let number : value_of (values_at v states) (inputs_at v hw) n f ≡ number_of (values v x.0.items) = rw (w, d) (index_map (λ (y : Vec Wire Global). number_of (values v y.items)) hw k x.0 x.1) in
    back v wires f.width long ∙ ap (low_bits f.width) (ap (λ ws. number_of (values v ws)) same ∙ sym number)
value_is fields inputs states hw n f s v false source wires w d there some at is long =
    let number : value_of (values_at v states) (inputs_at v hw) n f ≡ number_of (values v s.value.items) = rw w (index_map (λ (s : StateGates). number_of (values v s.value.items)) states n s at) in
    back v wires f.width long ∙ ap (low_bits f.width) (ap (λ ws. number_of (values v ws)) is ∙ sym number)

shown_any : (nodes : List Node) (fields : List Field) (states : List StateGates) (hw : List (Vec Wire Global)) (views : List FieldView) → AllStates nodes fields states → length views ≡ length fields → AreShown nodes fields states hw views
    → (n : ℕ) (g : FieldView) → slice_get views n ≡ Some g → (f : Field) × ((s : StateGates) × IsShown nodes f s hw g)
shown_any nodes fields states hw views stored long shown n g here =
    let lt : n < length fields = omega (arith, slice_get_within views n g here, long) in
    let f = got fields n lt in
    let s = got states n (omega (arith, lt, stored.one_each)) in
    (f.0, (s.0, shown n g here f.0 f.1 s.0 s.1))

pub views_are : ViewsAreMachines
views_are nodes fields inputs states views hw sources stored given_in given shown = record {
  zero = given.zero;
  one_each = given.one_each;
  input_each = given.input_each;
  fields_are = λ v. refl;
  value = λ n f g at here.
      let s = got states n (omega (arith, stored.one_each, slice_get_within fields n f at)) in
      record {
        of = given.value_of n g here;
        value = λ v r. value_is fields inputs states hw n f s.0 v f.wire f.data_in g.value.items refl refl
            (λ k e. omega (arith, sources.there n f at k e, given.input_each)) (sources.wires n f at) s.1 (shown n g here f at s.0 s.1).value (given.value_length n f g at here);
      };
  anded = λ n g here. (shown_any nodes fields states hw views stored given.one_each shown n g here).1.1.anded;
  ored = λ n g here. (shown_any nodes fields states hw views stored given.one_each shown n g here).1.1.ored;
  xored = λ n g here. (shown_any nodes fields states hw views stored given.one_each shown n g here).1.1.xored;
  input = λ k h x at here. record {
    of = given.input_of k x here;
    value = λ v r. back v x.items h.width (given.input_length k h x at here) ∙ ap (low_bits h.width) (sym (index_map (λ (y : Vec Wire Global). number_of (values v y.items)) hw k x here));
  };
}

-- the views that are made one after the other
pub shown_later : (old new : List Node) (k : ℕ) (f : Field) (s : StateGates) (hw : List (Vec Wire Global)) (g : FieldView) → Extends old new k → IsShown old f s hw g → IsShown new f s hw g
shown_later old new k f s hw g e is = record {
  value = is.value;
  anded = means_later old new k _ _ e is.anded;
  ored = means_later old new k _ _ e is.ored;
  xored = means_later old new k _ _ e is.xored;
}

-- the wires of a field's value are of the graph
value_word : (nodes : List Node) (inputs : List HwInput) (hw : List (Vec Wire Global)) (width : ℕ) (wire : Bool) (source : Option ℕ) (stored : List Wire) → AreInputs nodes inputs hw
    → ((k : ℕ) → source ≡ Some k → k < length inputs) → ((k : ℕ) (h : HwInput) → source ≡ Some k → slice_get inputs k ≡ Some h → h.width ≡ width) → IsWord nodes stored width → IsWord nodes (value_by (words_of hw) wire source stored) width
value_word nodes inputs hw width true None stored a there wide h = h
value_word nodes inputs hw width false None stored a there wide h = h
value_word nodes inputs hw width false (Some k) stored a there wide h = h
value_word nodes inputs hw width true (Some k) stored a there wide h =
    let i = got inputs k (there k refl) in
    let x = got hw k (omega (arith, a.one_each, there k refl)) in
    let same : value_by (words_of hw) true (Some k) stored ≡ x.0.items = ap (λ o. option_map_or (λ y. y) o []) (slice_get-map (λ (y : Vec Wire Global). y.items) hw k) ∙ rw x.1 refl in
    rw same record { of = a.of k x.0 x.1; long = a.width k i.0 x.0 i.1 x.1 ∙ wide k i.0 refl i.1 }

pub value_of_field : (nodes : List Node) (map_of : RegMap) (f : Field) (s : StateGates) (hw : List (Vec Wire Global)) → IsFieldOf map_of f → AreInputs nodes map_of.inputs.items hw → AreStates nodes f.width s
    → IsWord nodes (value_by (words_of hw) f.wire f.data_in s.value.items) f.width
value_of_field nodes map_of f s hw is a h = value_word nodes map_of.inputs.items hw f.width f.wire f.data_in s.value.items a is.source is.source_width record { of = h.value_of; long = h.value_length }

pub all_later : (old new : List Node) (k : ℕ) (fields : List Field) (states : List StateGates) → Extends old new k → AllStates old fields states → AllStates new fields states
all_later old new k fields states e a = record { one_each = a.one_each; each = λ n f s at here. states_later old new k f.width s e (a.each n f s at here) }

pub inputs_later : (old new : List Node) (k : ℕ) (inputs : List HwInput) (hw : List (Vec Wire Global)) → Extends old new k → AreInputs old inputs hw → AreInputs new inputs hw
inputs_later old new k inputs hw e a = record { one_each = a.one_each; of = λ i x at. are_of_later _ old new k e (a.of i x at); width = a.width }

value_here : (nodes : List Node) (map_of : RegMap) (states : List StateGates) (hw : List (Vec Wire Global)) (views : List FieldView) → length views ≡ length map_of.fields.items → AllStates nodes map_of.fields.items states
    → AreInputs nodes map_of.inputs.items hw → AreShown nodes map_of.fields.items states hw views → (n : ℕ) (f : Field) (g : FieldView) → slice_get map_of.fields.items n ≡ Some f → slice_get views n ≡ Some g → IsWord nodes g.value.items f.width
value_here nodes map_of states hw views long stored inputs shown n f g at here =
    let s = got states n (omega (arith, slice_get_within map_of.fields.items n f at, stored.one_each)) in
    rw (shown n g here f at s.0 s.1).value (value_of_field nodes map_of f s.0 hw (field_of map_of n f at) inputs (stored.each n f s.0 at s.1))

pub given_all : (nodes : List Node) (map_of : RegMap) (states : List StateGates) (hw : List (Vec Wire Global)) (views : List FieldView) → HasZero nodes → length views ≡ length map_of.fields.items → AllStates nodes map_of.fields.items states
    → AreInputs nodes map_of.inputs.items hw → AreShown nodes map_of.fields.items states hw views → AreGiven nodes map_of.fields.items map_of.inputs.items views hw
given_all nodes map_of states hw views first long stored inputs shown =
    let fields : List Field = map_of.fields.items in
    let any : (n : ℕ) (g : FieldView) → slice_get views n ≡ Some g → (f : Field) × ((s : StateGates) × IsShown nodes f s hw g) = shown_any nodes fields states hw views stored long shown in
    record {
      zero = first;
      one_each = long;
      input_each = inputs.one_each;
      value_of = λ n g here.
          let f = got fields n (omega (arith, slice_get_within views n g here, long)) in
          (value_here nodes map_of states hw views long stored inputs shown n f.0 g f.1 here).of;
      anded_of = λ n g here. (any n g here).1.1.anded.of;
      ored_of = λ n g here. (any n g here).1.1.ored.of;
      xored_of = λ n g here. (any n g here).1.1.xored.of;
      input_of = inputs.of;
      value_length = λ n f g at here. (value_here nodes map_of states hw views long stored inputs shown n f g at here).long;
      input_length = inputs.width;
    }

pub made_here : (nodes : List Node) (fields : List Field) (states : List StateGates) (n : ℕ) (f : Field) (s : StateGates) (hw : List (Vec Wire Global)) (g : FieldView) → slice_get fields n ≡ Some f → slice_get states n ≡ Some s → IsShown nodes f s hw g
    → (f' : Field) → slice_get fields n ≡ Some f' → (s' : StateGates) → slice_get states n ≡ Some s' → IsShown nodes f' s' hw g
made_here nodes fields states n f s hw g at here is f' at' s' here' =
    subst (λ x. IsShown nodes x s' hw g) (same_Some f f' (sym at ∙ at')) (subst (λ x. IsShown nodes f x hw g) (same_Some s s' (sym here ∙ here')) is)

pub view_is : (hw : List (List Wire)) (old new : List Node) (f : Field) (s : Stored Wire) (ws : List Wire) (g : FieldView) → ws ≡ value_by hw f.wire f.data_in s.value → g.value.items ≡ ws
    → viewed_made old ws ≡ ((g.anded, (g.ored, g.xored)), new) → view_made hw old (f, s) ≡ (view_wires g, new)
view_is hw old new f s ws g is same made =
    ap (λ l. with_value l (viewed_made old l)) (sym is) ∙ (ap (with_value ws) made ∙ ap (λ (l : List Wire). (record { value = l; anded = g.anded; ored = g.ored; xored = g.xored }, new)) (sym same))

pub pair_at : (fields : List Field) (states : List StateGates) (n : ℕ) (f : Field) (s : StateGates) → n < length fields → n < length states → get_or fields n f ≡ f → get_or states n s ≡ s
    → get_or (pairs_of fields (stores_of states)) n (pair_of f (stored_wires s)) ≡ pair_of f (stored_wires s)
pair_at fields states n f s p q is here =
    get_or-zip2 pair_of fields (stores_of states) n f (stored_wires s) (pair_of f (stored_wires s)) p (omega (arith, q, length-map states stored_wires))
    ∙ (ap (λ x. pair_of x (get_or (stores_of states) n (stored_wires s))) is ∙ ap (pair_of f) (get_or-map stored_wires states n s ∙ ap stored_wires here))

pub pairs_long : (fields : List Field) (states : List StateGates) → length states ≡ length fields → length (pairs_of fields (stores_of states)) ≡ length fields
pairs_long fields states long = length-zip2 pair_of fields (stores_of states) (omega (arith, long, length-map states stored_wires))

-- an element of a list, by its number
pub at_index : {A : Type 0} (xs : List A) (n : ℕ) (x : A) → n < length xs → x ≡ get_or xs n x → slice_get xs n ≡ Some x
at_index xs n x lt is = slice_get-get_or xs n x lt ∙ ap Some (sym is)

pub or_at : {A : Type 0} (xs : List A) (n : ℕ) (x : A) → slice_get xs n ≡ Some x → get_or xs n x ≡ x
or_at [] n x at = refl
or_at (y ∷ xs) zero x at = same_Some y x at
or_at (y ∷ xs) (suc n) x at = or_at xs n x at
