-- What each field's outputs see, and how many gates all take.
use Rattle.std.proofs.Common.{◌≡◌, ℕ, suc, ◌+◌, ◌*◌, ◌<◌, ◌≤◌, ◌^◌, Bool, true, false, List, [], ◌∷◌, ◌++◌, length, map, slice_get, Some, refl, sym, ap, ◌∙◌, subst, arith}
use Rattle.std.specs.Prelude.{slice_index_or}
use Rattle.std.specs.List.{sum_by}
use Rattle.std.specs.Option.{option_map}
use Rattle.std.specs.declared.vec.Vec.{Vec}
use Rattle.std.specs.declared.alloc.Global.{Global}
use Rattle.std.proofs.lemmas.List.{get_or-map, length-map}
use Rattle.std.proofs.lemmas.List.Sums.{sum_by-cons}
use Rattle.std.proofs.lemmas.Option.{same_Some, slice_get_within, slice_get-map, get_or_from_slice_get}
use Rattle.bit_base.specs.Numbers.{number_of}
use Rattle.bit_base.proofs.Numbers.{number_of-below}
use Rattle.field_policies.specs.declared.field.Field.{Field}
use Rattle.field_policies.specs.declared.map.RegMap.{RegMap}
use Rattle.field_policies.specs.declared.signal.HwInput.{HwInput}
use Rattle.field_policies.specs.declared.signal.OutSignal.{OutSignal}
use Rattle.field_policies.specs.declared.extra.Extra.{Extra}
use Rattle.field_policies.specs.declared.extra.Extra.TheVariants as extra
use Rattle.field_policies.specs.Fields.{is_counter}
use Rattle.field_policies.specs.Expressions.{value_of}
use Rattle.gate_graph.specs.declared.wires.Wire.{Wire}
use Rattle.gate_graph.specs.declared.nodes.Node.{Node}
use Rattle.gate_graph.specs.Gates.{wire_value, Extends, Respects, AreOf, IsOf}
use Rattle.reg_machine.specs.Steps.{Edge, View}
use Rattle.reg_machine.specs.States.{State}
use Rattle.reg_machine.specs.Conditions.{AreValues, AreInputs}
use Rattle.reg_machine.specs.Machines.{overflow_of, underflow_of}
use Rattle.reg_machine.proofs.Views.{got}
use Rattle.word_gates.specs.Words.{values, Shows}
use Rattle.word_gates.proofs.WordLemmas.{means_same, length-values}
use Rattle.expr_gates.specs.declared.view.FieldView.{FieldView}
use Rattle.event_gates.specs.Events.{event_at}
use Rattle.event_gates.specs.declared.hits.EventGates.{EventGates}
use Rattle.event_gates.specs.declared.hits.HitGates.{HitGates}
use Rattle.latch_order.specs.declared.latches.StateGates.{StateGates}
use Rattle.field_edges.specs.declared.edge.EdgeGates.{EdgeGates}
use Rattle.field_edges.specs.Edges.{IsNext}
use Rattle.field_edges.specs.Given.{AreGiven}
use Rattle.field_edges.proofs.LoopLemmas.{facts_push, index_map}
use Rattle.map_views.specs.Views.{AllStates}
use Rattle.map_views.specs.Laws.{values_at, inputs_at}
use Rattle.map_edges.specs.Edges.{SeesMap, stored_number}
use Rattle.map_edges.proofs.EdgeLemmas.{sees_one}
use Rattle.next_latches.specs.Next.{state_at}
use Rattle.machine_edge.specs.Edges.{edge_at}
use Rattle.machine_cycle.specs.Latched.{latched_edge, latched_state}
use Rattle.machine_core.specs.Nodes.{around_nodes, core_nodes}
use Rattle.machine_core.proofs.NodeLemmas as core
use Rattle.raise_gates.specs.Raises.{intr_gates_of}
use Rattle.raise_gates.proofs.RaiseLemmas as raising
use Rattle.output_gates.specs.Outputs.{SeesOutputs, ShowsAll, output_gates_of, shown_signals, signal_bits}
use Rattle.output_gates.proofs.OutputLemmas.{all_later, all_same}
use Rattle.machine_gates.specs.Machines.{AreOutputs, output_bits, used_at, machine_nodes}

-- no number that wires stand for is wider than its field or input
word_below : (v : ℕ → Bool) (wires : List Wire) (w : ℕ) → length wires ≡ w → number_of (values v wires) < 2 ^ w
word_below v wires w long = subst (λ k. number_of (values v wires) < 2 ^ k) (length-values v wires ∙ long) (number_of-below (values v wires))

entry_is : {A : Type 0} (h : A → ℕ) (xs : List A) (n value : ℕ) (x : A) → slice_get xs n ≡ Some x → slice_get (map h xs) n ≡ Some value → h x ≡ value
entry_is h xs n value x at here = same_Some (h x) value (sym (slice_get-map h xs n ∙ ap (option_map h) at) ∙ here)

values_fit : (nodes : List Node) (fields : List Field) (states : List StateGates) (v : ℕ → Bool) → AllStates nodes fields states → AreValues fields (values_at v states)
values_fit nodes fields states v a = record {
  one_each = length-map states (λ (s : StateGates). number_of (values v s.value.items)) ∙ a.one_each;
  fit = λ n value f at here.
      let s = got states n (omega (arith, slice_get_within fields n f at, a.one_each)) in
      let is = entry_is (λ (s : StateGates). number_of (values v s.value.items)) states n value s.0 s.1 here in
      subst (λ k. k < 2 ^ f.width) is (word_below v s.0.value.items f.width (a.each n f s.0 at s.1).value_length);
}

inputs_fit : (nodes : List Node) (fields : List Field) (inputs : List HwInput) (views : List FieldView) (hw : List (Vec Wire Global)) (v : ℕ → Bool) → AreGiven nodes fields inputs views hw → AreInputs inputs (inputs_at v hw)
inputs_fit nodes fields inputs views hw v a = record {
  one_each = length-map hw (λ (x : Vec Wire Global). number_of (values v x.items)) ∙ a.input_each;
  fit = λ k value h at here.
      let x = got hw k (omega (arith, slice_get_within inputs k h at, a.input_each)) in
      let is = entry_is (λ (x : Vec Wire Global). number_of (values v x.items)) hw k value x.0 x.1 here in
      subst (λ n. n < 2 ^ h.width) is (word_below v x.0.items h.width (a.input_length k h x.0 at x.1));
}

-- a counter's value is what it stores
over_same : (w : View) (f : Field) (a b : ℕ) (x : Extra) → (is_counter x ≡ true → a ≡ b) → overflow_of w f a x ≡ overflow_of w f b x
over_same w f a b extra.Plain same = refl
over_same w f a b (extra.Counter c) same = ap (λ n. overflow_of w f n (extra.Counter c)) (same refl)
over_same w f a b (extra.Intr k) same = refl

under_same : (w : View) (f : Field) (a b : ℕ) (x : Extra) → (is_counter x ≡ true → a ≡ b) → underflow_of w f a x ≡ underflow_of w f b x
under_same w f a b extra.Plain same = refl
under_same w f a b (extra.Counter c) same = ap (λ n. underflow_of w f n (extra.Counter c)) (same refl)
under_same w f a b (extra.Intr k) same = refl

stored_is : (states : List StateGates) (hw : List (Vec Wire Global)) (n : ℕ) (f : Field) (s : StateGates) (v : ℕ → Bool) → slice_get states n ≡ Some s → f.wire ≡ false → stored_number s v ≡ value_of (values_at v states) (inputs_at v hw) n f
stored_is states hw n f s v at h = rw h (sym (index_map (λ (s : StateGates). number_of (values v s.value.items)) states n s at))

pub sees_outputs : (nodes : List Node) (map_of : RegMap) (states : List StateGates) (event : EventGates) (payload : List Wire) (hits : List HitGates) (views : List FieldView) (hw : List (Vec Wire Global)) (n : ℕ) (f : Field) (s : StateGates) (hit : HitGates) (g : EdgeGates)
    → AllStates nodes map_of.fields.items states → AreGiven nodes map_of.fields.items map_of.inputs.items views hw → SeesMap nodes map_of event payload hits views hw (edge_at map_of states event hw)
    → slice_get map_of.fields.items n ≡ Some f → slice_get states n ≡ Some s → slice_get hits f.word ≡ Some hit → IsNext nodes f (edge_at map_of states event hw) (stored_number s) s g
    → SeesOutputs nodes map_of n f hit.reads g views hw (edge_at map_of states event hw) (λ v. wire_value v s.used)
sees_outputs nodes map_of states event payload hits views hw n f s hit g stored given p at here hit_at is =
    let one = sees_one nodes map_of event payload hits views hw (edge_at map_of states event hw) n f s hit p at (stored.each n f s at here) hit_at in
    record {
      fields_are = record {
        views_are = p.views_are;
        values_fit = λ v. values_fit nodes map_of.fields.items states v stored;
        inputs_fit = λ v. inputs_fit nodes map_of.fields.items map_of.inputs.items views hw v given;
      };
      reads_is = one.reads;
      enabled = is.enabled;
      software = is.software;
      over = means_same nodes g.over _ _ is.over (λ v r. over_same (edge_at map_of states event hw v).view f _ _ f.extra (λ c. stored_is states hw n f s v here (map_of.counters.stored n f at c)));
      under = means_same nodes g.under _ _ is.under (λ v r. under_same (edge_at map_of states event hw v).view f _ _ f.extra (λ c. stored_is states hw n f s v here (map_of.counters.stored n f at c)));
    }

-- an output by the field's number
used_is : (states : List StateGates) (n : ℕ) (s : StateGates) (v : ℕ → Bool) → slice_get states n ≡ Some s → slice_index_or (used_at states v) n false ≡ wire_value v s.used
used_is states n s v at = get_or-map (λ (s : StateGates). wire_value v s.used) states n s false (slice_get_within states n s at) ∙ ap (λ (s : StateGates). wire_value v s.used) (get_or_from_slice_get states n s s at)

bits_are : (e : Edge) (used : List Bool) (n : ℕ) (f : Field) (u : Bool) (s : OutSignal) → slice_get e.view.fields n ≡ Some f → slice_index_or used n false ≡ u → signal_bits e n f u s ≡ output_bits e used n f s
bits_are e used n f u s at is = rw (at, is) refl

all_bits : (ss : List OutSignal) (a b : OutSignal → List Bool) → ((s : OutSignal) → a s ≡ b s) → map a ss ≡ map b ss
all_bits [] a b same = refl
all_bits (s ∷ ss) a b same = rw (same s, all_bits ss a b same) refl

pub row_is : (nodes : List Node) (map_of : RegMap) (states : List StateGates) (event : EventGates) (hw : List (Vec Wire Global)) (n : ℕ) (f : Field) (s : StateGates) (words : List (Vec Wire Global)) → slice_get map_of.fields.items n ≡ Some f → slice_get states n ≡ Some s
    → ShowsAll nodes words (λ v. map (signal_bits (edge_at map_of states event hw v) n f (wire_value v s.used)) (shown_signals f)) → ShowsAll nodes words (λ v. map (output_bits (edge_at map_of states event hw v) (used_at states v) n f) (shown_signals f))
row_is nodes map_of states event hw n f s words at here shows = all_same nodes words _ _ shows (λ v r. all_bits (shown_signals f) _ _ (λ x. bits_are (edge_at map_of states event hw v) (used_at states v) n f (wire_value v s.used) x at (used_is states n s v here)))

-- one field more
abbrev pub RowIs : List Node → RegMap → List StateGates → EventGates → List (Vec Wire Global) → ℕ → Vec (Vec Wire Global) Global → Type 0
RowIs nodes map_of states event hw n ws = (f : Field) → slice_get map_of.fields.items n ≡ Some f → ShowsAll nodes ws.items (λ v. map (output_bits (edge_at map_of states event hw v) (used_at states v) n f) (shown_signals f))

pub rows_push : (old new : List Node) (k i : ℕ) (map_of : RegMap) (states : List StateGates) (event : EventGates) (hw : List (Vec Wire Global)) (rows : List (Vec (Vec Wire Global) Global)) (ws : Vec (Vec Wire Global) Global) (f : Field) → Extends old new k → length rows ≡ i
    → slice_get map_of.fields.items i ≡ Some f → ((n : ℕ) (x : Vec (Vec Wire Global) Global) → slice_get rows n ≡ Some x → RowIs old map_of states event hw n x)
    → ShowsAll new ws.items (λ v. map (output_bits (edge_at map_of states event hw v) (used_at states v) i f) (shown_signals f))
    → (n : ℕ) (x : Vec (Vec Wire Global) Global) → slice_get (rows ++ ws ∷ []) n ≡ Some x → RowIs new map_of states event hw n x
rows_push old new k i map_of states event hw rows ws f e long at before here =
    facts_push (RowIs new map_of states event hw) rows ws i long (λ n x there h is. all_later old new k x.items _ e (before n x there h is))
    (λ h is. subst (λ (y : Field). ShowsAll new ws.items (λ v. map (output_bits (edge_at map_of states event hw v) (used_at states v) i y) (shown_signals y))) (same_Some f h (sym at ∙ is)) here)

-- the edge that a state stands for
edge_by : RegMap → EventGates → List (Vec Wire Global) → (ℕ → Bool) → State → Edge
edge_by map_of event hw v s = record { view = record { fields = map_of.fields.items; values = s.values; hw = inputs_at v hw }; words = map_of.words.items; event = event_at v event }

-- of the latches
pub outputs_latched : (nodes : List Node) (map_of : RegMap) (latches : List Wire) (states : List StateGates) (event : EventGates) (hw : List (Vec Wire Global)) (rows : List (Vec (Vec Wire Global) Global)) → ((v : ℕ → Bool) → Respects v nodes → state_at v states ≡ latched_state map_of latches v)
    → AreOutputs nodes map_of.fields.items (edge_at map_of states event hw) (used_at states) rows → AreOutputs nodes map_of.fields.items (latched_edge map_of latches event hw) (λ v. (latched_state map_of latches v).used) rows
unfolding edge_by
outputs_latched nodes map_of latches states event hw rows same a = record {
  one_each = a.one_each;
  each = λ n ws there f at. all_same nodes ws.items _ _ (a.each n ws there f at) (λ v r. ap (λ (s : State). map (output_bits (edge_by map_of event hw v s) s.used n f) (shown_signals f)) (same v r));
}

-- how many gates all outputs take, and the machine
all_output_gates : (fields all : List Field) → ((n : ℕ) (f : Field) → slice_get fields n ≡ Some f → 1 ≤ f.width) → sum_by (output_gates_of all) fields ≤ 2 * sum_by (λ f. f.width) fields + sum_by (intr_gates_of all) fields
all_output_gates [] all some = omega arith
all_output_gates (f ∷ fields) all some =
    omega (arith, some 0 f refl, all_output_gates fields all (λ n g at. some (suc n) g at), sum_by-cons (output_gates_of all) f fields, sum_by-cons (λ (f : Field). f.width) f fields, sum_by-cons (intr_gates_of all) f fields)

pub few : (map_of : RegMap) (places : ℕ) → places ≤ 32 → around_nodes map_of places + core_nodes map_of + sum_by (output_gates_of map_of.fields.items) map_of.fields.items ≤ machine_nodes map_of
few map_of places small = omega (arith, core.few map_of places small, all_output_gates map_of.fields.items map_of.fields.items map_of.in_words.some, raising.few map_of)

-- the known flags
known_values : (v : ℕ → Bool) (states : List StateGates) → values v (map (λ (s : StateGates). s.known) states) ≡ map (λ (s : StateGates). wire_value v s.known) states
known_values v [] = refl
known_values v (s ∷ states) = ap (λ l. wire_value v s.known ∷ l) (known_values v states)

known_of : (nodes : List Node) (fields : List Field) (states : List StateGates) → AllStates nodes fields states → AreOf (map (λ (s : StateGates). s.known) states) nodes
known_of nodes fields states a = record {
  each = λ i w at.
      let lt : i < length states = omega (arith, slice_get_within (map (λ (s : StateGates). s.known) states) i w at, length-map states (λ (s : StateGates). s.known)) in
      let s = got states i lt in
      let f = got fields i (omega (arith, lt, a.one_each)) in
      let is : s.0.known ≡ w = same_Some s.0.known w (sym (slice_get-map (λ (s : StateGates). s.known) states i ∙ ap (option_map (λ (s : StateGates). s.known)) s.1) ∙ at) in
      subst (λ x. IsOf x nodes) is (a.each i f.0 s.0 f.1 s.1).known_of;
}

pub known_shown : (nodes : List Node) (map_of : RegMap) (latches : List Wire) (states : List StateGates) (wires : List Wire) → wires ≡ map (λ (s : StateGates). s.known) states → AllStates nodes map_of.fields.items states
    → ((v : ℕ → Bool) → Respects v nodes → state_at v states ≡ latched_state map_of latches v) → Shows nodes wires (λ v. (latched_state map_of latches v).known)
known_shown nodes map_of latches states wires is a same = rw is record {
  of = known_of nodes map_of.fields.items states a;
  value = λ v r. known_values v states ∙ ap (λ (s : State). s.known) (same v r);
}
