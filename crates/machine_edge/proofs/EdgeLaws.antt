-- The edge that wires stand for.
use Rattle.std.proofs.Common.{◌≡◌, ℕ, zero, suc, ◌+◌, ◌-◌, ◌<◌, ◌≤◌, ◌^◌, Bool, true, false, if◌then◌else◌, List, [], ◌∷◌, length, map, take, drop, get_or, replicate, slice_get, Option, Some, None, refl, sym, ap, ◌∙◌, subst, arith, length-drop}
use Rattle.std.specs.List.{sum_by}
use Rattle.std.specs.declared.vec.Vec.{Vec}
use Rattle.std.specs.declared.alloc.Global.{Global}
use Rattle.std.proofs.lemmas.Nat.{pow_pos}
use Rattle.std.proofs.lemmas.List.{length-map, length-replicate, length-take-le}
use Rattle.std.proofs.lemmas.Option.{slice_get_within, get_or_from_slice_get}
use Rattle.std.proofs.lemmas.List.Sums.{sum_by-append}
use Rattle.bit_base.specs.Numbers.{number_of}
use Rattle.bit_base.proofs.Numbers.{number_of-below}
use Rattle.field_policies.specs.declared.field.Field.{Field}
use Rattle.field_policies.specs.declared.signal.HwInput.{HwInput}
use Rattle.field_policies.specs.declared.map.RegMap.{RegMap}
use Rattle.field_policies.specs.Expressions.{input_value}
use Rattle.gate_graph.specs.declared.wires.Wire.{Wire}
use Rattle.gate_graph.specs.declared.nodes.Node.{Node}
use Rattle.gate_graph.specs.Gates.{wire_value, IsOf, AreOf}
use Rattle.gate_graph.specs.Sharing.{HasZero}
use Rattle.gate_graph.proofs.GateLemmas.{means_zero}
use Rattle.reg_machine.proofs.Views.{got}
use Rattle.word_gates.specs.Graphs.{off, on}
use Rattle.word_gates.specs.Words.{values}
use Rattle.word_gates.proofs.WordLemmas.{length-values, of_here}
use Rattle.word_gates.proofs.RippleLemmas.{are_of_take, shows_repeated}
use Rattle.expr_gates.proofs.ExprLemmas.{means_on}
use Rattle.latch_order.specs.declared.latches.StateGates.{StateGates}
use Rattle.latch_order.specs.Latches.{Stored, stored_of, all_stored, value_bits, latch_bits}
use Rattle.latch_order.specs.Wires.{stored_wires}
use Rattle.field_edges.specs.Given.{AreStates}
use Rattle.field_edges.proofs.GivenLemmas.{are_of_drop}
use Rattle.field_edges.proofs.LoopLemmas.{index_map}
use Rattle.map_views.specs.Views.{AreInputs, AllStates}
use Rattle.map_views.specs.Laws.{inputs_at, HaveSources}
use Rattle.map_views.proofs.ViewLemmas.{views_are}
use Rattle.machine_edge.specs.Edges.{edge_at, StoredAreStates, WiresSeeTheirEdge}

-- what a field stores is of the graph
pub record IsStored (nodes : List Node) (width : ℕ) (s : Stored Wire) : Type 0 where
  pub value_of : AreOf s.value nodes
  pub value_length : length s.value ≡ width
  pub used_of : IsOf s.used nodes
  pub known_of : IsOf s.known nodes

value_of : (nodes : List Node) (b : Bool) (width : ℕ) (ws : List Wire) → HasZero nodes → AreOf ws nodes → AreOf (if b then replicate width off else take width ws) nodes
value_of nodes true width ws z of = (shows_repeated nodes off (λ v. false) width (means_zero nodes off z refl)).of
value_of nodes false width ws z of = are_of_take ws width nodes of

value_long : (b : Bool) (width : ℕ) (ws : List Wire) → (b ≡ false → width ≤ length ws) → length (if b then replicate width off else take width ws) ≡ width
value_long true width ws le = length-replicate width off
value_long false width ws le = length-take-le width ws (le refl)

used_of : (nodes : List Node) (b : Bool) (i : ℕ) (ws : List Wire) → HasZero nodes → AreOf ws nodes → (b ≡ true → i < length ws) → IsOf (if b then get_or ws i off else off) nodes
used_of nodes true i ws z of lt = of_here ws nodes i of (lt refl)
used_of nodes false i ws z of lt = (means_zero nodes off z refl).of

known_of : (nodes : List Node) (b : Bool) (i : ℕ) (ws : List Wire) → HasZero nodes → AreOf ws nodes → IsOf (if b then on else get_or ws i on) nodes
known_of nodes true i ws z of = (means_on nodes z).of
known_of nodes false i [] z of = (means_on nodes z).of
known_of nodes false zero (w ∷ ws) z of = of.each 0 w refl
known_of nodes false (suc i) (w ∷ ws) z of = known_of nodes false i ws z record { each = λ j u at. of.each (suc j) u at }

bits_below : (wire : Bool) (width more total : ℕ) → (if wire then 0 else width) + more ≤ total → wire ≡ false → width ≤ total
bits_below true width more total le e = absurd (let none : ⊥ = cc in none)
bits_below false width more total le e = omega arith

flag_below : (once : Bool) (bits more total : ℕ) → bits + (if once then 1 else 0) + more ≤ total → once ≡ true → bits < total
flag_below true bits more total le e = omega arith
flag_below false bits more total le e = absurd (let none : ⊥ = cc in none)

stored_one : (nodes : List Node) (f : Field) (ws : List Wire) → HasZero nodes → AreOf ws nodes → latch_bits f ≤ length ws → IsStored nodes f.width (stored_of off on f ws)
stored_one nodes f ws z of le = record {
  value_of = value_of nodes f.wire f.width ws z of;
  value_length = value_long f.wire f.width ws (bits_below f.wire f.width ((if f.once then 1 else 0) + (if f.starts_known then 0 else 1)) (length ws) (omega (arith, le)));
  used_of = used_of nodes f.once (value_bits f) ws z of (flag_below f.once (value_bits f) (if f.starts_known then 0 else 1) (length ws) le);
  known_of = known_of nodes f.starts_known (value_bits f + (if f.once then 1 else 0)) ws z of;
}

stored_all : (nodes : List Node) (fields : List Field) (ws : List Wire) → HasZero nodes → AreOf ws nodes → sum_by latch_bits fields ≤ length ws
    → (n : ℕ) (f : Field) (s : Stored Wire) → slice_get fields n ≡ Some f → slice_get (all_stored off on fields ws) n ≡ Some s → IsStored nodes f.width s
stored_all nodes [] ws z of le n f s at here = absurd (let e : ⊥ = cc in e)
stored_all nodes (g ∷ fields) ws z of le zero f s at here =
    let sum : sum_by latch_bits (g ∷ fields) ≡ (0 + latch_bits g) + sum_by latch_bits fields = sum_by-append latch_bits (g ∷ []) fields in
    let same : g ≡ f = cc in
    let what : stored_of off on g ws ≡ s = cc in
    subst (λ (y : Field). IsStored nodes y.width s) same (subst (λ y. IsStored nodes g.width y) what (stored_one nodes g ws z of (omega (arith, le, sum))))
stored_all nodes (g ∷ fields) ws z of le (suc n) f s at here =
    let sum : sum_by latch_bits (g ∷ fields) ≡ (0 + latch_bits g) + sum_by latch_bits fields = sum_by-append latch_bits (g ∷ []) fields in
    stored_all nodes fields (drop (latch_bits g) ws) z (are_of_drop (latch_bits g) ws nodes of) (omega (arith, le, sum, length-drop (latch_bits g) ws)) n f s at here

all_long : (fields : List Field) (ws : List Wire) → length (all_stored off on fields ws) ≡ length fields
all_long [] ws = refl
all_long (f ∷ fields) ws = ap suc (all_long fields (drop (latch_bits f) ws))

pub stored_are : StoredAreStates
stored_are nodes fields ws states z of long same = record {
  one_each = sym (length-map states stored_wires) ∙ (ap length same ∙ all_long fields ws);
  each = λ n f s at here.
      let there : slice_get (all_stored off on fields ws) n ≡ Some (stored_wires s) = ap (λ l. slice_get l n) (sym same) ∙ mapped_at states n s here in
      let is = stored_all nodes fields ws z of (omega (arith, long)) n f (stored_wires s) at there in
      record { value_of = is.value_of; value_length = is.value_length; used_of = is.used_of; known_of = is.known_of };
}
  where
    mapped_at : (states : List StateGates) (n : ℕ) (s : StateGates) → slice_get states n ≡ Some s → slice_get (map stored_wires states) n ≡ Some (stored_wires s)
    mapped_at [] n s here = absurd (let e : ⊥ = cc in e)
    mapped_at (t ∷ states) zero s here = let e : t ≡ s = cc in ap (λ y. Some (stored_wires y)) e
    mapped_at (t ∷ states) (suc n) s here = mapped_at states n s here

-- the inputs fit
input_fits : (nodes : List Node) (inputs : List HwInput) (hw : List (Vec Wire Global)) (width : ℕ) (source : Option ℕ) (v : ℕ → Bool) → AreInputs nodes inputs hw → ((k : ℕ) → source ≡ Some k → k < length inputs)
    → ((k : ℕ) (h : HwInput) → source ≡ Some k → slice_get inputs k ≡ Some h → h.width ≡ width) → input_value (inputs_at v hw) source < 2 ^ width
input_fits nodes inputs hw width None v a there wide = pow_pos width
input_fits nodes inputs hw width (Some k) v a there wide =
    let i = got inputs k (there k refl) in
    let x = got hw k (omega (arith, a.one_each, there k refl)) in
    let long : length (values v x.0.items) ≡ width = length-values v x.0.items ∙ (a.width k i.0 x.0 i.1 x.1 ∙ wide k i.0 refl i.1) in
    rw (index_map (λ (y : Vec Wire Global). number_of (values v y.items)) hw k x.0 x.1) (subst (λ w. number_of (values v x.0.items) < 2 ^ w) long (number_of-below (values v x.0.items)))

pub edge_is : WiresSeeTheirEdge
edge_is nodes map_of states event payload hits views hw stored inputs given shown hits_are payload_is = record {
  views_are = views_are nodes map_of.fields.items map_of.inputs.items states views hw record { there = map_of.in_range.sources; wires = map_of.wires.sources } stored inputs given shown;
  words_are = λ v. refl;
  event_is = λ v. refl;
  hits_are = hits_are;
  payload_is = payload_is;
  input_fits = λ v n f at. input_fits nodes map_of.inputs.items hw f.width f.data_in v inputs (map_of.in_range.sources n f at) (map_of.widths.sources n f at);
}
