-- Words and fields at an edge, one after the other.
use Rattle.std.proofs.Common.{◌≡◌, ℕ, zero, suc, ◌+◌, ◌*◌, ◌<◌, ◌≤◌, ◌^◌, Bool, List, [], ◌∷◌, ◌++◌, length, map, get_or, slice_get, slice_index, Some, refl, sym, ap, ◌∙◌, subst, arith}
use Rattle.std.proofs.lemmas.Option.{same_Some, slice_get_within}
use Rattle.std.proofs.lemmas.List.{get_or-map}
use Rattle.word_gates.specs.Graphs.{off}
use Rattle.std.specs.declared.vec.Vec.{Vec}
use Rattle.std.specs.declared.alloc.Global.{Global}
use Rattle.bit_base.specs.Numbers.{number_of}
use Rattle.bit_base.proofs.Numbers.{number_of-below}
use Rattle.field_policies.specs.declared.field.Field.{Field}
use Rattle.field_policies.specs.declared.signal.HwInput.{HwInput}
use Rattle.field_policies.specs.declared.map.RegMap.{RegMap}
use Rattle.gate_graph.specs.declared.wires.Wire.{Wire}
use Rattle.gate_graph.specs.declared.nodes.Node.{Node}
use Rattle.gate_graph.specs.Gates.{Extends}
use Rattle.gate_graph.proofs.GateLemmas.{means_later, are_of_later}
use Rattle.event_gates.specs.declared.hits.EventGates.{EventGates}
use Rattle.event_gates.specs.declared.hits.HitGates.{HitGates}
use Rattle.reg_machine.specs.Steps.{Edge, View}
use Rattle.reg_machine.proofs.Views.{got, field_of}
use Rattle.word_gates.specs.Words.{values}
use Rattle.word_gates.proofs.WordLemmas.{means_same, shows_later, length-values}
use Rattle.expr_gates.specs.declared.view.FieldView.{FieldView}
use Rattle.expr_gates.specs.Laws.{AreViews}
use Rattle.latch_order.specs.declared.latches.StateGates.{StateGates}
use Rattle.field_edges.specs.declared.edge.EdgeGates.{EdgeGates}
use Rattle.field_edges.specs.Given.{AreStates}
use Rattle.field_edges.specs.Edges.{SeesField, IsNext, AreEdges}
use Rattle.field_edges.proofs.LoopLemmas.{facts_push}
use Rattle.map_views.proofs.ViewLemmas.{back}
use Rattle.map_edges.specs.Edges.{SeesMap, AllNext, stored_number}
use Rattle.map_edges.specs.Hits.{AreHits, IsHit, hits_of, hit_wires}

pub hits_none : (nodes : List Node) (event : EventGates) (words : List ℕ) → AreHits nodes event words []
hits_none nodes event words k h at = absurd (let e : ⊥ = cc in e)

hit_later : (old new : List Node) (n : ℕ) (event : EventGates) (a : ℕ) (h : HitGates) → Extends old new n → IsHit old event a h → IsHit new event a h
hit_later old new n event a h e is = record { reads = means_later old new n _ _ e is.reads; writes = means_later old new n _ _ e is.writes }

pub hits_push : (old new : List Node) (n i : ℕ) (event : EventGates) (words : List ℕ) (hits : List HitGates) (h : HitGates) (a : ℕ) → Extends old new n → length hits ≡ i → slice_get words i ≡ Some a → AreHits old event words hits → IsHit new event a h
    → AreHits new event words (hits ++ h ∷ [])
hits_push old new n i event words hits h a e long at before here =
    facts_push (λ k x. (b : ℕ) → slice_get words k ≡ Some b → IsHit new event b x) hits h i long
    (λ k x there b at. hit_later old new n event b x e (before k x there b at))
    (λ b at'. subst (λ x. IsHit new event x h) (same_Some a b (sym at ∙ at')) here)

-- each field at an edge
pub edges_later : (old new : List Node) (k width : ℕ) (g : EdgeGates) → Extends old new k → AreEdges old width g → AreEdges new width g
edges_later old new k width g e a = record {
  software_of = omega (arith, a.software_of, e.grows);
  value_of = are_of_later _ old new k e a.value_of;
  used_of = omega (arith, a.used_of, e.grows);
  known_of = omega (arith, a.known_of, e.grows);
  enabled_of = are_of_later _ old new k e a.enabled_of;
  over_of = omega (arith, a.over_of, e.grows);
  under_of = omega (arith, a.under_of, e.grows);
  value_length = a.value_length;
  enabled_length = a.enabled_length;
}

pub next_later : (old new : List Node) (k : ℕ) (f : Field) (e : (ℕ → Bool) → Edge) (n : (ℕ → Bool) → ℕ) (s : StateGates) (g : EdgeGates) → Extends old new k → IsNext old f e n s g → IsNext new f e n s g
next_later old new k f e n s g x is = record {
  software = means_later old new k _ _ x is.software;
  value = shows_later old new k _ _ x is.value;
  used = means_later old new k _ _ x is.used;
  known = means_later old new k _ _ x is.known;
  over = means_later old new k _ _ x is.over;
  under = means_later old new k _ _ x is.under;
  enabled = shows_later old new k _ _ x is.enabled;
}

views_later : (old new : List Node) (k : ℕ) (fields : List Field) (inputs : List HwInput) (w : (ℕ → Bool) → View) (views : List FieldView) (hw : List (Vec Wire Global)) → Extends old new k → AreViews old fields inputs w views hw → AreViews new fields inputs w views hw
views_later old new k fields inputs w views hw x a = record {
  zero = x.kept 0 _ a.zero;
  one_each = a.one_each;
  input_each = a.input_each;
  fields_are = a.fields_are;
  value = λ n f g at here. shows_later old new k _ _ x (a.value n f g at here);
  anded = λ n g here. means_later old new k _ _ x (a.anded n g here);
  ored = λ n g here. means_later old new k _ _ x (a.ored n g here);
  xored = λ n g here. means_later old new k _ _ x (a.xored n g here);
  input = λ i h y at here. shows_later old new k _ _ x (a.input i h y at here);
}

pub sees_later : (old new : List Node) (k : ℕ) (map_of : RegMap) (event : EventGates) (payload : List Wire) (hits : List HitGates) (views : List FieldView) (hw : List (Vec Wire Global)) (e : (ℕ → Bool) → Edge) → Extends old new k
    → SeesMap old map_of event payload hits views hw e → SeesMap new map_of event payload hits views hw e
sees_later old new k map_of event payload hits views hw e x p = record {
  views_are = views_later old new k _ _ _ _ _ x p.views_are;
  words_are = p.words_are;
  event_is = p.event_is;
  hits_are = λ i h at a here. hit_later old new k event a h x (p.hits_are i h at a here);
  payload_is = shows_later old new k _ _ x p.payload_is;
  input_fits = p.input_fits;
}

index_at : (xs : List ℕ) (n x : ℕ) → slice_get xs n ≡ Some x → slice_index xs n ≡ x
index_at [] n x at = absurd (let e : ⊥ = cc in e)
index_at (y ∷ xs) zero x at = let e : y ≡ x = cc in e
index_at (y ∷ xs) (suc n) x at = index_at xs n x at

-- what one field sees of it
pub sees_one : (nodes : List Node) (map_of : RegMap) (event : EventGates) (payload : List Wire) (hits : List HitGates) (views : List FieldView) (hw : List (Vec Wire Global)) (e : (ℕ → Bool) → Edge) (n : ℕ) (f : Field) (s : StateGates) (hit : HitGates)
    → SeesMap nodes map_of event payload hits views hw e → slice_get map_of.fields.items n ≡ Some f → AreStates nodes f.width s → slice_get hits f.word ≡ Some hit
    → SeesField nodes map_of event payload hit s views hw f e (stored_number s)
sees_one nodes map_of event payload hits views hw e n f s hit p at stored hit_at =
    let a = got map_of.words.items f.word (field_of map_of n f at).there in
    let is = p.hits_are f.word hit hit_at a.0 a.1 in
    let here : slice_index map_of.words.items f.word ≡ a.0 = index_at map_of.words.items f.word a.0 a.1 in
    record {
      views_are = p.views_are;
      event_is = p.event_is;
      reads = means_same nodes hit.reads _ _ is.reads (λ v r. rw (p.event_is v, p.words_are v, here) refl);
      writes = means_same nodes hit.writes _ _ is.writes (λ v r. rw (p.event_is v, p.words_are v, here) refl);
      payload_is = p.payload_is;
      value = record { of = stored.value_of; value = λ v r. back v s.value.items f.width stored.value_length };
      value_fits = λ v. subst (λ w. number_of (values v s.value.items) < 2 ^ w) (length-values v s.value.items ∙ stored.value_length) (number_of-below (values v s.value.items));
      input_fits = λ v. p.input_fits v n f at;
    }

pub edges_push : (old new : List Node) (k i : ℕ) (fields : List Field) (edges : List EdgeGates) (g : EdgeGates) (f : Field) → Extends old new k → length edges ≡ i → slice_get fields i ≡ Some f
    → ((n : ℕ) (x : EdgeGates) → slice_get edges n ≡ Some x → (h : Field) → slice_get fields n ≡ Some h → AreEdges old h.width x) → AreEdges new f.width g
    → (n : ℕ) (x : EdgeGates) → slice_get (edges ++ g ∷ []) n ≡ Some x → (h : Field) → slice_get fields n ≡ Some h → AreEdges new h.width x
edges_push old new k i fields edges g f e long at before here =
    facts_push (λ n x. (h : Field) → slice_get fields n ≡ Some h → AreEdges new h.width x) edges g i long
    (λ n x there h at. edges_later old new k h.width x e (before n x there h at))
    (λ h at'. subst (λ (y : Field). AreEdges new y.width g) (same_Some f h (sym at ∙ at')) here)

pub next_push : (old new : List Node) (k i : ℕ) (fields : List Field) (states : List StateGates) (e : (ℕ → Bool) → Edge) (edges : List EdgeGates) (g : EdgeGates) (f : Field) (s : StateGates) → Extends old new k → length edges ≡ i → slice_get fields i ≡ Some f
    → slice_get states i ≡ Some s → AllNext old fields states e edges → IsNext new f e (stored_number s) s g → AllNext new fields states e (edges ++ g ∷ [])
next_push old new k i fields states e edges g f s x long at here before is =
    facts_push (λ n y. (h : Field) → slice_get fields n ≡ Some h → (t : StateGates) → slice_get states n ≡ Some t → IsNext new h e (stored_number t) t y) edges g i long
    (λ n y there h at t here. next_later old new k h e (stored_number t) t y x (before n y there h at t here))
    (λ h at' t here'. subst (λ (y : Field). IsNext new y e (stored_number t) t g) (same_Some f h (sym at ∙ at')) (subst (λ (y : StateGates). IsNext new f e (stored_number y) y g) (same_Some s t (sym here ∙ here')) is))

-- a hit by its number
abbrev pub no_hit : HitGates
no_hit = record { reads = off; writes = off }

pub hit_is : (hits : List HitGates) (k : ℕ) → k < length hits → get_or (hits_of hits) k (off, off) ≡ hit_wires (get_or hits k no_hit)
hit_is hits k lt = get_or-map hit_wires hits k no_hit (off, off) lt
