-- The answer, field by field.
use Rattle.std.proofs.Common.{◌≡◌, ℕ, zero, suc, ◌+◌, ◌<◌, ◌≤◌, Bool, false, not, ◌&&◌, List, [], ◌∷◌, length, map, replicate, get_or, slice_get, slice_index_or, Some, refl, sym, ap, ◌∙◌, arith}
use Rattle.std.specs.List.{range_with_len}
use Rattle.std.specs.declared.vec.Vec.{Vec}
use Rattle.std.specs.declared.alloc.Global.{Global}
use Rattle.std.proofs.lemmas.List.{get_or-map}
use Rattle.std.proofs.lemmas.Option.{slice_get_within, get_or_from_slice_get}
use Rattle.field_policies.specs.declared.field.Field.{Field}
use Rattle.field_policies.specs.declared.map.RegMap.{RegMap}
use Rattle.gate_graph.specs.declared.wires.Wire.{Wire}
use Rattle.gate_graph.specs.declared.nodes.Node.{Node}
use Rattle.gate_graph.specs.Gates.{wire_value, Respects, Extends}
use Rattle.gate_graph.specs.Sharing.{HasZero}
use Rattle.gate_graph.proofs.GateLemmas.{means_zero, respects_old}
use Rattle.field_policies.specs.Bits.{any_below}
use Rattle.reg_machine.specs.Steps.{Edge}
use Rattle.reg_machine.specs.Machines.{hides, hidden_bit, counts_bit}
use Rattle.word_gates.specs.Graphs.{off}
use Rattle.word_gates.specs.Words.{values, Shows}
use Rattle.word_gates.proofs.WordLemmas.{shows_same}
use Rattle.word_gates.proofs.RippleLemmas.{shows_repeated}
use Rattle.expr_gates.specs.declared.view.FieldView.{FieldView}
use Rattle.event_gates.specs.declared.hits.EventGates.{EventGates}
use Rattle.event_gates.specs.declared.hits.HitGates.{HitGates}
use Rattle.latch_order.specs.declared.latches.StateGates.{StateGates}
use Rattle.field_edges.specs.Given.{AreStates}
use Rattle.answer_gates.specs.Answers.{joined}
use Rattle.answer_gates.specs.Laws.{shown_below, hidden_below}
use Rattle.answer_gates.proofs.AnswerLemmas.{shown_is, hidden_is}
use Rattle.map_edges.specs.Edges.{SeesMap}
use Rattle.map_edges.proofs.EdgeLemmas.{sees_one}
use Rattle.map_answers.specs.Answers.{known_at, counts_row}

zeros_row : (n k : ℕ) → replicate n false ≡ map (λ j. false) (range_with_len k n)
zeros_row zero k = refl
zeros_row (suc n) k = ap (λ rest. false ∷ rest) (zeros_row n (k + 1))

pub shown_none : (nodes : List Node) (bus : ℕ) (e : (ℕ → Bool) → Edge) (states : List StateGates) → HasZero nodes → Shows nodes (replicate bus off) (λ v. shown_below (e v) (known_at v states) bus 0)
shown_none nodes bus e states z = shows_same nodes (replicate bus off) _ _ (shows_repeated nodes off (λ v. false) bus (means_zero nodes off z refl)) (λ v r. zeros_row bus 0)

known_is : (v : ℕ → Bool) (states : List StateGates) (n : ℕ) (s : StateGates) → slice_get states n ≡ Some s → slice_index_or (known_at v states) n false ≡ wire_value v s.known
known_is v states n s at = get_or-map (λ s. wire_value v s.known) states n s false (slice_get_within states n s at) ∙ ap (λ s. wire_value v s.known) (get_or_from_slice_get states n s s at)

-- one field more
pub shown_step : (old new : List Node) (k : ℕ) (map_of : RegMap) (event : EventGates) (payload : List Wire) (hits : List HitGates) (views : List FieldView) (hw : List (Vec Wire Global)) (e : (ℕ → Bool) → Edge) (states : List StateGates) (n : ℕ) (f : Field) (s : StateGates) (g : FieldView)
    (hit : HitGates) (word next : List Wire) → Extends old new k → SeesMap old map_of event payload hits views hw e → slice_get map_of.fields.items n ≡ Some f → slice_get states n ≡ Some s → slice_get views n ≡ Some g → slice_get hits f.word ≡ Some hit → AreStates old f.width s
    → f.lsb + f.width ≤ map_of.bus_width → Shows old word (λ v. shown_below (e v) (known_at v states) map_of.bus_width n)
    → Shows new next (λ v. joined f.lsb (values v word) (map (λ x. x && ((f.readable && wire_value v hit.reads) && wire_value v s.known)) (values v g.value.items)))
    → Shows new next (λ v. shown_below (e v) (known_at v states) map_of.bus_width (n + 1))
shown_step old new k map_of event payload hits views hw e states n f s g hit word next x p at here there hit_at stored inside before after = shows_same new next _ _ after (λ v r.
    let r' : Respects v old = respects_old v old new k x r in
    let reads = (sees_one old map_of event payload hits views hw e n f s hit p at stored hit_at).reads.value v r' in
    rw (before.value v r', (p.views_are.value n f g at there).value v r', reads, sym (known_is v states n s here))
    (shown_is (e v) (known_at v states) map_of.bus_width n f (ap (λ fs. slice_get fs n) (p.views_are.fields_are v) ∙ at) inside))

pub hidden_none : (nodes : List Node) (bus : ℕ) (e : (ℕ → Bool) → Edge) (states : List StateGates) → HasZero nodes → Shows nodes (replicate bus off) (λ v. hidden_below (e v) (known_at v states) bus 0)
hidden_none nodes bus e states z = shows_same nodes (replicate bus off) _ _ (shows_repeated nodes off (λ v. false) bus (means_zero nodes off z refl)) (λ v r. zeros_row bus 0)

pub hidden_step : (old new : List Node) (k : ℕ) (map_of : RegMap) (event : EventGates) (payload : List Wire) (hits : List HitGates) (views : List FieldView) (hw : List (Vec Wire Global)) (e : (ℕ → Bool) → Edge) (states : List StateGates) (n : ℕ) (f : Field) (s : StateGates)
    (hit : HitGates) (word next : List Wire) → Extends old new k → SeesMap old map_of event payload hits views hw e → slice_get map_of.fields.items n ≡ Some f → slice_get states n ≡ Some s → slice_get hits f.word ≡ Some hit → AreStates old f.width s
    → f.lsb + f.width ≤ map_of.bus_width → Shows old word (λ v. hidden_below (e v) (known_at v states) map_of.bus_width n)
    → Shows new next (λ v. joined f.lsb (values v word) (replicate f.width ((f.readable && wire_value v hit.reads) && not (wire_value v s.known))))
    → Shows new next (λ v. hidden_below (e v) (known_at v states) map_of.bus_width (n + 1))
hidden_step old new k map_of event payload hits views hw e states n f s hit word next x p at here hit_at stored inside before after = shows_same new next _ _ after (λ v r.
    let r' : Respects v old = respects_old v old new k x r in
    let reads = (sees_one old map_of event payload hits views hw e n f s hit p at stored hit_at).reads.value v r' in
    rw (before.value v r', reads, sym (known_is v states n s here))
    (hidden_is (e v) (known_at v states) map_of.bus_width n f (ap (λ fs. slice_get fs n) (p.views_are.fields_are v) ∙ at) inside))

-- the others count
not_row : (f : ℕ → Bool) (xs : List ℕ) → map not (map f xs) ≡ map (λ j. not (f j)) xs
not_row f [] = refl
not_row f (x ∷ xs) = ap (λ rest. not (f x) ∷ rest) (not_row f xs)

pub counts_are : (e : Edge) (fields : List Field) (known : List Bool) (bus : ℕ) → e.view.fields ≡ fields → map not (hidden_below e known bus (length fields)) ≡ counts_row e known bus
unfolding counts_bit hidden_bit
counts_are e fields known bus same = ap (λ fs. map not (hidden_below e known bus (length fs))) (sym same) ∙ not_row (λ j. any_below (length e.view.fields) (hides e known j)) (range_with_len 0 bus)
