-- What a field sees, as wires, is what the register machine sees.
use Rattle.std.proofs.Common.{◌≡◌, ℕ, ◌+◌, ◌/◌, ◌<◌, ◌≤◌, ◌^◌, Bool, true, false, not, ◌&&◌, ◌||◌, List, length, map, get_or, refl, sym, ap, ◌∙◌, subst, arith}
use Rattle.std.specs.List.{range_with_len}
use Rattle.std.specs.declared.vec.Vec.{Vec}
use Rattle.std.specs.declared.alloc.Global.{Global}
use Rattle.field_policies.specs.declared.map.RegMap.{RegMap}
use Rattle.gate_graph.specs.declared.wires.Wire.{Wire}
use Rattle.gate_graph.specs.declared.nodes.Node.{Node}
use Rattle.gate_graph.specs.Gates.{wire_value, Respects}
use Rattle.reg_machine.specs.Conditions.{IsFieldOf}
use Rattle.reg_machine.specs.Steps as machine
use Rattle.reg_machine.specs.Steps.{Edge}
use Rattle.word_gates.specs.Words.{values}
use Rattle.expr_gates.specs.declared.view.FieldView.{FieldView}
use Rattle.expr_gates.specs.Graphs.{open_made, opened_made}
use Rattle.expr_gates.proofs.ExprLemmas.{gates, masks, places_low}
use Rattle.event_gates.specs.declared.hits.EventGates.{EventGates}
use Rattle.event_gates.specs.declared.hits.HitGates.{HitGates}
use Rattle.event_gates.specs.Places.{payload_of_field}
use Rattle.event_gates.proofs.PlaceLemmas.{enabled_is, payload_is}
use Rattle.field_gates.specs.FieldStep.{Seen}
use Rattle.field_gates.specs.Laws.{Sees}
use Rattle.side_gates.specs.declared.source.SourceGates.{SourceGates}
use Rattle.side_gates.specs.Graphs.{IsSource}
use Rattle.side_gates.specs.Sides.{source_at}
use Rattle.side_gates.specs.Laws.{IsReadable}
use Rattle.side_gates.proofs.SideLaws.{or_three}
use Rattle.side_gates.proofs.SourceLaws.{sources}
use Rattle.latch_order.specs.declared.latches.StateGates.{StateGates}
use Rattle.field_edges.specs.Edges.{SeesField}
use Rattle.field_policies.specs.declared.field.Field.{Field}
use Rattle.field_policies.specs.declared.extra.Extra.{Extra}
use Rattle.field_policies.specs.declared.extra.Extra.TheVariants as extra
use Rattle.reg_machine.specs.Steps.{View}
use Rattle.reg_machine.specs.Machines.{overflow_of, underflow_of}
use Rattle.side_gates.specs.Sides.{Source}
use Rattle.side_gates.specs.Laws.{SeesSource, IsSide}
use Rattle.field_extras.specs.declared.counter.Counted.{Counted}
use Rattle.side_gates.proofs.SideLaws.{plain_is, counter_is, intr_is}
use Rattle.field_edges.specs.Kinds.{KindsAreMachines, IsKind, kind_active, kind_bits, kind_over, kind_under}

kind_of : (w : View) (f : Field) (v : ℕ) (s : Source) (x : Extra) → SeesSource w f v s → f.extra ≡ x → IsKind w f v s
kind_of w f v s extra.Plain sees kind = record {
  side = subst (λ x. IsSide w f v (kind_active x s) (kind_bits x f.width s)) (sym kind) (plain_is w f v s sees kind);
  over = subst (λ x. kind_over x f.width s ≡ overflow_of w f v x) (sym kind) refl;
  under = subst (λ x. kind_under x f.width s ≡ underflow_of w f v x) (sym kind) refl;
}
kind_of w f v s (extra.Counter c) sees kind =
    let both = counter_is w f v s c sees kind in
    record {
      side = subst (λ x. IsSide w f v (kind_active x s) (kind_bits x f.width s)) (sym kind) both.0;
      over = subst (λ x. kind_over x f.width s ≡ overflow_of w f v x) (sym kind) (ap (λ (k : Counted). k.over) both.1);
      under = subst (λ x. kind_under x f.width s ≡ underflow_of w f v x) (sym kind) (ap (λ (k : Counted). k.under) both.1);
    }
kind_of w f v s (extra.Intr n) sees kind = record {
  side = subst (λ x. IsSide w f v (kind_active x s) (kind_bits x f.width s)) (sym kind) (intr_is w f v s n sees kind);
  over = subst (λ x. kind_over x f.width s ≡ overflow_of w f v x) (sym kind) refl;
  under = subst (λ x. kind_under x f.width s ≡ underflow_of w f v x) (sym kind) refl;
}

pub kind_is : KindsAreMachines
kind_is w f v s sees = kind_of w f v s f.extra sees refl

pub readable : (map_of : RegMap) (f : Field) → IsFieldOf map_of f → IsReadable map_of.fields.items map_of.inputs.items f
readable map_of f is = record { in_range = is.in_range; widths = is.widths; source = is.source; source_width = is.source_width }

-- what hardware gives to the field
pub source_seen : (nodes : List Node) (map_of : RegMap) (event : EventGates) (payload : List Wire) (hit : HitGates) (state : StateGates) (views : List FieldView) (hw : List (Vec Wire Global)) (f : Field)
    (e : (ℕ → Bool) → Edge) (n : (ℕ → Bool) → ℕ) (source : SourceGates) → SeesField nodes map_of event payload hit state views hw f e n → IsFieldOf map_of f → IsSource f views hw source
    → (v : ℕ → Bool) → Respects v nodes → SeesSource (e v).view f (n v) (source_at v source state.value.items)
source_seen nodes map_of event payload hit state views hw f e n source p is from v r =
    sources nodes map_of.fields.items map_of.inputs.items (λ v. (e v).view) views hw f source state.value.items n p.views_are (readable map_of f is) from p.value p.value_fits p.input_fits v r

-- what the field sees, by what its wires are
pub record IsSeen (v : ℕ → Bool) (event : EventGates) (payload : List Wire) (hit : HitGates) (state : StateGates) (views : List FieldView) (hw : List (Vec Wire Global)) (f : Field) (source : SourceGates) (s : Seen) : Type 0 where
  pub reads : s.reads ≡ wire_value v hit.reads
  pub allowed : s.allowed ≡ wire_value v (open_made views hw f.sw_gate)
  pub active : s.active ≡ kind_active f.extra (source_at v source state.value.items)
  pub whole : s.whole ≡ (wire_value v source.taken || (wire_value v source.set || wire_value v source.clear))
  pub enabled : s.enabled ≡ map (λ i. get_or (values v event.strobe.items) ((f.lsb + i) / 8) false && wire_value v hit.writes) (range_with_len 0 f.width)
  pub payload_is : s.payload ≡ values v (payload_of_field f payload)
  pub value : s.value ≡ values v state.value.items
  pub side : s.side ≡ kind_bits f.extra f.width (source_at v source state.value.items)
  pub opened : s.opened ≡ values v (opened_made f.width views hw f.bit_gate)

pub sees_at : (nodes : List Node) (map_of : RegMap) (event : EventGates) (payload : List Wire) (hit : HitGates) (state : StateGates) (views : List FieldView) (hw : List (Vec Wire Global)) (f : Field)
    (e : (ℕ → Bool) → Edge) (n : (ℕ → Bool) → ℕ) (source : SourceGates) → SeesField nodes map_of event payload hit state views hw f e n → IsFieldOf map_of f → IsSource f views hw source
    → length event.payload.items ≡ map_of.bus_width → (v : ℕ → Bool) → Respects v nodes → (s : Seen) → IsSeen v event payload hit state views hw f source s → Sees (e v) f (n v) s
sees_at nodes map_of event payload hit state views hw f e n source p is from wide v r s h =
    let seen = source_seen nodes map_of event payload hit state views hw f e n source p is from v r in
    let kind = kind_is (e v).view f (n v) (source_at v source state.value.items) seen in
    let inside : f.lsb + f.width ≤ length event.payload.items = omega (arith, is.in_word) in
    let allowed = gates nodes map_of.fields.items map_of.inputs.items (λ v. (e v).view) views hw f.sw_gate p.views_are is.in_range.sw_gate is.widths.sw_gate in
    let opened = masks nodes map_of.fields.items map_of.inputs.items (λ v. (e v).view) views hw f.bit_gate f.width p.views_are is.in_range.bit_gate is.widths.bit_gate in
    record {
      reads = h.reads ∙ p.reads.value v r;
      allowed = h.allowed ∙ allowed.value v r;
      active = h.active ∙ kind.side.active;
      whole = h.whole ∙ rw (seen.taken, seen.set, seen.clear) (or_three (machine.is_taken (e v).view f) (machine.is_set (e v).view f) (machine.is_cleared (e v).view f));
      enabled = h.enabled ∙ rw (p.writes.value v r) (enabled_is v event (e v) f (p.event_is v));
      payload = h.payload_is ∙ payload_is v event (e v) f (wire_value v event.write && not (wire_value v event.read)) payload (p.event_is v) inside refl (p.payload_is.value v r);
      value = h.value ∙ (p.value.value v r ∙ places_low f.width (n v));
      side = h.side ∙ kind.side.bits;
      opened = h.opened ∙ opened.value v r;
    }
