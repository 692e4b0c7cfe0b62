use Rattle.std.proofs.Common.{refl, sym, ap, ◌∙◌, ◌≡◌, ◌+◌, ◌*◌, length, arith}
use Rattle.gate_graph.specs.Gates.{Respects, Extends, wire_value}
use Rattle.gate_graph.proofs.GateLemmas.{respects_old, extends_more, are_of_later}
use Rattle.word_gates.specs.Words.{values}
use Rattle.word_gates.proofs.WordLemmas.{means_same}
use Rattle.word_gates.proofs.RippleLemmas.{are_of_take}
use Rattle.event_gates.specs.Places.{enabled_made}
use Rattle.side_gates.specs.Graphs.{AreSources, source_wires}
use Rattle.side_gates.specs.Sides.{source_at}
use Rattle.field_edges.specs.Kinds.{kind_bits, kind_made}
use Rattle.field_edges.proofs.GivenLemmas.{IsWord, sources_of, sources_at, open_of, opened_word, same_of, are_of_drop}
use Rattle.field_edges.proofs.MadeLemmas.{seen_is, seen_steps}
use Rattle.field_edges.proofs.SeesLaws.{sees_at, source_seen, kind_is, readable}
use Rattle.field_edges.proofs.seen.seen_gates.Goals as goal

pub any_of_three-requires-clause-a_of : goal.any_of_three-requires-clause-a_of
any_of_three-requires-clause-a_of c =
    let s = sources_of c.args.graph.now c.args.map.now.fields.items c.args.map.now.inputs.items c.args.views.now c.args.hw.now c.args.field.now c.in_ok-source.source c.requires.given (readable c.args.map.now c.args.field.now c.requires.field) c.in_ok-source.ensures in
    omega (arith, s.taken_of, c.enabled_word.ensures.nodes.grows)

pub any_of_three-requires-clause-b_of : goal.any_of_three-requires-clause-b_of
any_of_three-requires-clause-b_of c =
    let s = sources_of c.args.graph.now c.args.map.now.fields.items c.args.map.now.inputs.items c.args.views.now c.args.hw.now c.args.field.now c.in_ok-source.source c.requires.given (readable c.args.map.now c.args.field.now c.requires.field) c.in_ok-source.ensures in
    omega (arith, s.set_of, c.enabled_word.ensures.nodes.grows)

pub any_of_three-requires-clause-c_of : goal.any_of_three-requires-clause-c_of
any_of_three-requires-clause-c_of c =
    let s = sources_of c.args.graph.now c.args.map.now.fields.items c.args.map.now.inputs.items c.args.views.now c.args.hw.now c.args.field.now c.in_ok-source.source c.requires.given (readable c.args.map.now c.args.field.now c.requires.field) c.in_ok-source.ensures in
    omega (arith, s.clear_of, c.enabled_word.ensures.nodes.grows)

pub kind_gates-requires-clause-source : goal.kind_gates-requires-clause-source
kind_gates-requires-clause-source c =
    let s = sources_of c.args.graph.now c.args.map.now.fields.items c.args.map.now.inputs.items c.args.views.now c.args.hw.now c.args.field.now c.in_ok-source.source c.requires.given (readable c.args.map.now c.args.field.now c.requires.field) c.in_ok-source.ensures in
    sources_at _ _ _ _ _ c.args.field.now.width _ c.in_ok-source.source c.enabled_word.ensures.nodes c.any_of_three.ensures.nodes (ap length c.deref-2.ensures.value ∙ c.requires.state.value_length) s

pub returns-in_err-opened-clause-nodes : goal.returns-in_err-opened-clause-nodes
returns-in_err-opened-clause-nodes c =
    let long : length c.deref-2.result.now ≡ c.args.field.now.width = ap length c.deref-2.ensures.value ∙ c.requires.state.value_length in
    let two = extends_more _ _ _ _ _ (c.args.field.now.width + 2) c.enabled_word.ensures.nodes c.any_of_three.ensures.nodes (omega arith) in
    extends_more _ _ _ _ _ (25 * c.args.field.now.width + 46) two c.kind_gates.ensures.nodes (omega (arith, long))

pub returns-in_err-value-clause-nodes : goal.returns-in_err-value-clause-nodes
returns-in_err-value-clause-nodes c =
    let long : length c.deref-2.result.now ≡ c.args.field.now.width = ap length c.deref-2.ensures.value ∙ c.requires.state.value_length in
    let two = extends_more _ _ _ _ _ (c.args.field.now.width + 2) c.enabled_word.ensures.nodes c.any_of_three.ensures.nodes (omega arith) in
    extends_more _ _ _ _ _ (25 * c.args.field.now.width + 46) two c.kind_gates.ensures.nodes (omega (arith, long))

pub returns-clause-nodes : goal.returns-clause-nodes
returns-clause-nodes c =
    let long : length c.deref-2.result.now ≡ c.args.field.now.width = ap length c.deref-2.ensures.value ∙ c.requires.state.value_length in
    let two = extends_more _ _ _ _ _ (c.args.field.now.width + 2) c.enabled_word.ensures.nodes c.any_of_three.ensures.nodes (omega arith) in
    extends_more _ _ _ _ _ (25 * c.args.field.now.width + 46) two c.kind_gates.ensures.nodes (omega (arith, long))

pub returns-clause-seen : goal.returns-clause-seen
returns-clause-seen c =
    let long : length c.deref-2.result.now ≡ c.args.field.now.width = ap length c.deref-2.ensures.value ∙ c.requires.state.value_length in
    let later : Extends c.enabled_word.new.graph c.kind_gates.new.graph (2 + (24 * length c.deref-2.result.now + 44)) = extends_more _ _ _ _ _ _ c.any_of_three.ensures.nodes c.kind_gates.ensures.nodes (omega arith) in
    let all : Extends c.args.graph.now c.kind_gates.new.graph (c.args.field.now.width + (2 + (24 * length c.deref-2.result.now + 44))) = extends_more _ _ _ _ _ _ c.enabled_word.ensures.nodes later (omega arith) in
    let allowed = open_of c.args.graph.now c.args.map.now.fields.items c.args.map.now.inputs.items c.args.views.now c.args.hw.now c.args.field.now.sw_gate c.requires.given c.requires.field.in_range.sw_gate in
    let opened = opened_word c.args.graph.now c.args.map.now.fields.items c.args.map.now.inputs.items c.args.views.now c.args.hw.now c.args.field.now.width c.args.field.now.bit_gate c.requires.given c.requires.field.in_range.bit_gate c.requires.field.widths.bit_gate in
    let value : c.in_ok-value.value.items ≡ c.args.state.now.value.items = c.in_ok-value.ensures ∙ c.deref-3.ensures.value in
    record {
      reads_of = omega (arith, c.requires.reads_of, all.grows);
      allowed_of = same_of _ _ _ c.in_ok-allowed.ensures (omega (arith, allowed, all.grows));
      used_of = omega (arith, c.requires.state.used_of, all.grows);
      known_of = omega (arith, c.requires.state.known_of, all.grows);
      active_of = c.in_ok-kind.ensures.active.of;
      whole_of = omega (arith, c.in_ok-whole.ensures.wire.of, c.kind_gates.ensures.nodes.grows);
      enabled_of = are_of_later _ _ _ _ later c.in_ok-enabled.ensures.value.of;
      payload_of = are_of_later _ _ _ _ all (rw c.in_ok-written.ensures.exact (are_of_take _ c.args.field.now.width _ (are_of_drop c.args.field.now.lsb c.args.payload.now _ c.requires.payload_of)));
      value_of = are_of_later _ _ _ _ all (rw value c.requires.state.value_of);
      side_of = c.in_ok-kind.ensures.value.of;
      opened_of = are_of_later _ _ _ _ all (rw c.in_ok-opened.ensures opened.of);
      enabled_length = c.in_ok-enabled.ensures.length;
      payload_length = c.in_ok-written.ensures.length;
      value_length = ap length value ∙ c.requires.state.value_length;
      side_length = c.in_ok-kind.ensures.length ∙ long;
      opened_length = ap length c.in_ok-opened.ensures ∙ opened.long;
    }

pub returns-clause-sees : goal.returns-clause-sees
returns-clause-sees c = λ e n p v r.
    let r2 : Respects v c.any_of_three.new.graph = respects_old v _ _ _ c.kind_gates.ensures.nodes r in
    let r1 : Respects v c.enabled_word.new.graph = respects_old v _ _ _ c.any_of_three.ensures.nodes r2 in
    sees_at _ c.args.map.now c.args.event.now c.args.payload.now c.args.hit c.args.state.now c.args.views.now c.args.hw.now c.args.field.now e n _ p c.requires.field c.in_ok-source.ensures c.requires.data_length v
    (respects_old v _ _ _ c.enabled_word.ensures.nodes r1) _ record {
      reads = refl;
      allowed = ap (wire_value v) c.in_ok-allowed.ensures;
      active = rw (sym c.deref-2.ensures.value) (c.in_ok-kind.ensures.active.value v r);
      whole = c.in_ok-whole.ensures.wire.value v r2;
      enabled = rw (sym c.deref.ensures.value) (c.in_ok-enabled.ensures.value.value v (respects_old v _ _ _ c.any_of_three.ensures.nodes r2));
      payload_is = ap (values v) c.in_ok-written.ensures.exact;
      value = ap (values v) (c.in_ok-value.ensures ∙ c.deref-3.ensures.value);
      side = c.in_ok-kind.ensures.value.value v r ∙ rw (c.deref-2.ensures.value, c.requires.state.value_length) refl;
      opened = ap (values v) c.in_ok-opened.ensures;
    }

pub returns-clause-over : goal.returns-clause-over
returns-clause-over c = λ e n p. means_same _ _ _ _ c.in_ok-kind.ensures.over (λ v r.
    let r2 : Respects v c.any_of_three.new.graph = respects_old v _ _ _ c.kind_gates.ensures.nodes r in
    let r1 : Respects v c.enabled_word.new.graph = respects_old v _ _ _ c.any_of_three.ensures.nodes r2 in
    let seen = source_seen _ c.args.map.now c.args.event.now c.args.payload.now c.args.hit c.args.state.now c.args.views.now c.args.hw.now c.args.field.now e n _ p c.requires.field c.in_ok-source.ensures v (respects_old v _ _ _ c.enabled_word.ensures.nodes r1) in
    rw (c.deref-2.ensures.value, c.requires.state.value_length) (kind_is (e v).view c.args.field.now (n v) (source_at v c.in_ok-source.source c.args.state.now.value.items) seen).over)

pub returns-clause-under : goal.returns-clause-under
returns-clause-under c = λ e n p. means_same _ _ _ _ c.in_ok-kind.ensures.under (λ v r.
    let r2 : Respects v c.any_of_three.new.graph = respects_old v _ _ _ c.kind_gates.ensures.nodes r in
    let r1 : Respects v c.enabled_word.new.graph = respects_old v _ _ _ c.any_of_three.ensures.nodes r2 in
    let seen = source_seen _ c.args.map.now c.args.event.now c.args.payload.now c.args.hit c.args.state.now c.args.views.now c.args.hw.now c.args.field.now e n _ p c.requires.field c.in_ok-source.ensures v (respects_old v _ _ _ c.enabled_word.ensures.nodes r1) in
    rw (c.deref-2.ensures.value, c.requires.state.value_length) (kind_is (e v).view c.args.field.now (n v) (source_at v c.in_ok-source.source c.args.state.now.value.items) seen).under)

pub returns-clause-exact : goal.returns-clause-exact
returns-clause-exact c =
    seen_is c.args.field.now c.args.graph.now _ _ c.args.event.now.strobe.items c.args.payload.now c.args.views.now c.args.hw.now c.in_ok-source.source c.in_ok-allowed.allowed c.in_ok-opened.opened.items c.in_ok-source.ensures c.in_ok-allowed.ensures c.in_ok-opened.ensures
    ∙ seen_steps c.args.field.now c.args.graph.now _ _ _ _ _ c.args.event.now.strobe.items c.args.payload.now (source_wires c.in_ok-source.source) c.in_ok-allowed.allowed c.in_ok-whole.whole c.in_ok-kind.kind.hardware.active c.in_ok-kind.kind.over c.in_ok-kind.kind.under
    c.in_ok-opened.opened.items c.in_ok-enabled.enabled.items c.in_ok-kind.kind.hardware.value.items c.in_ok-written.written.items c.in_ok-value.value.items
    (ap (enabled_made c.args.field.now c.args.graph.now c.args.hit.writes) (sym c.deref.ensures.value) ∙ c.in_ok-enabled.ensures.exact) c.in_ok-whole.ensures.exact
    (ap (kind_made c.args.field.now.extra _ (source_wires c.in_ok-source.source)) (sym c.deref-2.ensures.value) ∙ c.in_ok-kind.ensures.exact)
    c.in_ok-written.ensures.exact (c.in_ok-value.ensures ∙ c.deref-3.ensures.value)
