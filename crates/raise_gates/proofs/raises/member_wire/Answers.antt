use Rattle.std.proofs.Common.{◌≡◌, Some, length, slice_get, ap, sym, ◌∙◌, refl, arith}
use Rattle.std.proofs.lemmas.Option.{slice_get_read}
use Rattle.gate_graph.specs.Gates.{Respects}
use Rattle.gate_graph.proofs.GateLemmas.{respects_old}
use Rattle.word_gates.proofs.WordLemmas.{means_same, extends_at}
use Rattle.expr_gates.specs.declared.view.FieldView.{FieldView}
use Rattle.raise_gates.proofs.RaiseLemmas.{at_index, bits_are, filter_is_word, raises_are, member_is, width_here}
use Rattle.raise_gates.proofs.raises.member_wire.Goals as goal

pub raised_wire-requires-clause-bits_of : goal.raised_wire-requires-clause-bits_of
raised_wire-requires-clause-bits_of c =
    let at : slice_get c.args.map.now.fields.items c.args.number ≡ Some c.index-field.result.now = slice_get_read _ _ _ _ refl c.requires.there c.index-field.ensures in
    let here : slice_get c.args.views.now c.args.number ≡ Some c.index-views-number.result = at_index c.args.views.now c.args.number c.index-views-number.result (omega (arith, c.requires.there, c.requires.given.one_each)) c.index-views-number.is in
    let first : c.deref.result.now ≡ c.index-views-number.result.value.items = c.deref.ensures.value ∙ ap (λ (g : FieldView). g.value.items) (sym c.index-views-number.is) in
    let bits = bits_are c.args.views.now c.args.hw.now c.index-field.result.now c.index-views-number.result c.deref.result.now c.as_slice.result.now c.filter_gate-filter.result (c.as_slice.ensures.value ∙ c.in_ok-bits.ensures) first c.filter_gate-filter.ensures in
    let word = filter_is_word c.args.graph.now c.args.map.now c.args.views.now c.args.hw.now c.args.number c.index-field.result.now c.index-views-number.result c.requires.given at here in
    rw bits word.of

pub raised_wire-requires-clause-lengths : goal.raised_wire-requires-clause-lengths
raised_wire-requires-clause-lengths c =
    let at : slice_get c.args.map.now.fields.items c.args.number ≡ Some c.index-field.result.now = slice_get_read _ _ _ _ refl c.requires.there c.index-field.ensures in
    let here : slice_get c.args.views.now c.args.number ≡ Some c.index-views-number.result = at_index c.args.views.now c.args.number c.index-views-number.result (omega (arith, c.requires.there, c.requires.given.one_each)) c.index-views-number.is in
    let first : c.deref.result.now ≡ c.index-views-number.result.value.items = c.deref.ensures.value ∙ ap (λ (g : FieldView). g.value.items) (sym c.index-views-number.is) in
    let bits = bits_are c.args.views.now c.args.hw.now c.index-field.result.now c.index-views-number.result c.deref.result.now c.as_slice.result.now c.filter_gate-filter.result (c.as_slice.ensures.value ∙ c.in_ok-bits.ensures) first c.filter_gate-filter.ensures in
    let value : c.deref-2.result.now ≡ c.index-views-number.result.value.items = c.deref-2.ensures.value ∙ ap (λ (g : FieldView). g.value.items) (sym c.index-views-number.is) in
    let long : length c.deref-2.result.now ≡ c.index-field.result.now.width = ap length value ∙ c.requires.given.value_length c.args.number _ _ at here in
    let word = filter_is_word c.args.graph.now c.args.map.now c.args.views.now c.args.hw.now c.args.number c.index-field.result.now c.index-views-number.result c.requires.given at here in
    long ∙ sym (ap length bits ∙ word.long)

pub raised_wire-requires-clause-room : goal.raised_wire-requires-clause-room
raised_wire-requires-clause-room c =
    let at : slice_get c.args.map.now.fields.items c.args.number ≡ Some c.index-field.result.now = slice_get_read _ _ _ _ refl c.requires.there c.index-field.ensures in
    let here : slice_get c.args.views.now c.args.number ≡ Some c.index-views-number.result = at_index c.args.views.now c.args.number c.index-views-number.result (omega (arith, c.requires.there, c.requires.given.one_each)) c.index-views-number.is in
    let value : c.deref-2.result.now ≡ c.index-views-number.result.value.items = c.deref-2.ensures.value ∙ ap (λ (g : FieldView). g.value.items) (sym c.index-views-number.is) in
    let long : length c.deref-2.result.now ≡ c.index-field.result.now.width = ap length value ∙ c.requires.given.value_length c.args.number _ _ at here in
    let width = width_here c.args.map.now.fields.items c.args.number c.index-field.result.now at in
    omega (arith, long, width, c.requires.room)

pub returns-in_err-wire-clause-nodes : goal.returns-in_err-wire-clause-nodes
returns-in_err-wire-clause-nodes c =
    let at : slice_get c.args.map.now.fields.items c.args.number ≡ Some c.index-field.result.now = slice_get_read _ _ _ _ refl c.requires.there c.index-field.ensures in
    let here : slice_get c.args.views.now c.args.number ≡ Some c.index-views-number.result = at_index c.args.views.now c.args.number c.index-views-number.result (omega (arith, c.requires.there, c.requires.given.one_each)) c.index-views-number.is in
    let value : c.deref-2.result.now ≡ c.index-views-number.result.value.items = c.deref-2.ensures.value ∙ ap (λ (g : FieldView). g.value.items) (sym c.index-views-number.is) in
    let long : length c.deref-2.result.now ≡ c.index-field.result.now.width = ap length value ∙ c.requires.given.value_length c.args.number _ _ at here in
    let width = width_here c.args.map.now.fields.items c.args.number c.index-field.result.now at in
    extends_at _ _ _ _ c.raised_wire.ensures.nodes (omega (arith, long, width))

pub returns-clause-nodes : goal.returns-clause-nodes
returns-clause-nodes c =
    let at : slice_get c.args.map.now.fields.items c.args.number ≡ Some c.index-field.result.now = slice_get_read _ _ _ _ refl c.requires.there c.index-field.ensures in
    let here : slice_get c.args.views.now c.args.number ≡ Some c.index-views-number.result = at_index c.args.views.now c.args.number c.index-views-number.result (omega (arith, c.requires.there, c.requires.given.one_each)) c.index-views-number.is in
    let value : c.deref-2.result.now ≡ c.index-views-number.result.value.items = c.deref-2.ensures.value ∙ ap (λ (g : FieldView). g.value.items) (sym c.index-views-number.is) in
    let long : length c.deref-2.result.now ≡ c.index-field.result.now.width = ap length value ∙ c.requires.given.value_length c.args.number _ _ at here in
    let width = width_here c.args.map.now.fields.items c.args.number c.index-field.result.now at in
    extends_at _ _ _ _ c.raised_wire.ensures.nodes (omega (arith, long, width))

pub returns-clause-wire : goal.returns-clause-wire
returns-clause-wire c = λ e s.
    let at : slice_get c.args.map.now.fields.items c.args.number ≡ Some c.index-field.result.now = slice_get_read _ _ _ _ refl c.requires.there c.index-field.ensures in
    let here : slice_get c.args.views.now c.args.number ≡ Some c.index-views-number.result = at_index c.args.views.now c.args.number c.index-views-number.result (omega (arith, c.requires.there, c.requires.given.one_each)) c.index-views-number.is in
    let first : c.deref.result.now ≡ c.index-views-number.result.value.items = c.deref.ensures.value ∙ ap (λ (g : FieldView). g.value.items) (sym c.index-views-number.is) in
    let bits = bits_are c.args.views.now c.args.hw.now c.index-field.result.now c.index-views-number.result c.deref.result.now c.as_slice.result.now c.filter_gate-filter.result (c.as_slice.ensures.value ∙ c.in_ok-bits.ensures) first c.filter_gate-filter.ensures in
    let value : c.deref-2.result.now ≡ c.index-views-number.result.value.items = c.deref-2.ensures.value ∙ ap (λ (g : FieldView). g.value.items) (sym c.index-views-number.is) in
    let long : length c.deref-2.result.now ≡ c.index-field.result.now.width = ap length value ∙ c.requires.given.value_length c.args.number _ _ at here in
    means_same _ _ _ _ c.in_ok-wire.ensures.wire (λ v r.
    let before : Respects v c.args.graph.now = respects_old v _ _ _ c.raised_wire.ensures.nodes r in
    rw (bits, c.filter_gate-filter.ensures, value) (raises_are c.args.graph.now c.args.map.now c.args.views.now c.args.hw.now e c.args.number (length c.index-views-number.result.value.items) c.index-field.result.now c.index-views-number.result v s before at here (sym (ap length value) ∙ long)))

pub returns-clause-exact : goal.returns-clause-exact
returns-clause-exact c =
    let at : slice_get c.args.map.now.fields.items c.args.number ≡ Some c.index-field.result.now = slice_get_read _ _ _ _ refl c.requires.there c.index-field.ensures in
    let here : slice_get c.args.views.now c.args.number ≡ Some c.index-views-number.result = at_index c.args.views.now c.args.number c.index-views-number.result (omega (arith, c.requires.there, c.requires.given.one_each)) c.index-views-number.is in
    let first : c.deref.result.now ≡ c.index-views-number.result.value.items = c.deref.ensures.value ∙ ap (λ (g : FieldView). g.value.items) (sym c.index-views-number.is) in
    let bits = bits_are c.args.views.now c.args.hw.now c.index-field.result.now c.index-views-number.result c.deref.result.now c.as_slice.result.now c.filter_gate-filter.result (c.as_slice.ensures.value ∙ c.in_ok-bits.ensures) first c.filter_gate-filter.ensures in
    let value : c.deref-2.result.now ≡ c.index-views-number.result.value.items = c.deref-2.ensures.value ∙ ap (λ (g : FieldView). g.value.items) (sym c.index-views-number.is) in
    let long : length c.deref-2.result.now ≡ c.index-field.result.now.width = ap length value ∙ c.requires.given.value_length c.args.number _ _ at here in
    member_is c.args.map.now.fields.items c.args.views.now c.args.hw.now c.args.graph.now c.args.number c.index-field.result.now c.index-views-number.result at here
    ∙ (rw (bits, c.filter_gate-filter.ensures, value) at c.in_ok-wire.ensures.exact)
