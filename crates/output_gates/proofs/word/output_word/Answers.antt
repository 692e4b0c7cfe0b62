use Rattle.std.proofs.Common.{◌≡◌, ◌<◌, [], ◌∷◌, Some, length, slice_get, ap, sym, ◌∙◌, arith}
use Rattle.std.proofs.lemmas.Option.{slice_get_within}
use Rattle.std.proofs.lemmas.Result.{IfOk-weaker}
use Rattle.field_edges.specs.Made.{ViewWires}
use Rattle.output_gates.proofs.OutputLemmas.{at_index, one_shown, accessed_is, anded_shown, ored_shown, xored_shown, view_is}
use Rattle.output_gates.proofs.word.output_word.Goals as goal

pub returns-in-Value-clause-value : goal.returns-in-Value-clause-value
returns-in-Value-clause-value c =
    let lt : c.args.number < length c.args.views.now = omega (arith, slice_get_within c.args.map.now.fields.items c.args.number c.args.field.now c.requires.field, c.requires.given.one_each) in
    let here : slice_get c.args.views.now c.args.number ≡ Some c.index-views-number.result = at_index c.args.views.now c.args.number c.index-views-number.result lt c.index-views-number.is in
    IfOk-weaker c.copied.result (λ w. w.items ≡ c.deref.result.now) _ (λ w h e u s. rw (h ∙ c.deref.ensures.value, c.in-Value.is) (s.fields_are.views_are.value c.args.number c.args.field.now c.index-views-number.result c.requires.field here)) c.copied.ensures

pub returns-in-Value-clause-exact : goal.returns-in-Value-clause-exact
returns-in-Value-clause-exact c =
    let lt : c.args.number < length c.args.views.now = omega (arith, slice_get_within c.args.map.now.fields.items c.args.number c.args.field.now c.requires.field, c.requires.given.one_each) in
    let here : slice_get c.args.views.now c.args.number ≡ Some c.index-views-number.result = at_index c.args.views.now c.args.number c.index-views-number.result lt c.index-views-number.is in
    let value : c.deref.result.now ≡ c.index-views-number.result.value.items = c.deref.ensures.value in
    IfOk-weaker c.copied.result (λ w. w.items ≡ c.deref.result.now) _ (λ w h. rw c.in-Value.is (ap (λ (y : ViewWires). (y.value, c.args.graph.now)) (view_is c.args.views.now c.args.number c.index-views-number.result here) ∙ ap (λ ws. (ws, c.args.graph.now)) (sym (h ∙ value)))) c.copied.ensures

pub returns-in_ok-wire-in-SwAcc-clause-value : goal.returns-in_ok-wire-in-SwAcc-clause-value
returns-in_ok-wire-in-SwAcc-clause-value c =
    IfOk-weaker c.word_of-in-SwAcc.result (λ w. w.items ≡ c.in_ok-wire-in-SwAcc.wire ∷ []) _ (λ w h e u s. rw (h, c.in-SwAcc.is) (one_shown _ _ _ (accessed_is _ _ _ c.args.field.now c.in_ok-wire-in-SwAcc.wire c.args.reads c.args.edge.now.enabled.items e c.accessed_wire.ensures.nodes (rw c.deref-in-SwAcc.ensures.value at c.in_ok-wire-in-SwAcc.ensures.wire) s.reads_is s.enabled))) c.word_of-in-SwAcc.ensures

pub returns-in_ok-wire-in-Intr-clause-value : goal.returns-in_ok-wire-in-Intr-clause-value
returns-in_ok-wire-in-Intr-clause-value c =
    IfOk-weaker c.word_of-in-Intr.result (λ w. w.items ≡ c.in_ok-wire-in-Intr.wire ∷ []) _ (λ w h e u s. rw (h, c.in-Intr.is) (one_shown _ _ _ (c.in_ok-wire-in-Intr.ensures.wire (λ v. (e v).view) s.fields_are))) c.word_of-in-Intr.ensures

pub returns-in-Anded-clause-value : goal.returns-in-Anded-clause-value
returns-in-Anded-clause-value c =
    let lt : c.args.number < length c.args.views.now = omega (arith, slice_get_within c.args.map.now.fields.items c.args.number c.args.field.now c.requires.field, c.requires.given.one_each) in
    let here : slice_get c.args.views.now c.args.number ≡ Some c.index-views-number.result = at_index c.args.views.now c.args.number c.index-views-number.result lt c.index-views-number.is in
    IfOk-weaker c.word_of-in-Anded.result (λ w. w.items ≡ c.index-views-number.result.anded ∷ []) _ (λ w h e u s. rw (h, c.in-Anded.is) (anded_shown c.args.graph.now c.args.map.now c.args.views.now c.args.hw.now (λ v. (e v).view) c.args.number c.args.field.now c.index-views-number.result s.fields_are c.requires.field here)) c.word_of-in-Anded.ensures

pub returns-in-Anded-clause-exact : goal.returns-in-Anded-clause-exact
returns-in-Anded-clause-exact c =
    let lt : c.args.number < length c.args.views.now = omega (arith, slice_get_within c.args.map.now.fields.items c.args.number c.args.field.now c.requires.field, c.requires.given.one_each) in
    let here : slice_get c.args.views.now c.args.number ≡ Some c.index-views-number.result = at_index c.args.views.now c.args.number c.index-views-number.result lt c.index-views-number.is in
    IfOk-weaker c.word_of-in-Anded.result (λ w. w.items ≡ c.index-views-number.result.anded ∷ []) _ (λ w h. rw c.in-Anded.is (ap (λ (y : ViewWires). (y.anded ∷ [], c.args.graph.now)) (view_is c.args.views.now c.args.number c.index-views-number.result here) ∙ ap (λ ws. (ws, c.args.graph.now)) (sym h))) c.word_of-in-Anded.ensures

pub returns-in-Ored-clause-value : goal.returns-in-Ored-clause-value
returns-in-Ored-clause-value c =
    let lt : c.args.number < length c.args.views.now = omega (arith, slice_get_within c.args.map.now.fields.items c.args.number c.args.field.now c.requires.field, c.requires.given.one_each) in
    let here : slice_get c.args.views.now c.args.number ≡ Some c.index-views-number.result = at_index c.args.views.now c.args.number c.index-views-number.result lt c.index-views-number.is in
    IfOk-weaker c.word_of-in-Ored.result (λ w. w.items ≡ c.index-views-number.result.ored ∷ []) _ (λ w h e u s. rw (h, c.in-Ored.is) (ored_shown c.args.graph.now c.args.map.now c.args.views.now c.args.hw.now (λ v. (e v).view) c.args.number c.args.field.now c.index-views-number.result s.fields_are c.requires.field here)) c.word_of-in-Ored.ensures

pub returns-in-Ored-clause-exact : goal.returns-in-Ored-clause-exact
returns-in-Ored-clause-exact c =
    let lt : c.args.number < length c.args.views.now = omega (arith, slice_get_within c.args.map.now.fields.items c.args.number c.args.field.now c.requires.field, c.requires.given.one_each) in
    let here : slice_get c.args.views.now c.args.number ≡ Some c.index-views-number.result = at_index c.args.views.now c.args.number c.index-views-number.result lt c.index-views-number.is in
    IfOk-weaker c.word_of-in-Ored.result (λ w. w.items ≡ c.index-views-number.result.ored ∷ []) _ (λ w h. rw c.in-Ored.is (ap (λ (y : ViewWires). (y.ored ∷ [], c.args.graph.now)) (view_is c.args.views.now c.args.number c.index-views-number.result here) ∙ ap (λ ws. (ws, c.args.graph.now)) (sym h))) c.word_of-in-Ored.ensures

pub returns-in-Xored-clause-value : goal.returns-in-Xored-clause-value
returns-in-Xored-clause-value c =
    let lt : c.args.number < length c.args.views.now = omega (arith, slice_get_within c.args.map.now.fields.items c.args.number c.args.field.now c.requires.field, c.requires.given.one_each) in
    let here : slice_get c.args.views.now c.args.number ≡ Some c.index-views-number.result = at_index c.args.views.now c.args.number c.index-views-number.result lt c.index-views-number.is in
    IfOk-weaker c.word_of-in-Xored.result (λ w. w.items ≡ c.index-views-number.result.xored ∷ []) _ (λ w h e u s. rw (h, c.in-Xored.is) (xored_shown c.args.graph.now c.args.map.now c.args.views.now c.args.hw.now (λ v. (e v).view) c.args.number c.args.field.now c.index-views-number.result s.fields_are c.requires.field here)) c.word_of-in-Xored.ensures

pub returns-in-Xored-clause-exact : goal.returns-in-Xored-clause-exact
returns-in-Xored-clause-exact c =
    let lt : c.args.number < length c.args.views.now = omega (arith, slice_get_within c.args.map.now.fields.items c.args.number c.args.field.now c.requires.field, c.requires.given.one_each) in
    let here : slice_get c.args.views.now c.args.number ≡ Some c.index-views-number.result = at_index c.args.views.now c.args.number c.index-views-number.result lt c.index-views-number.is in
    IfOk-weaker c.word_of-in-Xored.result (λ w. w.items ≡ c.index-views-number.result.xored ∷ []) _ (λ w h. rw c.in-Xored.is (ap (λ (y : ViewWires). (y.xored ∷ [], c.args.graph.now)) (view_is c.args.views.now c.args.number c.index-views-number.result here) ∙ ap (λ ws. (ws, c.args.graph.now)) (sym h))) c.word_of-in-Xored.ensures
