use Rattle.std.proofs.Common.{◌≡◌, ◌+◌, ◌<◌, ◌≤◌, Some, length, get_or, slice_get, ap, sym, ◌∙◌, refl, subst, arith}
use Rattle.std.proofs.lemmas.Option.{slice_get-get_or}
use Rattle.std.proofs.lemmas.List.Sums.{sum_by_more, sum_by_more_le}
use Rattle.field_policies.specs.declared.field.Field.{Field}
use Rattle.gate_graph.proofs.GateLemmas.{extends_more, are_of_later}
use Rattle.word_gates.specs.Words.{Shows}
use Rattle.expr_gates.specs.declared.view.FieldView.{FieldView}
use Rattle.answer_gates.specs.Laws.{shown_below}
use Rattle.field_edges.proofs.GivenLemmas.{states_later}
use Rattle.map_views.proofs.ViewLemmas.{at_index, or_at}
use Rattle.map_edges.proofs.EdgeLemmas.{sees_later, no_hit}
use Rattle.map_answers.specs.Answers.{data_gates_of, known_at}
use Rattle.map_answers.proofs.AnswerLemmas.{shown_step}
use Rattle.map_answers.proofs.data.data_word.Goals as goal

pub shown_word-requires-clause-known_of : goal.shown_word-requires-clause-known_of
shown_word-requires-clause-known_of c =
    let lt : c.loop-n.n < length c.args.map.now.fields.items = omega (arith, c.loop-n-test.true, c.len-n-end.ensures) in
    let field_is = c.field_at-field.ensures.here in
    let here : slice_get c.args.states.now c.loop-n.n ≡ Some c.index-states-n.result = at_index c.args.states.now c.loop-n.n c.index-states-n.result (omega (arith, lt, c.requires.states.one_each)) c.index-states-n.is in
    let known = (c.requires.states.each c.loop-n.n _ _ field_is here).known_of in
    rw (sym c.index-states-n.is) (omega (arith, known, c.loop-n.invariant.extends.grows))

pub shown_word-requires-clause-value_of : goal.shown_word-requires-clause-value_of
shown_word-requires-clause-value_of c =
    let lt : c.loop-n.n < length c.args.map.now.fields.items = omega (arith, c.loop-n-test.true, c.len-n-end.ensures) in
    let field_is = c.field_at-field.ensures.here in
    let here : slice_get c.args.states.now c.loop-n.n ≡ Some c.index-states-n.result = at_index c.args.states.now c.loop-n.n c.index-states-n.result (omega (arith, lt, c.requires.states.one_each)) c.index-states-n.is in
    let view : slice_get c.args.views.now c.loop-n.n ≡ Some c.index-views-n.result = at_index c.args.views.now c.loop-n.n c.index-views-n.result (omega (arith, lt, c.requires.given.one_each)) c.index-views-n.is in
    let value : c.deref.result.now ≡ c.index-views-n.result.value.items = c.deref.ensures.value ∙ ap (λ (g : FieldView). g.value.items) (sym c.index-views-n.is) in
    let long : length c.deref.result.now ≡ c.field_at-field.result.now.width = ap length value ∙ c.requires.given.value_length c.loop-n.n _ _ field_is view in
    let bus : length c.as_slice.result.now ≡ c.args.map.now.bus_width = ap length c.as_slice.ensures.value ∙ c.loop-n.invariant.size in
    let width : (get_or c.args.map.now.fields.items c.loop-n.n c.field_at-field.result.now).width ≡ c.field_at-field.result.now.width = ap (λ (f : Field). f.width) (or_at c.args.map.now.fields.items c.loop-n.n c.field_at-field.result.now field_is) in
    rw value (are_of_later _ _ _ _ c.loop-n.invariant.extends (c.requires.given.value_of c.loop-n.n _ view))

pub shown_word-requires-clause-inside : goal.shown_word-requires-clause-inside
shown_word-requires-clause-inside c =
    let lt : c.loop-n.n < length c.args.map.now.fields.items = omega (arith, c.loop-n-test.true, c.len-n-end.ensures) in
    let field_is = c.field_at-field.ensures.here in
    let here : slice_get c.args.states.now c.loop-n.n ≡ Some c.index-states-n.result = at_index c.args.states.now c.loop-n.n c.index-states-n.result (omega (arith, lt, c.requires.states.one_each)) c.index-states-n.is in
    let view : slice_get c.args.views.now c.loop-n.n ≡ Some c.index-views-n.result = at_index c.args.views.now c.loop-n.n c.index-views-n.result (omega (arith, lt, c.requires.given.one_each)) c.index-views-n.is in
    let value : c.deref.result.now ≡ c.index-views-n.result.value.items = c.deref.ensures.value ∙ ap (λ (g : FieldView). g.value.items) (sym c.index-views-n.is) in
    let long : length c.deref.result.now ≡ c.field_at-field.result.now.width = ap length value ∙ c.requires.given.value_length c.loop-n.n _ _ field_is view in
    let bus : length c.as_slice.result.now ≡ c.args.map.now.bus_width = ap length c.as_slice.ensures.value ∙ c.loop-n.invariant.size in
    let width : (get_or c.args.map.now.fields.items c.loop-n.n c.field_at-field.result.now).width ≡ c.field_at-field.result.now.width = ap (λ (f : Field). f.width) (or_at c.args.map.now.fields.items c.loop-n.n c.field_at-field.result.now field_is) in
    omega (arith, long, bus, c.field_at-field.ensures.field.in_word)

pub shown_word-requires-clause-room : goal.shown_word-requires-clause-room
shown_word-requires-clause-room c =
    let lt : c.loop-n.n < length c.args.map.now.fields.items = omega (arith, c.loop-n-test.true, c.len-n-end.ensures) in
    let field_is = c.field_at-field.ensures.here in
    let here : slice_get c.args.states.now c.loop-n.n ≡ Some c.index-states-n.result = at_index c.args.states.now c.loop-n.n c.index-states-n.result (omega (arith, lt, c.requires.states.one_each)) c.index-states-n.is in
    let view : slice_get c.args.views.now c.loop-n.n ≡ Some c.index-views-n.result = at_index c.args.views.now c.loop-n.n c.index-views-n.result (omega (arith, lt, c.requires.given.one_each)) c.index-views-n.is in
    let value : c.deref.result.now ≡ c.index-views-n.result.value.items = c.deref.ensures.value ∙ ap (λ (g : FieldView). g.value.items) (sym c.index-views-n.is) in
    let long : length c.deref.result.now ≡ c.field_at-field.result.now.width = ap length value ∙ c.requires.given.value_length c.loop-n.n _ _ field_is view in
    let bus : length c.as_slice.result.now ≡ c.args.map.now.bus_width = ap length c.as_slice.ensures.value ∙ c.loop-n.invariant.size in
    let width : (get_or c.args.map.now.fields.items c.loop-n.n c.field_at-field.result.now).width ≡ c.field_at-field.result.now.width = ap (λ (f : Field). f.width) (or_at c.args.map.now.fields.items c.loop-n.n c.field_at-field.result.now field_is) in
    let fits = sum_by_more_le data_gates_of c.args.map.now.fields.items c.loop-n.n c.field_at-field.result.now lt in
    omega (arith, long, bus, width, fits, c.loop-n.invariant.extends.bound, c.requires.room, c.field_at-field.ensures.field.bus)

pub returns-in_err-word-2-clause-nodes : goal.returns-in_err-word-2-clause-nodes
returns-in_err-word-2-clause-nodes c =
    let lt : c.loop-n.n < length c.args.map.now.fields.items = omega (arith, c.loop-n-test.true, c.len-n-end.ensures) in
    let field_is = c.field_at-field.ensures.here in
    let here : slice_get c.args.states.now c.loop-n.n ≡ Some c.index-states-n.result = at_index c.args.states.now c.loop-n.n c.index-states-n.result (omega (arith, lt, c.requires.states.one_each)) c.index-states-n.is in
    let view : slice_get c.args.views.now c.loop-n.n ≡ Some c.index-views-n.result = at_index c.args.views.now c.loop-n.n c.index-views-n.result (omega (arith, lt, c.requires.given.one_each)) c.index-views-n.is in
    let value : c.deref.result.now ≡ c.index-views-n.result.value.items = c.deref.ensures.value ∙ ap (λ (g : FieldView). g.value.items) (sym c.index-views-n.is) in
    let long : length c.deref.result.now ≡ c.field_at-field.result.now.width = ap length value ∙ c.requires.given.value_length c.loop-n.n _ _ field_is view in
    let bus : length c.as_slice.result.now ≡ c.args.map.now.bus_width = ap length c.as_slice.ensures.value ∙ c.loop-n.invariant.size in
    let width : (get_or c.args.map.now.fields.items c.loop-n.n c.field_at-field.result.now).width ≡ c.field_at-field.result.now.width = ap (λ (f : Field). f.width) (or_at c.args.map.now.fields.items c.loop-n.n c.field_at-field.result.now field_is) in
    let fits = sum_by_more_le data_gates_of c.args.map.now.fields.items c.loop-n.n c.field_at-field.result.now lt in
    extends_more _ _ _ _ _ _ c.loop-n.invariant.extends c.shown_word.ensures.nodes (omega (arith, long, bus, width, fits, c.field_at-field.ensures.field.bus))

pub loop-n-preserved : goal.loop-n-preserved
loop-n-preserved c =
    let lt : c.loop-n.n < length c.args.map.now.fields.items = omega (arith, c.loop-n-test.true, c.len-n-end.ensures) in
    let field_is = c.field_at-field.ensures.here in
    let here : slice_get c.args.states.now c.loop-n.n ≡ Some c.index-states-n.result = at_index c.args.states.now c.loop-n.n c.index-states-n.result (omega (arith, lt, c.requires.states.one_each)) c.index-states-n.is in
    let view : slice_get c.args.views.now c.loop-n.n ≡ Some c.index-views-n.result = at_index c.args.views.now c.loop-n.n c.index-views-n.result (omega (arith, lt, c.requires.given.one_each)) c.index-views-n.is in
    let value : c.deref.result.now ≡ c.index-views-n.result.value.items = c.deref.ensures.value ∙ ap (λ (g : FieldView). g.value.items) (sym c.index-views-n.is) in
    let long : length c.deref.result.now ≡ c.field_at-field.result.now.width = ap length value ∙ c.requires.given.value_length c.loop-n.n _ _ field_is view in
    let bus : length c.as_slice.result.now ≡ c.args.map.now.bus_width = ap length c.as_slice.ensures.value ∙ c.loop-n.invariant.size in
    let width : (get_or c.args.map.now.fields.items c.loop-n.n c.field_at-field.result.now).width ≡ c.field_at-field.result.now.width = ap (λ (f : Field). f.width) (or_at c.args.map.now.fields.items c.loop-n.n c.field_at-field.result.now field_is) in
    let more = sum_by_more data_gates_of c.args.map.now.fields.items c.loop-n.n c.field_at-field.result.now lt in
    let stored = states_later _ _ _ _ _ c.loop-n.invariant.extends (c.requires.states.each c.loop-n.n _ _ field_is here) in
    let there : c.field_at-field.result.now.word < length c.args.hits.now = omega (arith, c.field_at-field.ensures.field.there, c.requires.hits_length) in
    record {
      size = c.in_ok-word-2.ensures.length ∙ bus;
      of = c.in_ok-word-2.ensures.value.of;
      extends = extends_more _ _ _ _ _ _ c.loop-n.invariant.extends c.shown_word.ensures.nodes (omega (arith, long, bus, width, more, c.field_at-field.ensures.field.bus));
      shown = λ e event payload p. shown_step c.loop-n.graph _ _ c.args.map.now event payload c.args.hits.now c.args.views.now c.args.hw.now e c.args.states.now c.loop-n.n c.field_at-field.result.now c.index-states-n.result c.index-views-n.result
          (get_or c.args.hits.now c.field_at-field.result.now.word no_hit) c.loop-n.word.items c.in_ok-word-2.word.items c.shown_word.ensures.nodes
          (sees_later _ _ _ c.args.map.now event payload c.args.hits.now c.args.views.now c.args.hw.now e c.loop-n.invariant.extends p) field_is here view (slice_get-get_or c.args.hits.now c.field_at-field.result.now.word no_hit there) stored
          c.field_at-field.ensures.field.in_word (c.loop-n.invariant.shown e event payload p) (rw (c.as_slice.ensures.value, value, sym c.index-states-n.is) at c.in_ok-word-2.ensures.value);
    }

pub returns-clause-shown : goal.returns-clause-shown
returns-clause-shown c = λ e event payload p.
    let all : c.loop-n.n ≡ length c.args.map.now.fields.items = omega (arith, c.loop-n-test.false, c.len-n-end.ensures, c.loop-n.auto.n-end) in
    subst (λ k. Shows c.loop-n.graph c.loop-n.word.items (λ v. shown_below (e v) (known_at v c.args.states.now) c.args.map.now.bus_width k)) all (c.loop-n.invariant.shown e event payload p)
