use Rattle.std.proofs.Common.{◌≡◌, ◌+◌, ◌*◌, ◌<◌, ◌≤◌, Some, [], ◌∷◌, length, map, get_or, slice_get, ap, sym, ◌∙◌, refl, arith, length-append}
use Rattle.std.specs.List.{sum_by}
use Rattle.std.proofs.lemmas.Option.{slice_get_read}
use Rattle.std.proofs.lemmas.List.{map_push}
use Rattle.std.proofs.lemmas.List.Sums.{sum_by_more, sum_by_more_le}
use Rattle.field_policies.specs.declared.field.Field.{Field}
use Rattle.gate_graph.proofs.GateLemmas.{extends_more, extends_none}
use Rattle.reg_machine.proofs.Views.{field_of}
use Rattle.expr_gates.specs.declared.view.FieldView.{FieldView}
use Rattle.latch_order.specs.Wires.{stored_wires}
use Rattle.field_edges.specs.Made.{words_of, view_wires}
use Rattle.field_edges.proofs.GivenLemmas.{IsWord, states_later}
use Rattle.field_edges.proofs.LoopLemmas.{each_more, each_end, facts_push}
use Rattle.map_views.specs.Views.{AllStates, AreInputs, IsShown, stores_of, pairs_of, pair_of, view_made, views_made}
use Rattle.map_views.proofs.ViewLemmas.{value_of_field, all_later, inputs_later, shown_later, made_here, view_is, pair_at, pairs_long, at_index, or_at, given_all}
use Rattle.map_views.proofs.views.map_views.Goals as goal

pub value_word-requires : goal.value_word-requires
value_word-requires c = λ k e.
    let lt : c.loop-n.n < length c.args.map.now.fields.items = omega (arith, c.loop-n-test.true, c.len-n-end.ensures) in
    let at : slice_get c.args.map.now.fields.items c.loop-n.n ≡ Some c.index.result.now = slice_get_read _ _ _ _ refl lt c.index.ensures in
    omega (arith, (field_of c.args.map.now c.loop-n.n _ at).source k e, c.requires.inputs.one_each)

pub view_gates-requires-clause-value_of : goal.view_gates-requires-clause-value_of
view_gates-requires-clause-value_of c =
    let lt : c.loop-n.n < length c.args.map.now.fields.items = omega (arith, c.loop-n-test.true, c.len-n-end.ensures) in
    let at : slice_get c.args.map.now.fields.items c.loop-n.n ≡ Some c.index.result.now = slice_get_read _ _ _ _ refl lt c.index.ensures in
    let here : slice_get c.args.states.now c.loop-n.n ≡ Some c.index-states-n.result = at_index c.args.states.now c.loop-n.n c.index-states-n.result (omega (arith, lt, c.requires.states.one_each)) c.index-states-n.is in
    let stored = states_later _ _ _ _ _ c.loop-n.invariant.extends (c.requires.states.each c.loop-n.n _ _ at here) in
    let word = value_of_field c.loop-n.graph c.args.map.now c.index.result.now c.index-states-n.result c.args.hw.now (field_of c.args.map.now c.loop-n.n _ at) (inputs_later _ _ _ _ _ c.loop-n.invariant.extends c.requires.inputs) stored in
    rw (c.as_slice.ensures.value, c.in_ok-value.ensures) word.of

pub view_gates-requires-clause-room : goal.view_gates-requires-clause-room
view_gates-requires-clause-room c =
    let lt : c.loop-n.n < length c.args.map.now.fields.items = omega (arith, c.loop-n-test.true, c.len-n-end.ensures) in
    let at : slice_get c.args.map.now.fields.items c.loop-n.n ≡ Some c.index.result.now = slice_get_read _ _ _ _ refl lt c.index.ensures in
    let here : slice_get c.args.states.now c.loop-n.n ≡ Some c.index-states-n.result = at_index c.args.states.now c.loop-n.n c.index-states-n.result (omega (arith, lt, c.requires.states.one_each)) c.index-states-n.is in
    let stored = states_later _ _ _ _ _ c.loop-n.invariant.extends (c.requires.states.each c.loop-n.n _ _ at here) in
    let word = value_of_field c.loop-n.graph c.args.map.now c.index.result.now c.index-states-n.result c.args.hw.now (field_of c.args.map.now c.loop-n.n _ at) (inputs_later _ _ _ _ _ c.loop-n.invariant.extends c.requires.inputs) stored in
    let long : length c.as_slice.result.now ≡ c.index.result.now.width = ap length (c.as_slice.ensures.value ∙ c.in_ok-value.ensures) ∙ word.long in
    let width : (get_or c.args.map.now.fields.items c.loop-n.n c.index.result.now).width ≡ c.index.result.now.width = ap (λ (f : Field). f.width) (or_at c.args.map.now.fields.items c.loop-n.n c.index.result.now at) in
    let fits = sum_by_more_le (λ (f : Field). f.width) c.args.map.now.fields.items c.loop-n.n c.index.result.now lt in
    omega (arith, long, width, fits, c.loop-n.invariant.extends.bound, c.requires.room)

pub returns-in_err-view-clause-nodes : goal.returns-in_err-view-clause-nodes
returns-in_err-view-clause-nodes c =
    let lt : c.loop-n.n < length c.args.map.now.fields.items = omega (arith, c.loop-n-test.true, c.len-n-end.ensures) in
    let at : slice_get c.args.map.now.fields.items c.loop-n.n ≡ Some c.index.result.now = slice_get_read _ _ _ _ refl lt c.index.ensures in
    let here : slice_get c.args.states.now c.loop-n.n ≡ Some c.index-states-n.result = at_index c.args.states.now c.loop-n.n c.index-states-n.result (omega (arith, lt, c.requires.states.one_each)) c.index-states-n.is in
    let stored = states_later _ _ _ _ _ c.loop-n.invariant.extends (c.requires.states.each c.loop-n.n _ _ at here) in
    let word = value_of_field c.loop-n.graph c.args.map.now c.index.result.now c.index-states-n.result c.args.hw.now (field_of c.args.map.now c.loop-n.n _ at) (inputs_later _ _ _ _ _ c.loop-n.invariant.extends c.requires.inputs) stored in
    let long : length c.as_slice.result.now ≡ c.index.result.now.width = ap length (c.as_slice.ensures.value ∙ c.in_ok-value.ensures) ∙ word.long in
    let width : (get_or c.args.map.now.fields.items c.loop-n.n c.index.result.now).width ≡ c.index.result.now.width = ap (λ (f : Field). f.width) (or_at c.args.map.now.fields.items c.loop-n.n c.index.result.now at) in
    let fits = sum_by_more_le (λ (f : Field). f.width) c.args.map.now.fields.items c.loop-n.n c.index.result.now lt in
    extends_more _ _ _ _ _ _ c.loop-n.invariant.extends c.view_gates.ensures.nodes (omega (arith, long, width, fits))

pub returns-in_err-push-clause-nodes : goal.returns-in_err-push-clause-nodes
returns-in_err-push-clause-nodes c =
    let lt : c.loop-n.n < length c.args.map.now.fields.items = omega (arith, c.loop-n-test.true, c.len-n-end.ensures) in
    let at : slice_get c.args.map.now.fields.items c.loop-n.n ≡ Some c.index.result.now = slice_get_read _ _ _ _ refl lt c.index.ensures in
    let here : slice_get c.args.states.now c.loop-n.n ≡ Some c.index-states-n.result = at_index c.args.states.now c.loop-n.n c.index-states-n.result (omega (arith, lt, c.requires.states.one_each)) c.index-states-n.is in
    let stored = states_later _ _ _ _ _ c.loop-n.invariant.extends (c.requires.states.each c.loop-n.n _ _ at here) in
    let word = value_of_field c.loop-n.graph c.args.map.now c.index.result.now c.index-states-n.result c.args.hw.now (field_of c.args.map.now c.loop-n.n _ at) (inputs_later _ _ _ _ _ c.loop-n.invariant.extends c.requires.inputs) stored in
    let long : length c.as_slice.result.now ≡ c.index.result.now.width = ap length (c.as_slice.ensures.value ∙ c.in_ok-value.ensures) ∙ word.long in
    let width : (get_or c.args.map.now.fields.items c.loop-n.n c.index.result.now).width ≡ c.index.result.now.width = ap (λ (f : Field). f.width) (or_at c.args.map.now.fields.items c.loop-n.n c.index.result.now at) in
    let fits = sum_by_more_le (λ (f : Field). f.width) c.args.map.now.fields.items c.loop-n.n c.index.result.now lt in
    extends_more _ _ _ _ _ _ c.loop-n.invariant.extends c.view_gates.ensures.nodes (omega (arith, long, width, fits))

pub loop-n-preserved : goal.loop-n-preserved
loop-n-preserved c =
    let lt : c.loop-n.n < length c.args.map.now.fields.items = omega (arith, c.loop-n-test.true, c.len-n-end.ensures) in
    let at : slice_get c.args.map.now.fields.items c.loop-n.n ≡ Some c.index.result.now = slice_get_read _ _ _ _ refl lt c.index.ensures in
    let here : slice_get c.args.states.now c.loop-n.n ≡ Some c.index-states-n.result = at_index c.args.states.now c.loop-n.n c.index-states-n.result (omega (arith, lt, c.requires.states.one_each)) c.index-states-n.is in
    let stored = states_later _ _ _ _ _ c.loop-n.invariant.extends (c.requires.states.each c.loop-n.n _ _ at here) in
    let word = value_of_field c.loop-n.graph c.args.map.now c.index.result.now c.index-states-n.result c.args.hw.now (field_of c.args.map.now c.loop-n.n _ at) (inputs_later _ _ _ _ _ c.loop-n.invariant.extends c.requires.inputs) stored in
    let long : length c.as_slice.result.now ≡ c.index.result.now.width = ap length (c.as_slice.ensures.value ∙ c.in_ok-value.ensures) ∙ word.long in
    let width : (get_or c.args.map.now.fields.items c.loop-n.n c.index.result.now).width ≡ c.index.result.now.width = ap (λ (f : Field). f.width) (or_at c.args.map.now.fields.items c.loop-n.n c.index.result.now at) in
    let more = sum_by_more (λ (f : Field). f.width) c.args.map.now.fields.items c.loop-n.n c.index.result.now lt in
    let value = c.as_slice.ensures.value ∙ c.in_ok-value.ensures in
    rw c.in_ok-push.ensures.items record {
      size = omega (arith, length-append c.loop-n.views.items (c.in_ok-view.view ∷ []), c.loop-n.invariant.size);
      extends = extends_more _ _ _ _ _ _ c.loop-n.invariant.extends c.view_gates.ensures.nodes (omega (arith, long, width, more));
      made = facts_push _ c.loop-n.views.items c.in_ok-view.view c.loop-n.n c.loop-n.invariant.size
          (λ k g there f at s here. shown_later _ _ _ f s c.args.hw.now g c.view_gates.ensures.nodes (c.loop-n.invariant.made k g there f at s here))
          (made_here _ c.args.map.now.fields.items c.args.states.now c.loop-n.n c.index.result.now c.index-states-n.result c.args.hw.now c.in_ok-view.view at here record {
            value = c.in_ok-view.ensures.value ∙ value;
            anded = rw c.in_ok-view.ensures.value c.in_ok-view.ensures.anded;
            ored = rw c.in_ok-view.ensures.value c.in_ok-view.ensures.ored;
            xored = rw c.in_ok-view.ensures.value c.in_ok-view.ensures.xored;
          });
      exact = rw (map_push view_wires c.loop-n.views.items c.in_ok-view.view)
          (each_more (view_made (words_of c.args.hw.now)) c.args.graph.now (pairs_of c.args.map.now.fields.items (stores_of c.args.states.now)) c.loop-n.n (pair_of c.index.result.now (stored_wires c.index-states-n.result)) _ _ _ _
          (omega (arith, pairs_long c.args.map.now.fields.items c.args.states.now c.requires.states.one_each, lt))
          (pair_at c.args.map.now.fields.items c.args.states.now c.loop-n.n c.index.result.now c.index-states-n.result lt (omega (arith, lt, c.requires.states.one_each)) (or_at c.args.map.now.fields.items c.loop-n.n c.index.result.now at) (or_at c.args.states.now c.loop-n.n c.index-states-n.result here))
          (view_is (words_of c.args.hw.now) _ _ c.index.result.now (stored_wires c.index-states-n.result) c.as_slice.result.now c.in_ok-view.view value c.in_ok-view.ensures.value c.in_ok-view.ensures.exact)
          c.loop-n.invariant.exact);
    }

pub returns-clause-given : goal.returns-clause-given
returns-clause-given c =
    given_all c.loop-n.graph c.args.map.now c.args.states.now c.args.hw.now c.loop-n.views.items (c.loop-n.invariant.extends.kept 0 _ c.size-size.ensures.graph.low.first) (omega (arith, c.loop-n.invariant.size, c.len-n-end.ensures, c.loop-n-test.false, c.loop-n.auto.n-end))
    (all_later _ _ _ _ _ c.loop-n.invariant.extends c.requires.states) (inputs_later _ _ _ _ _ c.loop-n.invariant.extends c.requires.inputs) c.loop-n.invariant.made

pub returns-clause-exact : goal.returns-clause-exact
unfolding views_made
returns-clause-exact c =
    each_end (view_made (words_of c.args.hw.now)) c.args.graph.now (pairs_of c.args.map.now.fields.items (stores_of c.args.states.now)) c.loop-n.n _ (omega (arith, pairs_long c.args.map.now.fields.items c.args.states.now c.requires.states.one_each, c.len-n-end.ensures, c.loop-n-test.false)) c.loop-n.invariant.exact
