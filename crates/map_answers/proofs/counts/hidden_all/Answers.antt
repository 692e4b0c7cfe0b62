use Rattle.std.proofs.Common.{◌≡◌, ◌+◌, ◌*◌, ◌<◌, ◌≤◌, Some, length, get_or, slice_get, ap, sym, ◌∙◌, refl, subst, arith}
use Rattle.std.proofs.lemmas.Option.{slice_get-get_or}
use Rattle.gate_graph.proofs.GateLemmas.{extends_more}
use Rattle.word_gates.specs.Words.{Shows}
use Rattle.answer_gates.specs.Laws.{hidden_below}
use Rattle.field_edges.proofs.GivenLemmas.{states_later}
use Rattle.map_views.proofs.ViewLemmas.{at_index}
use Rattle.map_edges.proofs.EdgeLemmas.{sees_later, no_hit}
use Rattle.map_answers.specs.Answers.{known_at}
use Rattle.map_answers.proofs.AnswerLemmas.{hidden_step}
use Rattle.map_answers.proofs.counts.hidden_all.Goals as goal

pub hidden_word-requires-clause-known_of : goal.hidden_word-requires-clause-known_of
hidden_word-requires-clause-known_of c =
    let lt : c.loop-n.n < length c.args.map.now.fields.items = omega (arith, c.loop-n-test.true, c.len-n-end.ensures) in
    let field_is = c.field_at-field.ensures.here in
    let here : slice_get c.args.states.now c.loop-n.n ≡ Some c.index-states-n.result = at_index c.args.states.now c.loop-n.n c.index-states-n.result (omega (arith, lt, c.requires.states.one_each)) c.index-states-n.is in
    let bus : length c.as_slice.result.now ≡ c.args.map.now.bus_width = ap length c.as_slice.ensures.value ∙ c.loop-n.invariant.size in
    let known = (c.requires.states.each c.loop-n.n _ _ field_is here).known_of in
    rw (sym c.index-states-n.is) (omega (arith, known, c.loop-n.invariant.extends.grows))

pub hidden_word-requires-clause-inside : goal.hidden_word-requires-clause-inside
hidden_word-requires-clause-inside c =
    let lt : c.loop-n.n < length c.args.map.now.fields.items = omega (arith, c.loop-n-test.true, c.len-n-end.ensures) in
    let field_is = c.field_at-field.ensures.here in
    let here : slice_get c.args.states.now c.loop-n.n ≡ Some c.index-states-n.result = at_index c.args.states.now c.loop-n.n c.index-states-n.result (omega (arith, lt, c.requires.states.one_each)) c.index-states-n.is in
    let bus : length c.as_slice.result.now ≡ c.args.map.now.bus_width = ap length c.as_slice.ensures.value ∙ c.loop-n.invariant.size in
    omega (arith, bus, c.field_at-field.ensures.field.in_word)

pub hidden_word-requires-clause-room : goal.hidden_word-requires-clause-room
hidden_word-requires-clause-room c =
    let lt : c.loop-n.n < length c.args.map.now.fields.items = omega (arith, c.loop-n-test.true, c.len-n-end.ensures) in
    let field_is = c.field_at-field.ensures.here in
    let here : slice_get c.args.states.now c.loop-n.n ≡ Some c.index-states-n.result = at_index c.args.states.now c.loop-n.n c.index-states-n.result (omega (arith, lt, c.requires.states.one_each)) c.index-states-n.is in
    let bus : length c.as_slice.result.now ≡ c.args.map.now.bus_width = ap length c.as_slice.ensures.value ∙ c.loop-n.invariant.size in
    omega (arith, bus, lt, c.loop-n.invariant.extends.bound, c.requires.room, c.field_at-field.ensures.field.bus)

pub returns-in_err-word-2-clause-nodes : goal.returns-in_err-word-2-clause-nodes
returns-in_err-word-2-clause-nodes c =
    let lt : c.loop-n.n < length c.args.map.now.fields.items = omega (arith, c.loop-n-test.true, c.len-n-end.ensures) in
    let field_is = c.field_at-field.ensures.here in
    let here : slice_get c.args.states.now c.loop-n.n ≡ Some c.index-states-n.result = at_index c.args.states.now c.loop-n.n c.index-states-n.result (omega (arith, lt, c.requires.states.one_each)) c.index-states-n.is in
    let bus : length c.as_slice.result.now ≡ c.args.map.now.bus_width = ap length c.as_slice.ensures.value ∙ c.loop-n.invariant.size in
    extends_more _ _ _ _ _ _ c.loop-n.invariant.extends c.hidden_word.ensures.nodes (omega (arith, bus, lt, c.field_at-field.ensures.field.bus))

pub loop-n-preserved : goal.loop-n-preserved
loop-n-preserved c =
    let lt : c.loop-n.n < length c.args.map.now.fields.items = omega (arith, c.loop-n-test.true, c.len-n-end.ensures) in
    let field_is = c.field_at-field.ensures.here in
    let here : slice_get c.args.states.now c.loop-n.n ≡ Some c.index-states-n.result = at_index c.args.states.now c.loop-n.n c.index-states-n.result (omega (arith, lt, c.requires.states.one_each)) c.index-states-n.is in
    let bus : length c.as_slice.result.now ≡ c.args.map.now.bus_width = ap length c.as_slice.ensures.value ∙ c.loop-n.invariant.size in
    let stored = states_later _ _ _ _ _ c.loop-n.invariant.extends (c.requires.states.each c.loop-n.n _ _ field_is here) in
    let there : c.field_at-field.result.now.word < length c.args.hits.now = omega (arith, c.field_at-field.ensures.field.there, c.requires.hits_length) in
    record {
      size = c.in_ok-word-2.ensures.length ∙ bus;
      of = c.in_ok-word-2.ensures.value.of;
      extends = extends_more _ _ _ _ _ _ c.loop-n.invariant.extends c.hidden_word.ensures.nodes (omega (arith, bus, lt, c.field_at-field.ensures.field.bus));
      hidden = λ e event payload views hw p. hidden_step c.loop-n.graph _ _ c.args.map.now event payload c.args.hits.now views hw e c.args.states.now c.loop-n.n c.field_at-field.result.now c.index-states-n.result
          (get_or c.args.hits.now c.field_at-field.result.now.word no_hit) c.loop-n.word.items c.in_ok-word-2.word.items c.hidden_word.ensures.nodes
          (sees_later _ _ _ c.args.map.now event payload c.args.hits.now views hw e c.loop-n.invariant.extends p) field_is here (slice_get-get_or c.args.hits.now c.field_at-field.result.now.word no_hit there) stored
          c.field_at-field.ensures.field.in_word (c.loop-n.invariant.hidden e event payload views hw p) (rw (c.as_slice.ensures.value, sym c.index-states-n.is) at c.in_ok-word-2.ensures.value);
    }

pub returns-clause-hidden : goal.returns-clause-hidden
returns-clause-hidden c = λ e event payload views hw p.
    let all : c.loop-n.n ≡ length c.args.map.now.fields.items = omega (arith, c.loop-n-test.false, c.len-n-end.ensures, c.loop-n.auto.n-end) in
    subst (λ k. Shows c.loop-n.graph c.loop-n.word.items (λ v. hidden_below (e v) (known_at v c.args.states.now) c.args.map.now.bus_width k)) all (c.loop-n.invariant.hidden e event payload views hw p)
