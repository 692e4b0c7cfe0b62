use Rattle.std.proofs.Common.{[], map, get_or, sym, ap, ◌∙◌, arith}
use Rattle.std.specs.List.{filter}
use Rattle.std.proofs.lemmas.List.{take_all, get_or_default, map_push}
use Rattle.std.proofs.lemmas.List.Sums.{sum_by_more, sum_by_more_le}
use Rattle.std.specs.declared.vec.Vec.{Vec}
use Rattle.std.specs.declared.alloc.Global.{Global}
use Rattle.field_policies.specs.declared.signal.OutSignal.TheVariants as out
use Rattle.field_policies.specs.Expressions.{shows}
use Rattle.gate_graph.specs.declared.wires.Wire.{Wire}
use Rattle.gate_graph.proofs.GateLemmas.{extends_more}
use Rattle.word_gates.proofs.WordLemmas.{extends_at}
use Rattle.word_gates.proofs.ExactLemmas.{along_step, along_end}
use Rattle.field_edges.specs.Made.{edge_wires, views_of, words_of}
use Rattle.field_edges.proofs.GivenLemmas.{given_later}
use Rattle.output_gates.specs.Outputs.{signals, signal_bits, signal_gates, shown_step_made, outputs_made, view_at}
use Rattle.output_gates.proofs.OutputLemmas.{all_push, all_same, all_gates, shown_more, shown_less, sees_later, step_shown, step_hidden}
use Rattle.output_gates.proofs.outputs.field_outputs.Goals as goal
use Rattle.output_gates.proofs.outputs.field_outputs.Goals.{then-has+in_ok-word+in_ok-push, else-has}

pub output_word-requires-clause-given : goal.output_word-requires-clause-given
output_word-requires-clause-given c = given_later _ _ _ _ _ _ _ c.loop-signal.invariant.extends c.requires.given

pub returns-in_err-push-clause-nodes : goal.returns-in_err-push-clause-nodes
returns-in_err-push-clause-nodes c =
    let fits = sum_by_more_le (signal_gates c.args.map.now.fields.items c.args.field.now) signals c.loop-signal.signal-index out.Value c.loop-signal-test.true in
    extends_more _ _ _ _ _ _ c.loop-signal.invariant.extends c.output_word.ensures.nodes (omega (arith, fits, all_gates c.args.map.now.fields.items c.args.field.now))

pub loop-signal-preserved : goal.loop-signal-preserved
loop-signal-preserved c =
    let here = get_or_default signals c.loop-signal.signal-index (get_or signals c.loop-signal.signal-index out.Value) out.Value c.loop-signal-test.true in
    let more = sum_by_more (signal_gates c.args.map.now.fields.items c.args.field.now) signals c.loop-signal.signal-index out.Value c.loop-signal-test.true in
    elim c.if-has.branch [
      | then-has+in_ok-word+in_ok-push w ↦
          let shown = sym c.has.ensures ∙ w.if-has.true in
          rw (w.graph-is, w.words-is, w.in_ok-push.ensures.items) record {
            extends = extends_more _ _ _ _ _ _ c.loop-signal.invariant.extends w.output_word.ensures.nodes (omega (arith, more));
            words = λ e u s. all_same _ _ _ _
                (all_push _ _ _ c.loop-signal.words.items w.in_ok-word.word _ _ w.output_word.ensures.nodes (c.loop-signal.invariant.words e u s)
                (w.in_ok-word.ensures.value e u (sees_later _ _ _ _ _ _ _ _ _ _ _ _ c.loop-signal.invariant.extends s)))
                (λ v r. sym (shown_more (signal_bits (e v) c.args.number c.args.field.now (u v)) (shows c.args.field.now.shown) signals c.loop-signal.signal-index (get_or signals c.loop-signal.signal-index out.Value) c.loop-signal-test.true here shown));
            exact = rw (map_push (λ (x : Vec Wire Global). x.items) c.loop-signal.words.items w.in_ok-word.word)
                (along_step (shown_step_made c.args.map.now.fields.items c.args.field.now c.args.reads (edge_wires c.args.edge.now) (view_at (views_of c.args.views.now) c.args.number) (views_of c.args.views.now) (words_of c.args.hw.now)) c.args.graph.now [] signals c.loop-signal.signal-index (get_or signals c.loop-signal.signal-index out.Value) (words_of c.loop-signal.words.items) _ _ _ c.loop-signal-test.true here
                (step_shown c.args.map.now.fields.items c.args.field.now c.args.reads (edge_wires c.args.edge.now) (view_at (views_of c.args.views.now) c.args.number) (views_of c.args.views.now) (words_of c.args.hw.now) _ _ (words_of c.loop-signal.words.items) w.in_ok-word.word.items (get_or signals c.loop-signal.signal-index out.Value) shown w.in_ok-word.ensures.exact) c.loop-signal.invariant.exact);
          }
      | else-has w ↦
          let hidden = sym c.has.ensures ∙ w.if-has.false in
          rw (w.graph-is, w.words-is) record {
            extends = extends_at _ _ _ _ c.loop-signal.invariant.extends (omega (arith, more));
            words = λ e u s. all_same _ _ _ _ (c.loop-signal.invariant.words e u s)
                (λ v r. sym (shown_less (signal_bits (e v) c.args.number c.args.field.now (u v)) (shows c.args.field.now.shown) signals c.loop-signal.signal-index (get_or signals c.loop-signal.signal-index out.Value) c.loop-signal-test.true here hidden));
            exact = along_step (shown_step_made c.args.map.now.fields.items c.args.field.now c.args.reads (edge_wires c.args.edge.now) (view_at (views_of c.args.views.now) c.args.number) (views_of c.args.views.now) (words_of c.args.hw.now)) c.args.graph.now [] signals c.loop-signal.signal-index (get_or signals c.loop-signal.signal-index out.Value) (words_of c.loop-signal.words.items) (words_of c.loop-signal.words.items) _ _ c.loop-signal-test.true here
                (step_hidden c.args.map.now.fields.items c.args.field.now c.args.reads (edge_wires c.args.edge.now) (view_at (views_of c.args.views.now) c.args.number) (views_of c.args.views.now) (words_of c.args.hw.now) c.loop-signal.graph (words_of c.loop-signal.words.items) (get_or signals c.loop-signal.signal-index out.Value) hidden) c.loop-signal.invariant.exact;
          }
    ]

pub returns-clause-value : goal.returns-clause-value
returns-clause-value c = λ e u s.
    all_same _ _ _ _ (c.loop-signal.invariant.words e u s) (λ v r. ap (λ ss. map (signal_bits (e v) c.args.number c.args.field.now (u v)) (filter (shows c.args.field.now.shown) ss)) (take_all c.loop-signal.signal-index signals c.loop-signal-test.false))

pub returns-clause-exact : goal.returns-clause-exact
unfolding outputs_made
returns-clause-exact c = along_end (shown_step_made c.args.map.now.fields.items c.args.field.now c.args.reads (edge_wires c.args.edge.now) (view_at (views_of c.args.views.now) c.args.number) (views_of c.args.views.now) (words_of c.args.hw.now)) c.args.graph.now [] signals c.loop-signal.signal-index _ c.loop-signal-test.false c.loop-signal.invariant.exact
