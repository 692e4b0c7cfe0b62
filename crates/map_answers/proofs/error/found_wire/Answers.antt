use Rattle.std.proofs.Common.{◌≡◌, ◌+◌, ◌*◌, ◌<◌, Some, length, get_or, slice_get, ap, sym, ◌∙◌, refl, arith}
use Rattle.std.proofs.lemmas.Option.{slice_get-get_or}
use Rattle.std.proofs.Math.ListN.{get_or-map}
use Rattle.std.proofs.lemmas.List.{get_or_default, length-map}
use Rattle.gate_graph.specs.Gates.{Respects}
use Rattle.gate_graph.proofs.GateLemmas.{respects_old, extends_more}
use Rattle.word_gates.specs.Graphs.{off}
use Rattle.word_gates.proofs.WordLemmas.{means_same}
use Rattle.word_gates.proofs.ExactLemmas.{along_step, along_end}
use Rattle.event_gates.specs.Events.{event_at}
use Rattle.map_edges.specs.Hits.{hits_of, hit_wires}
use Rattle.map_edges.proofs.EdgeLemmas.{no_hit}
use Rattle.map_answers.specs.Errors.{is_at, found_step_made, found_made}
use Rattle.map_answers.proofs.ErrorLemmas.{any_more}
use Rattle.map_answers.proofs.error.found_wire.Goals as goal

pub or_wire-requires-clause-a_of : goal.or_wire-requires-clause-a_of
or_wire-requires-clause-a_of c =
    let here = c.requires.hits c.loop-n.n _ (slice_get-get_or c.args.hits.now c.loop-n.n no_hit c.loop-n-test.true) _ (slice_get-get_or c.args.words.now c.loop-n.n 0 (omega (arith, c.loop-n-test.true, c.requires.one_each))) in
    omega (arith, here.reads.of, c.loop-n.invariant.extends.grows)

pub or_wire-requires-clause-b_of : goal.or_wire-requires-clause-b_of
or_wire-requires-clause-b_of c =
    let here = c.requires.hits c.loop-n.n _ (slice_get-get_or c.args.hits.now c.loop-n.n no_hit c.loop-n-test.true) _ (slice_get-get_or c.args.words.now c.loop-n.n 0 (omega (arith, c.loop-n-test.true, c.requires.one_each))) in
    omega (arith, here.writes.of, c.loop-n.invariant.extends.grows)

pub loop-n-preserved : goal.loop-n-preserved
loop-n-preserved c =
    let lt : c.loop-n.n < length c.args.words.now = omega (arith, c.loop-n-test.true, c.requires.one_each) in
    let here = c.requires.hits c.loop-n.n _ (slice_get-get_or c.args.hits.now c.loop-n.n no_hit c.loop-n-test.true) _ (slice_get-get_or c.args.words.now c.loop-n.n 0 lt) in
    record {
      extends = extends_more _ _ _ _ _ _ c.loop-n.invariant.extends (extends_more _ _ _ _ _ 2 c.or_wire.ensures.extends c.or_wire-in-loop-n.ensures.extends (omega arith)) (omega arith);
      wire = means_same _ _ _ _ c.in_ok-found.ensures.wire (λ v r.
          let r1 : Respects v c.or_wire.new.graph = respects_old v _ _ _ c.or_wire-in-loop-n.ensures.extends r in
          let r0 : Respects v c.loop-n.graph = respects_old v _ _ _ c.or_wire.ensures.extends r1 in
          let old = respects_old v _ _ _ c.loop-n.invariant.extends r0 in
          rw (c.loop-n.invariant.wire.value v r0, c.in_ok-one.ensures.wire.value v r1, here.reads.value v old, here.writes.value v old) (sym (any_more (is_at (event_at v c.args.event.now)) c.args.words.now c.loop-n.n 0 lt)));
      exact = along_step found_step_made c.args.graph.now off (hits_of c.args.hits.now) c.loop-n.n (hit_wires (get_or c.args.hits.now c.loop-n.n no_hit)) c.loop-n.found c.in_ok-found.found _ _
          (omega (arith, c.loop-n-test.true, length-map c.args.hits.now hit_wires))
          (get_or-map hit_wires c.args.hits.now c.loop-n.n (get_or c.args.hits.now c.loop-n.n no_hit) ∙ ap hit_wires (get_or_default c.args.hits.now c.loop-n.n (get_or c.args.hits.now c.loop-n.n no_hit) no_hit c.loop-n-test.true))
          (rw c.in_ok-one.ensures.exact c.in_ok-found.ensures.exact) c.loop-n.invariant.exact;
    }

pub returns-clause-exact : goal.returns-clause-exact
unfolding found_made
returns-clause-exact c = along_end found_step_made c.args.graph.now off (hits_of c.args.hits.now) c.loop-n.n _ (omega (arith, c.loop-n-test.false, length-map c.args.hits.now hit_wires)) c.loop-n.invariant.exact
