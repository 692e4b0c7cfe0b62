use Rattle.std.proofs.Common.{get_or, sym, ap, arith}
use Rattle.std.specs.List.{list_any}
use Rattle.std.proofs.lemmas.List.{take_all, get_or_default}
use Rattle.std.proofs.lemmas.List.Sums.{sum_by_more, sum_by_more_le}
use Rattle.gate_graph.specs.Gates.{Respects}
use Rattle.gate_graph.proofs.GateLemmas.{respects_old, extends_more}
use Rattle.reg_machine.specs.Machines.{raises}
use Rattle.word_gates.specs.Graphs.{off}
use Rattle.word_gates.proofs.WordLemmas.{means_same}
use Rattle.word_gates.proofs.ExactLemmas.{along_step, along_end}
use Rattle.field_edges.specs.Made.{views_of, words_of}
use Rattle.field_edges.proofs.GivenLemmas.{given_later}
use Rattle.raise_gates.specs.Raises.{member_gates, raise_step_made, raise_made}
use Rattle.raise_gates.proofs.RaiseLemmas.{any_more, fields_later}
use Rattle.raise_gates.proofs.raises.raise_wire.Goals as goal

pub member_wire-requires-clause-given : goal.member_wire-requires-clause-given
member_wire-requires-clause-given c = given_later _ _ _ _ _ _ _ c.loop-n.invariant.extends c.requires.given

pub or_wire-requires-clause-room : goal.or_wire-requires-clause-room
or_wire-requires-clause-room c =
    let fits = sum_by_more_le (member_gates c.args.map.now.fields.items) c.args.members.now c.loop-n.n 0 c.loop-n-test.true in
    omega (arith, fits, c.loop-n.invariant.extends.bound, c.member_wire.ensures.nodes.bound, c.requires.room)

pub returns-in_err-raised-clause-nodes : goal.returns-in_err-raised-clause-nodes
returns-in_err-raised-clause-nodes c =
    let fits = sum_by_more_le (member_gates c.args.map.now.fields.items) c.args.members.now c.loop-n.n 0 c.loop-n-test.true in
    extends_more _ _ _ _ _ _ c.loop-n.invariant.extends (extends_more _ _ _ _ _ (member_gates c.args.map.now.fields.items (get_or c.args.members.now c.loop-n.n 0)) c.member_wire.ensures.nodes c.or_wire.ensures.extends (omega arith)) (omega (arith, fits))

pub loop-n-preserved : goal.loop-n-preserved
loop-n-preserved c =
    let more = sum_by_more (member_gates c.args.map.now.fields.items) c.args.members.now c.loop-n.n 0 c.loop-n-test.true in
    record {
      of = c.in_ok-raised.ensures.wire.of;
      extends = extends_more _ _ _ _ _ _ c.loop-n.invariant.extends (extends_more _ _ _ _ _ (member_gates c.args.map.now.fields.items (get_or c.args.members.now c.loop-n.n 0)) c.member_wire.ensures.nodes c.or_wire.ensures.extends (omega arith)) (omega (arith, more));
      wire = λ e s. means_same _ _ _ _ c.in_ok-raised.ensures.wire (λ v r.
          let r1 : Respects v c.member_wire.new.graph = respects_old v _ _ _ c.or_wire.ensures.extends r in
          let r0 : Respects v c.loop-n.graph = respects_old v _ _ _ c.member_wire.ensures.nodes r1 in
          let one = c.in_ok-one.ensures.wire e (fields_later _ _ _ c.args.map.now c.args.views.now c.args.hw.now e c.loop-n.invariant.extends s) in
          rw ((c.loop-n.invariant.wire e s).value v r0, one.value v r1) (sym (any_more (raises (e v)) c.args.members.now c.loop-n.n 0 c.loop-n-test.true)));
      exact = along_step (raise_step_made c.args.map.now.fields.items (views_of c.args.views.now) (words_of c.args.hw.now)) c.args.graph.now off c.args.members.now c.loop-n.n (get_or c.args.members.now c.loop-n.n 0) c.loop-n.raised c.in_ok-raised.raised _ _
          c.loop-n-test.true (get_or_default c.args.members.now c.loop-n.n (get_or c.args.members.now c.loop-n.n 0) 0 c.loop-n-test.true)
          (rw c.in_ok-one.ensures.exact c.in_ok-raised.ensures.exact) c.loop-n.invariant.exact;
    }

pub returns-clause-wire : goal.returns-clause-wire
returns-clause-wire c = λ e s.
    means_same _ _ _ _ (c.loop-n.invariant.wire e s) (λ v r. ap (list_any (raises (e v))) (take_all c.loop-n.n c.args.members.now c.loop-n-test.false))

pub returns-clause-exact : goal.returns-clause-exact
unfolding raise_made
returns-clause-exact c = along_end (raise_step_made c.args.map.now.fields.items (views_of c.args.views.now) (words_of c.args.hw.now)) c.args.graph.now off c.args.members.now c.loop-n.n _ c.loop-n-test.false c.loop-n.invariant.exact
