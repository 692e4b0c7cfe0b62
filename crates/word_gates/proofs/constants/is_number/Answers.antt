use Rattle.std.proofs.Common.{◌+◌, ◌*◌, ◌/◌, ◌&&◌, ◌==◌, if◌then◌else◌, List, drop, refl, sym, ap, ◌∙◌, arith}
use Rattle.gate_graph.specs.declared.nodes.Node.{Node}
use Rattle.gate_graph.specs.declared.wires.Wire.{Wire}
use Rattle.gate_graph.specs.Gates.{wire_value}
use Rattle.gate_graph.proofs.GateLemmas.{extends_more, extends_none}
use Rattle.bit_base.specs.Numbers.{number_of}
use Rattle.word_gates.specs.Graphs.{off, inverse, number_made, number_step_made}
use Rattle.word_gates.specs.Words.{values}
use Rattle.word_gates.proofs.WordLemmas.{of_at, room_at, along_more, means_same}
use Rattle.word_gates.proofs.RippleLemmas.{means_inverted}
use Rattle.word_gates.proofs.ConstantLemmas.{number_more, number_end}
use Rattle.word_gates.proofs.ExactLemmas.{off_is, along_wire, along_end}
use Rattle.word_gates.proofs.constants.is_number.Goals as goal

pub loop-i-init : goal.loop-i-init
loop-i-init c = record {
  extends = extends_none _ _;
  along = record {
    of = (means_inverted _ _ _ c.zero.ensures.value.of c.inverted-found.ensures.node c.inverted-found.ensures.value).of;
    value = λ v r. rw (c.inverted-found.ensures.value v, c.zero.ensures.value.value v r) refl;
  };
  exact = ap (λ (w : Wire). ((w, c.args.number), c.args.graph.now)) (sym (c.inverted-found.ensures.exact ∙ ap inverse (off_is c.zero.result c.zero.ensures.wire)));
}

pub and-requires-clause-a_of : goal.and-requires-clause-a_of
and-requires-clause-a_of c = c.loop-i.invariant.along.of

pub and-requires-clause-b_of : goal.and-requires-clause-b_of
and-requires-clause-b_of c = omega (arith, of_at c.args.a.now _ _ _ c.loop-i.i c.requires.a_of c.loop-i.invariant.extends c.loop-i-test.true, c.same_as-bit.ensures.node)

pub and-requires-clause-room : goal.and-requires-clause-room
and-requires-clause-room c = room_at _ _ _ _ _ c.loop-i.invariant.extends.bound c.loop-i-test.true (omega (arith, c.requires.room))

pub loop-i-preserved : goal.loop-i-preserved
loop-i-preserved c = record {
  extends = extends_more _ _ _ (c.loop-i.i * 1) 1 ((c.loop-i.i + 1) * 1) c.loop-i.invariant.extends c.and.ensures.extends (omega arith);
  along = along_more _ _ _ _ _ _ _ _ _ c.and.ensures.extends c.loop-i.invariant.along c.in_ok-found.ensures.wire (λ v.
      number_more v c.args.a.now c.loop-i.i c.loop-i.left (wire_value v c.loop-i.found) c.loop-i-test.true
      ∙ ap (λ b. (wire_value v c.loop-i.found && b) && (number_of (values v (drop (c.loop-i.i + 1) c.args.a.now)) == c.loop-i.left / 2)) (sym (c.same_as-bit.ensures.value v)));
  exact = along_wire number_step_made _ _ c.args.a.now c.loop-i.i _ _ _ _ c.loop-i-test.true
      (ap (λ (r : Wire × List Node). ((r.0, c.loop-i.left / 2), r.1)) (rw c.same_as-bit.ensures.exact at c.in_ok-found.ensures.exact)) c.loop-i.invariant.exact;
}

pub only_if-wire-requires : goal.only_if-wire-requires
only_if-wire-requires c = c.loop-i.invariant.along.of

pub returns-clause-wire : goal.returns-clause-wire
returns-clause-wire c = means_same _ _ _ _ c.only_if-wire.ensures.wire (λ v r.
    sym (number_end v c.args.a.now c.loop-i.i c.loop-i.left (wire_value v c.loop-i.found) c.loop-i-test.false) ∙ c.loop-i.invariant.along.value v r)

pub returns-clause-exact : goal.returns-clause-exact
unfolding number_made
returns-clause-exact c =
    ap (λ m. (if m.0.1 == 0 then m.0.0 else off, m.1)) (along_end number_step_made _ _ c.args.a.now c.loop-i.i _ c.loop-i-test.false c.loop-i.invariant.exact)
    ∙ ap (λ (w : Wire). (w, c.loop-i.graph)) (sym c.only_if-wire.ensures.exact)
