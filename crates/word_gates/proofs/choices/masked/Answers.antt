use Rattle.std.proofs.Common.{arith, refl, length-append, ◌∷◌, [], ◌+◌, ◌*◌, ◌&&◌}
use Rattle.gate_graph.specs.Gates.{wire_value}
use Rattle.gate_graph.proofs.GateLemmas.{extends_more, extends_none}
use Rattle.word_gates.proofs.WordLemmas.{of_at, room_at, so_far_more, so_far_all, so_far_none}
use Rattle.word_gates.proofs.PlaceLemmas.{mapped_more, mapped_end}
use Rattle.gate_graph.specs.Sharing.{and_of}
use Rattle.word_gates.specs.Graphs.{masked_made}
use Rattle.word_gates.proofs.ExactLemmas.{lanes_wire, lanes_end}
use Rattle.word_gates.proofs.choices.masked.Goals as goal

pub and-requires-clause-a_of : goal.and-requires-clause-a_of
and-requires-clause-a_of c = of_at _ _ _ _ _ c.requires.a_of c.loop-i.invariant.extends c.loop-i-test.true

pub and-requires-clause-room : goal.and-requires-clause-room
and-requires-clause-room c = room_at _ _ _ _ _ c.loop-i.invariant.extends.bound c.loop-i-test.true (omega (arith, c.requires.room))

pub loop-i-init : goal.loop-i-init
loop-i-init c = rw c.new-wires.ensures.items record { extends = extends_none _ _; size = refl; so_far = so_far_none _ _; exact = refl }

pub loop-i-preserved : goal.loop-i-preserved
loop-i-preserved c = rw c.in_ok-push.ensures.items record {
  extends = extends_more _ _ _ (c.loop-i.i * 1) 1 ((c.loop-i.i + 1) * 1) c.loop-i.invariant.extends c.and.ensures.extends (omega arith);
  size = omega (arith, length-append c.loop-i.wires.items (c.in_ok-wire.wire ∷ []), c.loop-i.invariant.size);
  so_far = so_far_more _ _ _ _ _ _ _ _ _ c.and.ensures.extends c.loop-i.invariant.so_far c.in_ok-wire.ensures.wire
      (λ v r. mapped_more (λ x. x && wire_value v c.args.c) v c.args.a.now c.loop-i.i c.loop-i-test.true);
  exact = lanes_wire (λ n x. and_of n x c.args.c) _ c.args.a.now c.loop-i.i _ _ _ _ c.loop-i-test.true c.in_ok-wire.ensures.exact c.loop-i.invariant.exact;
}

pub returns-clause-value : goal.returns-clause-value
returns-clause-value c = so_far_all _ _ _ _ c.loop-i.invariant.so_far (λ v. mapped_end (λ x. x && wire_value v c.args.c) v c.args.a.now c.loop-i.i (omega arith))

pub returns-clause-exact : goal.returns-clause-exact
unfolding masked_made
returns-clause-exact c = lanes_end (λ n x. and_of n x c.args.c) _ c.args.a.now c.loop-i.i _ c.loop-i-test.false c.loop-i.invariant.exact
