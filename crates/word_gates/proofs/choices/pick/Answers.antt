use Rattle.std.proofs.Common.{arith, refl, length-append, ◌∷◌, [], ◌+◌, ◌*◌}
use Rattle.gate_graph.proofs.GateLemmas.{extends_more, extends_none}
use Rattle.word_gates.proofs.WordLemmas.{of_at, room_at, so_far_more, so_far_all, so_far_none}
use Rattle.word_gates.proofs.PlaceLemmas.{picked_more, picked_end}
use Rattle.word_gates.specs.Graphs.{picked_made, pick_made}
use Rattle.word_gates.proofs.ExactLemmas.{lanes_triple, lanes_triples}
use Rattle.word_gates.proofs.choices.pick.Goals as goal

pub pick_wire-requires-clause-a_of : goal.pick_wire-requires-clause-a_of
pick_wire-requires-clause-a_of c = of_at _ _ _ _ _ c.requires.a_of c.loop-i.invariant.extends c.loop-i-test.true

pub pick_wire-requires-clause-room : goal.pick_wire-requires-clause-room
pick_wire-requires-clause-room c = room_at _ _ _ _ _ c.loop-i.invariant.extends.bound c.loop-i-test.true (omega (arith, c.requires.room))

pub loop-i-init : goal.loop-i-init
loop-i-init c = rw c.new-wires.ensures.items record { extends = extends_none _ _; size = refl; so_far = so_far_none _ _; exact = refl }

pub pick_wire-requires-clause-b_of : goal.pick_wire-requires-clause-b_of
pick_wire-requires-clause-b_of c = of_at _ _ _ _ _ c.requires.b_of c.loop-i.invariant.extends (omega (arith, c.requires.lengths))

pub pick_wire-requires-clause-c_of : goal.pick_wire-requires-clause-c_of
pick_wire-requires-clause-c_of c = of_at _ _ _ _ _ c.requires.c_of c.loop-i.invariant.extends (omega (arith, c.requires.conditions))

pub loop-i-preserved : goal.loop-i-preserved
loop-i-preserved c = rw c.in_ok-push.ensures.items record {
  extends = extends_more _ _ _ (c.loop-i.i * 3) 3 ((c.loop-i.i + 1) * 3) c.loop-i.invariant.extends c.pick_wire.ensures.extends (omega arith);
  size = omega (arith, length-append c.loop-i.wires.items (c.in_ok-wire.wire ∷ []), c.loop-i.invariant.size);
  so_far = so_far_more _ _ _ _ _ _ _ _ _ c.pick_wire.ensures.extends c.loop-i.invariant.so_far c.in_ok-wire.ensures.wire
      (λ v r. picked_more v c.args.a.now c.args.b.now c.args.c.now c.loop-i.i c.loop-i-test.true (omega (arith, c.requires.lengths)) (omega (arith, c.requires.conditions)));
  exact = lanes_triple (λ n p. pick_made n p.0 p.1.0 p.1.1) _ c.args.a.now c.args.b.now c.args.c.now c.loop-i.i _ _ _ _ c.requires.lengths c.requires.conditions c.loop-i-test.true c.in_ok-wire.ensures.exact c.loop-i.invariant.exact;
}

pub returns-clause-value : goal.returns-clause-value
returns-clause-value c = so_far_all _ _ _ _ c.loop-i.invariant.so_far (λ v. picked_end v c.args.a.now c.args.b.now c.args.c.now c.loop-i.i (omega arith))

pub returns-clause-exact : goal.returns-clause-exact
unfolding picked_made
returns-clause-exact c = lanes_triples (λ n p. pick_made n p.0 p.1.0 p.1.1) _ c.args.a.now c.args.b.now c.args.c.now c.loop-i.i _ c.requires.lengths c.requires.conditions c.loop-i-test.false c.loop-i.invariant.exact
