use Rattle.std.proofs.Common.{arith, refl, length-append, ◌∷◌, [], ◌+◌, ◌*◌}
use Rattle.gate_graph.specs.Gates.{wire_value}
use Rattle.gate_graph.proofs.GateLemmas.{extends_more, extends_none}
use Rattle.word_gates.proofs.WordLemmas.{of_at, room_at, so_far_more, so_far_all, so_far_none}
use Rattle.word_gates.proofs.RippleLemmas.{sums_more, sums_end}
use Rattle.std.proofs.Common.{ap}
use Rattle.word_gates.specs.Graphs.{sums_made, sum_step_made}
use Rattle.word_gates.proofs.ExactLemmas.{along_pair, along_pairs}
use Rattle.word_gates.proofs.sums.sums.Goals as goal

pub sum_step-requires-clause-a_of : goal.sum_step-requires-clause-a_of
sum_step-requires-clause-a_of c = of_at _ _ _ _ _ c.requires.a_of c.loop-i.invariant.extends c.loop-i-test.true

pub sum_step-requires-clause-b_of : goal.sum_step-requires-clause-b_of
sum_step-requires-clause-b_of c = of_at _ _ _ _ _ c.requires.b_of c.loop-i.invariant.extends (omega (arith, c.requires.lengths))

pub sum_step-requires-clause-room : goal.sum_step-requires-clause-room
sum_step-requires-clause-room c = room_at _ _ _ _ _ c.loop-i.invariant.extends.bound c.loop-i-test.true c.requires.room

pub loop-i-init : goal.loop-i-init
loop-i-init c = rw c.new-wires.ensures.items record { extends = extends_none _ _; carry_of = c.requires.start_of; size = refl; so_far = so_far_none _ _; exact = refl }

pub loop-i-preserved : goal.loop-i-preserved
loop-i-preserved c = rw c.in_ok-push.ensures.items record {
  extends = extends_more _ _ _ (c.loop-i.i * 10) 10 ((c.loop-i.i + 1) * 10) c.loop-i.invariant.extends c.sum_step.ensures.extends (omega arith);
  carry_of = c.in_ok-wire.ensures.carry.of;
  size = omega (arith, length-append c.loop-i.wires.items (c.in_ok-wire.wire ∷ []), c.loop-i.invariant.size);
  so_far = so_far_more _ _ _ _ _ _ _ _ _ c.sum_step.ensures.extends c.loop-i.invariant.so_far c.in_ok-wire.ensures.sum
      (λ v r. rw (c.in_ok-wire.ensures.carry.value v r) (sums_more v c.args.a.now c.args.b.now c.loop-i.i (wire_value v c.loop-i.carry) c.loop-i-test.true (omega (arith, c.requires.lengths))));
  exact = along_pair sum_step_made _ _ c.args.a.now c.args.b.now c.loop-i.i _ _ _ _ c.requires.lengths c.loop-i-test.true (c.in_ok-wire.ensures.exact c.loop-i.wires.items) c.loop-i.invariant.exact;
}

pub returns-clause-value : goal.returns-clause-value
returns-clause-value c = so_far_all _ _ _ _ c.loop-i.invariant.so_far (λ v. sums_end v c.args.a.now c.args.b.now c.loop-i.i (wire_value v c.loop-i.carry) (omega arith))

pub returns-clause-exact : goal.returns-clause-exact
unfolding sums_made
returns-clause-exact c = ap (λ m. (m.0.0, m.1)) (along_pairs sum_step_made _ _ c.args.a.now c.args.b.now c.loop-i.i _ c.requires.lengths c.loop-i-test.false c.loop-i.invariant.exact)
