use Rattle.std.proofs.Common.{arith, ◌+◌, ◌*◌}
use Rattle.gate_graph.specs.Gates.{wire_value}
use Rattle.gate_graph.proofs.GateLemmas.{extends_more, extends_none}
use Rattle.word_gates.proofs.WordLemmas.{of_at, room_at, along_more, along_start, along_all}
use Rattle.word_gates.proofs.RippleLemmas.{carries_more, carries_end}
use Rattle.std.proofs.Common.{refl}
use Rattle.word_gates.specs.Graphs.{carry_out_made, carry_made}
use Rattle.word_gates.proofs.ExactLemmas.{along_pair, along_pairs}
use Rattle.word_gates.proofs.sums.carry_out.Goals as goal

pub carry_wire-requires-clause-a_of : goal.carry_wire-requires-clause-a_of
carry_wire-requires-clause-a_of c = of_at _ _ _ _ _ c.requires.a_of c.loop-i.invariant.extends c.loop-i-test.true

pub carry_wire-requires-clause-b_of : goal.carry_wire-requires-clause-b_of
carry_wire-requires-clause-b_of c = of_at _ _ _ _ _ c.requires.b_of c.loop-i.invariant.extends (omega (arith, c.requires.lengths))

pub carry_wire-requires-clause-c_of : goal.carry_wire-requires-clause-c_of
carry_wire-requires-clause-c_of c = c.loop-i.invariant.along.of

pub carry_wire-requires-clause-room : goal.carry_wire-requires-clause-room
carry_wire-requires-clause-room c = room_at _ _ _ _ _ c.loop-i.invariant.extends.bound c.loop-i-test.true c.requires.room

pub loop-i-init : goal.loop-i-init
loop-i-init c = record { extends = extends_none _ _; along = along_start _ _ _ c.requires.start_of; exact = refl }

pub loop-i-preserved : goal.loop-i-preserved
loop-i-preserved c = record {
  extends = extends_more _ _ _ (c.loop-i.i * 4) 4 ((c.loop-i.i + 1) * 4) c.loop-i.invariant.extends c.carry_wire.ensures.extends (omega arith);
  along = along_more _ _ _ _ _ _ _ _ _ c.carry_wire.ensures.extends c.loop-i.invariant.along c.in_ok-carry.ensures.wire
      (λ v. carries_more v c.args.a.now c.args.b.now c.loop-i.i (wire_value v c.loop-i.carry) c.loop-i-test.true (omega (arith, c.requires.lengths)));
  exact = along_pair (λ n s p. carry_made n p.0 p.1 s) _ _ c.args.a.now c.args.b.now c.loop-i.i _ _ _ _ c.requires.lengths c.loop-i-test.true c.in_ok-carry.ensures.exact c.loop-i.invariant.exact;
}

pub returns-clause-wire : goal.returns-clause-wire
returns-clause-wire c = along_all _ _ _ _ c.loop-i.invariant.along (λ v x. carries_end v c.args.a.now c.args.b.now c.loop-i.i x (omega arith))

pub returns-clause-exact : goal.returns-clause-exact
unfolding carry_out_made
returns-clause-exact c = along_pairs (λ n s p. carry_made n p.0 p.1 s) _ _ c.args.a.now c.args.b.now c.loop-i.i _ c.requires.lengths c.loop-i-test.false c.loop-i.invariant.exact
