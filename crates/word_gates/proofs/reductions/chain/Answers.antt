use Rattle.std.proofs.Common.{arith, ◌+◌, ◌*◌}
use Rattle.gate_graph.specs.Gates.{wire_value}
use Rattle.gate_graph.proofs.GateLemmas.{extends_more, extends_none}
use Rattle.word_gates.specs.Places.{place_of, gates_of}
use Rattle.word_gates.proofs.WordLemmas.{of_at, room_at, along_more, along_start, along_all}
use Rattle.word_gates.proofs.PlaceLemmas.{chained_more, chained_end}
use Rattle.std.proofs.Common.{refl}
use Rattle.word_gates.specs.Graphs.{chain_made, place_made}
use Rattle.word_gates.proofs.ExactLemmas.{along_wire, along_end}
use Rattle.word_gates.proofs.reductions.chain.Goals as goal

pub place-requires-clause-a_of : goal.place-requires-clause-a_of
place-requires-clause-a_of g c = c.loop-i.invariant.along.of

pub place-requires-clause-b_of : goal.place-requires-clause-b_of
place-requires-clause-b_of g c = of_at _ _ _ _ _ c.requires.a_of c.loop-i.invariant.extends c.loop-i-test.true

pub place-requires-clause-room : goal.place-requires-clause-room
place-requires-clause-room g c = room_at _ _ _ _ _ c.loop-i.invariant.extends.bound c.loop-i-test.true c.requires.room

pub loop-i-init : goal.loop-i-init
loop-i-init g c = record { extends = extends_none _ _; along = along_start _ _ _ c.requires.start_of; exact = refl }

pub loop-i-preserved : goal.loop-i-preserved
loop-i-preserved g c = record {
  extends = extends_more _ _ _ (c.loop-i.i * gates_of g.row.OPERATOR) (gates_of g.row.OPERATOR) ((c.loop-i.i + 1) * gates_of g.row.OPERATOR) c.loop-i.invariant.extends c.place.ensures.extends (omega arith);
  along = along_more _ _ _ _ _ _ _ _ _ c.place.ensures.extends c.loop-i.invariant.along c.in_ok-along.ensures.wire
      (λ v. chained_more (place_of g.row.OPERATOR) v c.args.a.now c.loop-i.i (wire_value v c.loop-i.along) c.loop-i-test.true);
  exact = along_wire (place_made g.row.OPERATOR) _ _ c.args.a.now c.loop-i.i _ _ _ _ c.loop-i-test.true c.in_ok-along.ensures.exact c.loop-i.invariant.exact;
}

pub returns-clause-wire : goal.returns-clause-wire
returns-clause-wire g c = along_all _ _ _ _ c.loop-i.invariant.along (λ v x. chained_end (place_of g.row.OPERATOR) v c.args.a.now c.loop-i.i x (omega arith))

pub returns-clause-exact : goal.returns-clause-exact
unfolding chain_made
returns-clause-exact g c = along_end (place_made g.row.OPERATOR) _ _ c.args.a.now c.loop-i.i _ c.loop-i-test.false c.loop-i.invariant.exact
