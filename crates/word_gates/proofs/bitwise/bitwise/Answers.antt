use Rattle.std.proofs.Common.{arith, refl, length-append, ◌∷◌, [], ◌+◌, ◌*◌}
use Rattle.gate_graph.proofs.GateLemmas.{extends_more, extends_none}
use Rattle.word_gates.specs.Places.{place_of, gates_of}
use Rattle.word_gates.proofs.WordLemmas.{of_at, room_at, so_far_more, so_far_all, so_far_none}
use Rattle.word_gates.proofs.PlaceLemmas.{places_more, places_end}
use Rattle.word_gates.specs.Graphs.{bitwise_made, place_made}
use Rattle.word_gates.proofs.ExactLemmas.{lanes_pair, lanes_pairs}
use Rattle.word_gates.proofs.bitwise.bitwise.Goals as goal

pub place-requires-clause-a_of : goal.place-requires-clause-a_of
place-requires-clause-a_of g c = of_at _ _ _ _ _ c.requires.a_of c.loop-i.invariant.extends (omega arith)

pub place-requires-clause-b_of : goal.place-requires-clause-b_of
place-requires-clause-b_of g c = of_at _ _ _ _ _ c.requires.b_of c.loop-i.invariant.extends (omega (arith, c.requires.lengths))

pub place-requires-clause-room : goal.place-requires-clause-room
place-requires-clause-room g c = room_at _ _ _ _ _ c.loop-i.invariant.extends.bound c.loop-i-test.true c.requires.room

pub loop-i-preserved : goal.loop-i-preserved
loop-i-preserved g c = rw c.in_ok-push.ensures.items record {
  extends = extends_more _ _ _ (c.loop-i.i * gates_of g.row.OPERATOR) (gates_of g.row.OPERATOR) ((c.loop-i.i + 1) * gates_of g.row.OPERATOR) c.loop-i.invariant.extends c.place.ensures.extends (omega arith);
  size = omega (arith, length-append c.loop-i.wires.items (c.in_ok-wire.wire ∷ []), c.loop-i.invariant.size);
  so_far = so_far_more _ _ _ _ _ _ _ _ _ c.place.ensures.extends c.loop-i.invariant.so_far c.in_ok-wire.ensures.wire
      (λ v r. places_more (place_of g.row.OPERATOR) v c.args.a.now c.args.b.now c.loop-i.i c.loop-i-test.true (omega (arith, c.requires.lengths)));
  exact = lanes_pair (λ n p. place_made g.row.OPERATOR n p.0 p.1) _ c.args.a.now c.args.b.now c.loop-i.i _ _ _ _ c.requires.lengths c.loop-i-test.true c.in_ok-wire.ensures.exact c.loop-i.invariant.exact;
}

pub returns-clause-value : goal.returns-clause-value
returns-clause-value g c = so_far_all _ _ _ _ c.loop-i.invariant.so_far (λ v. places_end (place_of g.row.OPERATOR) v c.args.a.now c.args.b.now c.loop-i.i (omega arith))

pub loop-i-init : goal.loop-i-init
loop-i-init g c = rw c.new-wires.ensures.items record { extends = extends_none _ _; size = refl; so_far = so_far_none _ _; exact = refl }

pub returns-clause-exact : goal.returns-clause-exact
unfolding bitwise_made
returns-clause-exact g c = lanes_pairs (λ n p. place_made g.row.OPERATOR n p.0 p.1) _ c.args.a.now c.args.b.now c.loop-i.i _ c.requires.lengths c.loop-i-test.false c.loop-i.invariant.exact
