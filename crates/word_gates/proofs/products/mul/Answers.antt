use Rattle.std.proofs.Common.{arith, false, ◌+◌, ◌*◌, ◌<◌, length, replicate, sym, ap, ◌∙◌}
use Rattle.gate_graph.specs.Gates.{Respects}
use Rattle.gate_graph.proofs.GateLemmas.{respects_old, extends_more, extends_none, are_of_later}
use Rattle.word_gates.specs.Words.{values}
use Rattle.word_gates.proofs.WordLemmas.{shows_same, length-values, of_at, room_at, extends_at, within_all}
use Rattle.word_gates.proofs.ProductLaws.{product_none, product_more, product_all}
use Rattle.std.proofs.lemmas.List.{length-replicate}
use Rattle.word_gates.proofs.RippleLemmas.{shows_repeated, values_at}
use Rattle.std.proofs.Common.{List}
use Rattle.gate_graph.specs.declared.nodes.Node.{Node}
use Rattle.gate_graph.specs.declared.wires.Wire.{Wire}
use Rattle.word_gates.specs.Graphs.{product_made, row_step_made}
use Rattle.word_gates.proofs.ExactLemmas.{off_is, along_wire, along_end}
use Rattle.word_gates.proofs.products.mul.Goals as goal

pub loop-i-init : goal.loop-i-init
loop-i-init c =
    let zeros = shows_repeated _ _ _ (length c.args.a.now) c.zero-zero.ensures.value in
    rw c.in_ok-sum.ensures record {
      extends = extends_none _ _;
      size = length-replicate (length c.args.a.now) c.zero-zero.result;
      shows = shows_same _ _ _ _ zeros (λ v r. ap (λ n. replicate n false) (sym (length-values v c.args.a.now)) ∙ product_none (values v c.args.a.now) (values v c.args.b.now));
      exact = ap (λ w. ((replicate (length c.args.a.now) w, 0), c.args.graph.now)) (sym (off_is c.zero-zero.result c.zero-zero.ensures.wire));
    }

pub with_row-requires-clause-sum_of : goal.with_row-requires-clause-sum_of
with_row-requires-clause-sum_of c = rw c.as_slice.ensures.value c.loop-i.invariant.shows.of

pub with_row-requires-clause-a_of : goal.with_row-requires-clause-a_of
with_row-requires-clause-a_of c = are_of_later _ _ _ _ c.loop-i.invariant.extends c.requires.a_of

pub with_row-requires-clause-bit_of : goal.with_row-requires-clause-bit_of
with_row-requires-clause-bit_of c = of_at _ _ _ _ _ c.requires.b_of c.loop-i.invariant.extends c.loop-i-test.true

pub with_row-requires-clause-room : goal.with_row-requires-clause-room
with_row-requires-clause-room c = room_at (11 * length c.args.a.now) c.loop-i.i (length c.args.a.now) _ _ c.loop-i.invariant.extends.bound (omega (arith, c.requires.lengths, c.loop-i-test.true)) c.requires.room

pub loop-i-preserved : goal.loop-i-preserved
loop-i-preserved c =
    let within : c.loop-i.i < length c.args.b.now = c.loop-i-test.true in
    let inside : c.loop-i.i < length c.args.a.now = omega (arith, c.requires.lengths, within) in
    record {
      extends = extends_more _ _ _ (c.loop-i.i * (11 * length c.args.a.now)) (11 * length c.args.a.now) ((c.loop-i.i + 1) * (11 * length c.args.a.now)) c.loop-i.invariant.extends c.with_row.ensures.nodes (omega arith);
      size = c.in_ok-sum-2.ensures.length;
      shows = shows_same _ _ _ _ c.in_ok-sum-2.ensures.value (λ v r.
          let before : Respects v c.loop-i.graph = respects_old v _ _ _ c.with_row.ensures.nodes r in
          rw (c.as_slice.ensures.value, c.loop-i.invariant.shows.value v before, ← values_at v c.args.b.now c.loop-i.i within)
          (product_more (values v c.args.a.now) (values v c.args.b.now) c.loop-i.i (rw (length-values v c.args.a.now) inside) (rw (length-values v c.args.b.now) within)));
      exact = along_wire (row_step_made c.args.a.now) _ _ c.args.b.now c.loop-i.i _ _ _ _ c.loop-i-test.true (ap (λ (r : List Wire × List Node). ((r.0, c.loop-i.i + 1), r.1)) (rw c.as_slice.ensures.value at c.in_ok-sum-2.ensures.exact)) c.loop-i.invariant.exact;
    }

pub returns-clause-nodes : goal.returns-clause-nodes
returns-clause-nodes c = extends_at _ _ _ _ c.loop-i.invariant.extends (within_all (11 * length c.args.a.now) c.loop-i.i (length c.args.a.now) (omega (arith, c.requires.lengths)))

pub returns-clause-value : goal.returns-clause-value
returns-clause-value c = shows_same _ _ _ _ c.loop-i.invariant.shows (λ v r. product_all (values v c.args.a.now) (values v c.args.b.now) c.loop-i.i (rw (length-values v c.args.b.now) (omega arith)))

pub returns-clause-exact : goal.returns-clause-exact
unfolding product_made
returns-clause-exact c = ap (λ m. (m.0.0, m.1)) (along_end (row_step_made c.args.a.now) _ _ c.args.b.now c.loop-i.i _ c.loop-i-test.false c.loop-i.invariant.exact)
