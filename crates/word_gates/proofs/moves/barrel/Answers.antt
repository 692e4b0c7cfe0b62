use Rattle.std.proofs.Common.{arith, ◌+◌, ◌*◌, ◌<◌, ◌==◌, length, ap}
use Rattle.gate_graph.specs.Gates.{Respects, wire_value}
use Rattle.gate_graph.proofs.GateLemmas.{respects_old, extends_more}
use Rattle.bit_base.specs.Numbers.{number_of}
use Rattle.word_gates.specs.Words.{values}
use Rattle.word_gates.specs.Moving.{moved_by}
use Rattle.word_gates.proofs.WordLemmas.{shows_same, length-values}
use Rattle.word_gates.proofs.MovingLaws.{barrel_more, power_more}
use Rattle.std.proofs.lemmas.List.{take_all}
use Rattle.word_gates.proofs.RippleLemmas.{values_at}
use Rattle.std.proofs.Common.{List}
use Rattle.gate_graph.specs.declared.nodes.Node.{Node}
use Rattle.gate_graph.specs.declared.wires.Wire.{Wire}
use Rattle.word_gates.specs.Graphs.{barrel_made, stage_made}
use Rattle.word_gates.proofs.ExactLemmas.{along_wire, along_end}
use Rattle.word_gates.proofs.moves.barrel.Goals as goal

pub loop-k-preserved : goal.loop-k-preserved
loop-k-preserved g c =
    let slice = ap length c.as_slice.ensures.value in
    let within : c.loop-k.k < length c.args.amount.now = c.loop-k-test.true in
    record {
      extends = extends_more _ _ _ (c.loop-k.k * (3 * length c.args.a.now)) (length c.as_slice.result.now * 3) ((c.loop-k.k + 1) * (3 * length c.args.a.now)) c.loop-k.invariant.extends c.stage.ensures.nodes (omega (arith, slice, c.loop-k.invariant.size));
      size = omega (arith, slice, c.loop-k.invariant.size, c.in_ok-word.ensures.length);
      power = power_more c.loop-k.k c.loop-k.places c.loop-k.invariant.power;
      shows = shows_same _ _ _ _ c.in_ok-word.ensures.value (λ v r.
          let before : Respects v c.loop-k.graph = respects_old v _ _ _ c.stage.ensures.nodes r in
          rw (c.as_slice.ensures.value, c.loop-k.invariant.shows.value v before, c.loop-k.invariant.power, ← values_at v c.args.amount.now c.loop-k.k within)
          (barrel_more (g.row.DIRECTION == 0) (wire_value v c.args.fill) (values v c.args.a.now) (values v c.args.amount.now) c.loop-k.k (rw (length-values v c.args.amount.now) within)));
      exact = along_wire (stage_made (g.row.DIRECTION == 0) c.args.fill) _ _ c.args.amount.now c.loop-k.k _ _ _ _ c.loop-k-test.true (ap (λ (r : List Wire × List Node). ((r.0, c.loop-k.places * 2), r.1)) (rw c.as_slice.ensures.value at c.in_ok-word.ensures.exact)) c.loop-k.invariant.exact;
    }

pub returns-clause-value : goal.returns-clause-value
returns-clause-value g c = shows_same _ _ _ _ c.loop-k.invariant.shows (λ v r.
    ap (λ bits. moved_by (g.row.DIRECTION == 0) (number_of bits) (wire_value v c.args.fill) (values v c.args.a.now)) (take_all c.loop-k.k (values v c.args.amount.now) (rw (length-values v c.args.amount.now) (omega arith))))

pub returns-clause-exact : goal.returns-clause-exact
unfolding barrel_made
returns-clause-exact g c = ap (λ m. (m.0.0, m.1)) (along_end (stage_made (g.row.DIRECTION == 0) c.args.fill) _ _ c.args.amount.now c.loop-k.k _ c.loop-k-test.false c.loop-k.invariant.exact)
