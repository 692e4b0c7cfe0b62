use Rattle.std.proofs.Common.{◌≡◌, ◌+◌, ◌-◌, ap, ◌∙◌, arith, drop}
use Rattle.gate_graph.specs.Values.{at}
use Rattle.unroll_cnf.specs.Cones.{cone, depends}
use Rattle.unroll_cnf.proofs.ConeLemmas.{depends_more}
use Rattle.unroll_cnf.proofs.cones.spread.Goals as goal

pub loop-i-preserved : goal.loop-i-preserved
loop-i-preserved c = record {
  sized = c.mark_wires.auto.marks ∙ c.loop-i.invariant.sized;
  so_far = depends_more (c.loop-i.i - 1) c.args.circuit.now.graph c.node.result (at c.args.marks.now) (at c.loop-i.marks) (at c.mark_wires.new.marks) c.node.ensures.node
      (λ j. let place : c.loop-i.i ≡ c.loop-i.i - 1 + 1 = omega arith in
      c.loop-i.invariant.so_far j ∙ ap (λ k. depends k (drop k c.args.circuit.now.graph) (at c.args.marks.now) j) place)
      c.mark_wires.ensures;
}

pub returns : goal.returns
unfolding cone
returns c j =
    let first : c.loop-i.i ≡ 0 = omega arith in
    c.loop-i.invariant.so_far j ∙ ap (λ k. depends k (drop k c.args.circuit.now.graph) (at c.args.marks.now) j) first
