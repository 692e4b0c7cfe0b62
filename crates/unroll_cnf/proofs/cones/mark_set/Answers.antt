use Rattle.std.proofs.Common.{◌∙◌, arith}
use Rattle.unroll_cnf.proofs.ConeLemmas.{set_marked}
use Rattle.unroll_cnf.proofs.cones.mark_set.Goals as goal

pub returns : goal.returns
returns c j = c.spread.ensures j ∙ set_marked c.args.circuit.now c.args.set.now c.loop-i.i c.loop-i.marks j (omega arith) c.loop-i.invariant.so_far
