use Rattle.std.proofs.Common.{◌≡◌, length, subst, arith}
use Rattle.flat_ordered.specs.Bests.{IsSoFar}
use Rattle.flat_ordered.proofs.first.first_round.Goals as goal

pub returns : goal.returns
returns c = let e : c.loop-number.number ≡ length c.args.places.now = omega arith in subst (λ n. IsSoFar c.args.graph.now c.args.places.now n c.loop-number.best) e c.loop-number.invariant
