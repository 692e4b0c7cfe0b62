use Rattle.prove_top.specs.Draws.{seeded}
use Rattle.prove_top.proofs.draws.seeded.Goals as goal

pub returns : goal.returns
unfolding seeded
returns c = c.seed_from_u64.ensures
