use Rattle.flat_checks.proofs.Pushing.{not_none}
use Rattle.flat_checks.proofs.cycle.push_net.Goals as goal

pub returns-in-None : goal.returns-in-None
returns-in-None c x n at is = absurd (not_none x c.in_ok-net_of.field-0 c.in-None.is (c.in_ok-net_of.ensures x n at is))
