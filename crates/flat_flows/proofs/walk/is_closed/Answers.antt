use Rattle.flat_design.specs.Flows.{spread}
use Rattle.flat_flows.proofs.Matching.{has_arms}
use Rattle.flat_flows.proofs.walk.is_closed.Goals as goal

pub returns-in-None-clause-arms : goal.returns-in-None-clause-arms
returns-in-None-clause-arms c = has_arms c.is_full_case.result (spread c.args.selector.now) c.args.arms.now c.is_full_case.ensures
