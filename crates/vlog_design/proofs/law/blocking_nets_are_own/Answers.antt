use Rattle.flat_races.proofs.Firsts.{are_own}
use Rattle.vlog_design.proofs.law.blocking_nets_are_own.Goals as goal

pub returns : goal.returns
returns c nets items free = are_own nets items free.races
