use Rattle.flat_driven.proofs.Single.{are_single}
use Rattle.vlog_design.proofs.law.drivers_are_single.Goals as goal

pub returns : goal.returns
returns c nets items free = are_single nets items free.drivers.no_item
