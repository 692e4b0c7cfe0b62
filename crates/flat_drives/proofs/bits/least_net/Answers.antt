use Rattle.std.proofs.Common.{◌∙◌, ap}
use Rattle.flat_drives.proofs.Leasts.{least_is}
use Rattle.flat_drives.proofs.bits.least_net.Goals as goal

pub returns : goal.returns
returns c = least_is c.args.owners.now c.args.bits.now c.as_slice.result.now c.least_of.result (c.as_slice.ensures.value ∙ c.in_ok-nets.ensures) c.least_of.ensures.among c.least_of.ensures.least c.least_of.ensures.none
