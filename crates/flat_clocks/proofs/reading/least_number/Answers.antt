use Rattle.std.proofs.Common.{◌∙◌}
use Rattle.flat_clocks.proofs.Readings.{least_is}
use Rattle.flat_clocks.proofs.reading.least_number.Goals as goal

pub returns : goal.returns
returns c = least_is c.args.table.now c.args.bits.now c.as_slice.result.now c.least_of.result (c.as_slice.ensures.value ∙ c.in_ok-numbers.ensures) c.least_of.ensures.among c.least_of.ensures.least c.least_of.ensures.none
