use Rattle.std.proofs.Common.{sym, subst}
use Rattle.flat_offences.specs.Owners.{AreOwners}
use Rattle.flat_clocks.proofs.Readings.{are_clocks}
use Rattle.flat_clocks.proofs.reading.bit_clocks.Goals as goal

pub returns : goal.returns
returns c =
    are_clocks c.args.nets.now c.args.sources.now c.args.items.now c.as_slice.result.now c.in_ok-clocks.clocks c.in_ok-table.table.items (subst (AreOwners c.args.nets.now) (sym c.as_slice.ensures.value) c.in_ok-owners.ensures) c.in_ok-clocks.ensures c.in_ok-table.ensures
