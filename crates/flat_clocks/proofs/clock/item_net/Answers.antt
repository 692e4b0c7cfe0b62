use Rattle.flat_clocks.proofs.Whole.{read_offends, process_offends}
use Rattle.flat_clocks.proofs.clock.item_net.Goals as goal

pub returns-in-Some : goal.returns-in-Some
returns-in-Some c before clocks resets = read_offends c.args.nets.now c.args.sources.now c.args.table.now before c.args.item.now c.in_ok-read.read c.in-Some.clock c.in-Some.is c.in_ok-read.ensures

pub returns-in-None : goal.returns-in-None
returns-in-None c before clocks resets =
    process_offends c.args.nets.now c.args.sources.now c.args.table.now before c.args.item.now c.in_ok-read.read c.process_net.result c.in-None.is c.in_ok-read.ensures (c.process_net.ensures before clocks resets)
