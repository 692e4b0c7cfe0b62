use Rattle.flat_latched.proofs.Items.{answer_none, answer_some, net_is}
use Rattle.flat_latched.proofs.item.item_net.Goals as goal

pub returns-in-None : goal.returns-in-None
returns-in-None c = answer_none c.args.nets.now c.args.item.now c.in_ok-item_latch.field-0 c.in-None.is c.in_ok-item_latch.ensures

pub returns-in-Some : goal.returns-in-Some
returns-in-Some c = net_is c.args.nets.now c.args.item.now c.in-Some.latch (answer_some c.args.nets.now c.args.item.now c.in_ok-item_latch.field-0 c.in-Some.latch c.in-Some.is c.in_ok-item_latch.ensures)
