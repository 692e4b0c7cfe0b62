use Rattle.flat_latched.proofs.Items.{match_none, match_some, has_none}
use Rattle.flat_latched.proofs.item.item_latch.Goals as goal

pub returns-in-None : goal.returns-in-None
returns-in-None c = has_none c.args.nets.now c.args.item.now (match_none c.in_ok-latch_of.field-0 _ _ c.in-None.is c.in_ok-latch_of.ensures)

pub returns-in-Some : goal.returns-in-Some
returns-in-Some c = c.net_latch.ensures c.args.nets.now c.args.item.now c.requires.row c.requires.owners (match_some c.in_ok-latch_of.field-0 c.in-Some.latch _ _ c.in-Some.is c.in_ok-latch_of.ensures)
