use Rattle.flat_latched.proofs.Items.{answer_none, answer_some}
use Rattle.flat_latched.proofs.Firsts.{first_latch, has_latch, is_somewhere, from_some, no_some}
use Rattle.flat_latched.proofs.latched.with_path.Goals as goal

pub returns-in_default : goal.returns-in_default
returns-in_default c = no_some c.item_at.result _ c.in_default.not-Some c.item_at.ensures.none c.requires.first.item (is_somewhere c.args.items.now c.args.found.now c.args.offence c.requires.first)

pub returns-in-None : goal.returns-in-None
returns-in-None c =
    has_latch c.args.nets.now c.args.items.now c.args.found.now c.args.offence c.in-Some.item.now c.requires.each (from_some c.item_at.result c.in-Some.item _ c.in-Some.is c.item_at.ensures.at)
    (answer_none c.args.nets.now c.in-Some.item.now c.in_ok-item_latch.field-0 c.in-None.is c.in_ok-item_latch.ensures)

pub returns : goal.returns
returns c =
    first_latch c.args.nets.now c.args.items.now c.args.found.now c.args.offence c.in-Some.item.now c.in-Some-2.latch c.requires.long c.requires.each c.requires.first (from_some c.item_at.result c.in-Some.item _ c.in-Some.is c.item_at.ensures.at)
    (answer_some c.args.nets.now c.in-Some.item.now c.in_ok-item_latch.field-0 c.in-Some-2.latch c.in-Some-2.is c.in_ok-item_latch.ensures)
