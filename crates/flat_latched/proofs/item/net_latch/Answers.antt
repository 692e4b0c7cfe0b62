use Rattle.std.proofs.Common.{◌∙◌, sym, ap}
use Rattle.std.specs.Option.{option_copied}
use Rattle.flat_latched.proofs.Items.{never_none, item_is}
use Rattle.flat_latched.proofs.item.net_latch.Goals as goal

pub returns-in-None : goal.returns-in-None
returns-in-None c nets item row own l = absurd (never_none nets item c.args.owners.now c.args.latch.bit c.args.latch.path.items own l (sym c.at.ensures ∙ ap option_copied c.in-None.is))

pub returns-in-Some : goal.returns-in-Some
returns-in-Some c nets item row own l = item_is nets item c.args.owners.now c.args.latch.bit (record { net = c.in-Some.net.now; path = c.args.latch.path }) row own l (sym c.at.ensures ∙ ap option_copied c.in-Some.is)
