-- By induction over the traffic.
use Rattle.apb_rules.proofs.Asked.{each_once}
use Rattle.apb_rules.proofs.legal.transfers_asked_once.Goals as goal

pub returns : goal.returns
returns c = each_once c.args.style c.args.bytes
