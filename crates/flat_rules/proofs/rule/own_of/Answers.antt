use Rattle.flat_rules.proofs.Nodes.{own_is}
use Rattle.flat_rules.proofs.rule.own_of.Goals as goal

pub returns : goal.returns
returns c = λ nets. own_is nets c.args.e.now
