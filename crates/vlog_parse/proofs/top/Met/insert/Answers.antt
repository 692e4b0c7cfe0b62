use Rattle.std.proofs.Common.{◌∙◌}
use Rattle.vlog_parse.proofs.Instances.{key_met}
use Rattle.vlog_parse.proofs.top.Met.insert.Goals as goal

pub returns : goal.returns
returns c = λ q. c.in_ok-insert.ensures.updates.0 (record c.args.name { now = q }) ∙ key_met c.args.name.now q _
