use Rattle.std.proofs.Common.{◌≡◌, drop}
use Rattle.rdl_text.specs.Chains.{nows}
use Rattle.rdl_text.specs.Instances.{lead, steps_on}
use Rattle.rdl_text.proofs.instance.lead.Given as goal

abbrev pub invariant-loop-next : goal.invariant-loop-next
invariant-loop-next l = steps_on l.at (drop l.next-index l.path.more) ≡ lead (nows l.outer) l.items l.path
