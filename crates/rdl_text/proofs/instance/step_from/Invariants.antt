use Rattle.std.proofs.Common.{◌≡◌, [], take, drop}
use Rattle.rdl_text.specs.Chains.{nows}
use Rattle.rdl_text.specs.Instances.{step_from}
use Rattle.rdl_text.proofs.instance.step_from.Given as goal

abbrev pub invariant-loop-at : goal.invariant-loop-at
invariant-loop-at l = step_from (nows l.outer) (take l.at l.items) l.step (drop l.at l.items) ≡ step_from (nows l.outer) [] l.step l.items
