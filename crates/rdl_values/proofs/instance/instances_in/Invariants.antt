use Rattle.std.proofs.Common.{◌≡◌, [], ◌++◌, take, drop}
use Rattle.rdl_text.specs.Chains.{nows}
use Rattle.rdl_values.specs.Instances.{instances_from}
use Rattle.rdl_values.proofs.instance.instances_in.Given as goal

abbrev pub invariant-loop-at : goal.invariant-loop-at
invariant-loop-at l = l.out.items ++ instances_from (nows l.outer) (take l.at l.items) (drop l.at l.items) ≡ instances_from (nows l.outer) [] l.items
