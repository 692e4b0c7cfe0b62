use Rattle.std.proofs.Common.{◌≡◌, drop}
use Rattle.rdl_text.specs.Chains.{nows}
use Rattle.rdl_values.specs.Values.{assigned_in}
use Rattle.rdl_values.proofs.value.assigned_in.Given as goal

abbrev pub invariant-loop-at : goal.invariant-loop-at
invariant-loop-at l = assigned_in l.property (nows (drop l.at l.props)) ≡ assigned_in l.property (nows l.props)
