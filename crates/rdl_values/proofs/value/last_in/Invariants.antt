use Rattle.std.proofs.Common.{◌≡◌, drop}
use Rattle.std.specs.Option.{option_map}
use Rattle.rdl_text.specs.Chains.{nows}
use Rattle.rdl_text.specs.Lists.{or_else}
use Rattle.rdl_values.specs.Values.{last_in}
use Rattle.rdl_values.proofs.value.last_in.Given as goal

abbrev pub invariant-loop-at : goal.invariant-loop-at
invariant-loop-at l = or_else (last_in l.property (nows (drop l.at l.props))) (option_map (λ x. x.now) l.found) ≡ last_in l.property (nows l.props)
