use Rattle.std.proofs.Common.{◌≡◌, [], take, drop}
use Rattle.rdl_text.specs.Lists.{or_else}
use Rattle.rdl_values.specs.Instances.{top_from}
use Rattle.rdl_values.proofs.instance.top_in.Given as goal

abbrev pub invariant-loop-at : goal.invariant-loop-at
invariant-loop-at l = or_else (top_from (take l.at l.items) (drop l.at l.items)) l.found ≡ top_from [] l.items
