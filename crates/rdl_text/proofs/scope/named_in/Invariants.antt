use Rattle.std.proofs.Common.{◌≡◌, [], take, drop}
use Rattle.rdl_text.specs.Chains.{nows}
use Rattle.rdl_text.specs.Lists.{or_else}
use Rattle.rdl_text.specs.Types.{named_in}
use Rattle.rdl_text.proofs.scope.named_in.Given as goal

abbrev pub invariant-loop-at : goal.invariant-loop-at
invariant-loop-at l = or_else (named_in (nows l.outer) (take l.at l.items) l.name (drop l.at l.items)) l.found ≡ named_in (nows l.outer) [] l.name l.items
