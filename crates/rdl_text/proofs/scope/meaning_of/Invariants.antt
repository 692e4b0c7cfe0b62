use Rattle.std.proofs.Common.{◌≡◌, [], take, drop}
use Rattle.rdl_text.specs.Chains.{nows}
use Rattle.rdl_text.specs.Lists.{or_else}
use Rattle.rdl_text.specs.Types.{meaning_from}
use Rattle.rdl_text.proofs.scope.meaning_of.Given as goal

abbrev pub invariant-loop-at : goal.invariant-loop-at
invariant-loop-at l = or_else (meaning_from (nows (take l.at l.chain)) l.name (nows (drop l.at l.chain))) l.found ≡ meaning_from [] l.name (nows l.chain)
