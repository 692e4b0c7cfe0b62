use Rattle.std.proofs.Common.{◌≡◌, take}
use Rattle.vlog_design.specs.Refusals.{net_names}
use Rattle.vlog_design.proofs.fault.net_names.Given as goal

abbrev pub invariant-loop-number : goal.invariant-loop-number
invariant-loop-number l = l.names ≡ net_names l.nets (take l.number-index l.numbers)
