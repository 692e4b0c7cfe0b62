use Rattle.std.proofs.Common.{◌≡◌, ◌++◌, drop}
use Rattle.rdl_map.specs.Extras.{interrupts_from}
use Rattle.rdl_map.proofs.extra.interrupts_of.Given as goal

abbrev pub invariant-loop-at : goal.invariant-loop-at
invariant-loop-at l = l.out.items ++ interrupts_from l.at l.register (drop l.at l.fields) ≡ interrupts_from 0 l.register l.fields
