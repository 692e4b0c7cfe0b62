use Rattle.std.proofs.Common.{take}
use Rattle.reg_machine.specs.Nexts.{IsReset}
use Rattle.reg_machine.proofs.machine.Machine.reset.Given as goal

abbrev pub invariant-loop-number : goal.invariant-loop-number
invariant-loop-number l = IsReset (take l.number l.map.fields.items) l.values.items l.used.items l.known.items
