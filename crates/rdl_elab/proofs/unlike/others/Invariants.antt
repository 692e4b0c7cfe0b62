use Rattle.std.proofs.Common.{◌≡◌, ◌++◌, drop}
use Rattle.rdl_elab.specs.Unlike.{others}
use Rattle.rdl_elab.proofs.unlike.others.Given as goal

abbrev pub invariant-loop-register : goal.invariant-loop-register
invariant-loop-register l = l.out.items ++ others l.access (drop l.register-index l.registers) ≡ others l.access l.registers
