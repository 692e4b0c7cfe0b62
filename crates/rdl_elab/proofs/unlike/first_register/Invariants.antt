use Rattle.rdl_elab.proofs.Earliest.{IsFirstSoFar}
use Rattle.rdl_elab.proofs.unlike.first_register.Given as goal

abbrev pub invariant-loop-register : goal.invariant-loop-register
invariant-loop-register l = IsFirstSoFar l.registers l.register-index l.found
