use Rattle.std.proofs.Common.{refl}
use Rattle.reg_machine.specs.Steps.{is_taken}
use Rattle.reg_machine.proofs.hardware.is_taken.Goals as goal

pub returns-then-is_some : goal.returns-then-is_some
unfolding is_taken
returns-then-is_some c = rw (← c.is_some.ensures, ← c.is_open.ensures, c.if-is_some.true) refl

pub returns-else-is_some : goal.returns-else-is_some
unfolding is_taken
returns-else-is_some c = rw (← c.is_some.ensures, c.if-is_some.false) refl
