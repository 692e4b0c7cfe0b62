use Rattle.field_policies.proofs.BitLemmas.{no_bits, full_bits}
use Rattle.reg_machine.proofs.hardware.overridden.Goals as goal

pub returns-then-clear : goal.returns-then-clear
returns-then-clear c = rw c.if-clear.true (no_bits c.args.width)

pub returns-then-set : goal.returns-then-set
returns-then-set c = rw (c.if-clear.false, c.if-set.true, c.ones.ensures) (full_bits c.args.width)
