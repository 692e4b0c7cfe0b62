use Rattle.reg_machine.proofs.hardware.ungated_side.Goals as goal

pub returns-in-Intr-clause-active : goal.returns-in-Intr-clause-active
returns-in-Intr-clause-active c = rw c.in-Intr.is (c.intr_side.ensures.active c.args.values.now)

pub returns-in-Intr-clause-bits : goal.returns-in-Intr-clause-bits
returns-in-Intr-clause-bits c = rw c.in-Intr.is (c.intr_side.ensures.bits c.args.values.now)
