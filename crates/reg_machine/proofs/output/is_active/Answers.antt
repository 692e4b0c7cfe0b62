use Rattle.reg_machine.specs.Steps.{is_software_active}
use Rattle.reg_machine.proofs.output.is_active.Goals as goal

pub returns : goal.returns
unfolding is_software_active
returns c = cc (c.is_read.ensures c.args.values.now c.args.hw.now)
