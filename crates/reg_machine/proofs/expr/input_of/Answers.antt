use Rattle.reg_machine.proofs.Views.{source_below}
use Rattle.reg_machine.proofs.expr.input_of.Goals as goal

pub returns-in-Some-clause-fits : goal.returns-in-Some-clause-fits
returns-in-Some-clause-fits c = source_below c.args.map.now c.args.field.now c.args.hw.now c.in-Some.k c.requires.field c.requires.hw c.in-Some.is
