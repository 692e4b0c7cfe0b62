use Rattle.reg_machine.specs.Machines.{is_accessed}
use Rattle.reg_machine.proofs.output.is_accessed.Goals as goal

pub returns : goal.returns
unfolding is_accessed
returns c = λ values hw. cc (c.reads_word.ensures values hw, c.is_touched.ensures values hw)
