use Rattle.std.proofs.Common.{arith}
use Rattle.std.proofs.lemmas.Grind.{common_steps}
use Rattle.reg_machine.specs.Steps.{is_read}
use Rattle.reg_machine.proofs.software.is_read.Goals as goal

pub returns-then-field : goal.returns-then-field
unfolding is_read
returns-then-field c = λ values hw. grind (arith, common_steps, c.reads_word.ensures values hw)

pub returns-else-field : goal.returns-else-field
unfolding is_read
returns-else-field c = λ values hw. grind (arith, common_steps, c.reads_word.ensures values hw)
