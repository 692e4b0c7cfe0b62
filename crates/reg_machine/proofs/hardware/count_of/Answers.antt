use Rattle.reg_machine.specs.Steps.{count_of}
use Rattle.reg_machine.proofs.hardware.count_of.Goals as goal

pub returns-clause-step : goal.returns-clause-step
unfolding count_of
returns-clause-step c = rw (← c.is_given-incr.ensures, ← c.is_given-decr.ensures) c.count_next.ensures.exact
