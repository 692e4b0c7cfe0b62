use Rattle.reg_machine.specs.Steps.{next_used, next_known}
use Rattle.reg_machine.proofs.turn.field_next.Goals as goal

pub returns-clause-used : goal.returns-clause-used
unfolding next_used
returns-clause-used c = cc c.turn_of-turn.ensures.written

pub returns-clause-known : goal.returns-clause-known
unfolding next_known
returns-clause-known c = cc c.becomes_known-becomes_known.ensures
