use Rattle.answer_gates.proofs.AnswerLemmas.{hidden_is}
use Rattle.answer_gates.proofs.laws.hidden_are_machines.Goals as goal

pub returns : goal.returns
returns c = hidden_is
