use Rattle.answer_gates.proofs.AnswerLemmas.{shown_is}
use Rattle.answer_gates.proofs.laws.shown_are_machines.Goals as goal

pub returns : goal.returns
returns c = shown_is
