use Rattle.vlog_prep.proofs.Answers.{one_answer-law}
use Rattle.vlog_prep.proofs.prepare.one_answer.Goals as goal

pub returns : goal.returns
returns c = one_answer-law
