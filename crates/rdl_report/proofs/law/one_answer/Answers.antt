use Rattle.rdl_report.proofs.Answers as answers
use Rattle.rdl_report.proofs.law.one_answer.Goals as goal

pub returns : goal.returns
returns c = answers.one_answer c.one_answer.ensures c.one_answer-2.ensures
