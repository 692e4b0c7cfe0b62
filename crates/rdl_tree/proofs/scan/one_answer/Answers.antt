use Rattle.rdl_tree.proofs.Answers.{one_answer-law}
use Rattle.rdl_tree.proofs.scan.one_answer.Goals as goal

pub returns : goal.returns
returns c = one_answer-law
