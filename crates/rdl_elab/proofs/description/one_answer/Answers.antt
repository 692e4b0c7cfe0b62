use Rattle.rdl_elab.proofs.OneAnswer as lemma
use Rattle.rdl_elab.proofs.description.one_answer.Goals as goal

pub returns : goal.returns
returns c = lemma.one_answer
