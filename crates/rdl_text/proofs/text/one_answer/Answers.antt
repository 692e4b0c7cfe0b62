use Rattle.rdl_text.proofs.OneAnswer as lemma
use Rattle.rdl_text.proofs.text.one_answer.Goals as goal

pub returns : goal.returns
returns c = lemma.one_answer
