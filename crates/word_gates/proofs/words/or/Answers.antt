use Rattle.std.proofs.Common.{arith}
use Rattle.word_gates.proofs.WordLemmas.{extends_at}
use Rattle.word_gates.proofs.words.or.Goals as goal

pub returns-clause-nodes : goal.returns-clause-nodes
returns-clause-nodes c = extends_at _ _ _ _ c.bitwise.ensures.nodes (omega arith)
