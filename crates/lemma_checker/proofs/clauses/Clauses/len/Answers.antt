use Rattle.std.proofs.Common.{arith, ap, length}
use Rattle.lemma_checker.proofs.PieceLemmas.{length_pieces}
use Rattle.lemma_checker.proofs.clauses.Clauses.len.Goals as goal

pub returns : goal.returns
returns c = omega (arith, c.len.ensures, length_pieces c.self.inside.literals.items 0 c.self.inside.ends.items, ap length c.self.view_is)
