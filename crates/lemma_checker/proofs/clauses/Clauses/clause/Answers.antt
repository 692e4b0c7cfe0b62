use Rattle.std.proofs.Common.{arith, ap, length}
use Rattle.lemma_checker.proofs.PieceLemmas.{length_pieces}
use Rattle.lemma_checker.proofs.clauses.Clauses.clause.Goals as goal

pub piece-requires-clause-within : goal.piece-requires-clause-within
piece-requires-clause-within c = omega (arith, c.requires.within, ap length c.self.view_is, length_pieces c.self.inside.literals.items 0 c.self.inside.ends.items, ap length c.as_slice-2.ensures.value)
