use Rattle.lemma_checker.proofs.PieceLemmas.{pieces_more, clauses_more}
use Rattle.lemma_checker.proofs.clauses.Clauses.push.Goals as goal

pub invariant_of-self-2 : goal.invariant_of-self-2
invariant_of-self-2 c = rw (c.in_ok-append.ensures.literals, c.in_ok-append.ensures.ends) (clauses_more _ _ _ c.self.invariant c.requires.distinct)

pub returns-clause-ok : goal.returns-clause-ok
returns-clause-ok c = rw (c.in_ok-append.ensures.literals, c.in_ok-append.ensures.ends, ← c.self.view_is) (pieces_more _ _ _ c.self.invariant)
