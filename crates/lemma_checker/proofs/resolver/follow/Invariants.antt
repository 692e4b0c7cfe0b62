use Rattle.std.proofs.Common.{◌≡◌, ◌++◌, drop}
use Rattle.lemma_checker.specs.Clauses.{at}
use Rattle.lemma_checker.specs.Chains.{chain_from}
use Rattle.lemma_checker.specs.Checker.{Lists}
use Rattle.lemma_checker.proofs.resolver.follow.Given as goal

abbrev pub invariant-loop-i : goal.invariant-loop-i
invariant-loop-i l = record {
  lists : Lists l.marks l.touched.items;
  rest : chain_from (l.formula ++ l.added) (at l.marks) (drop l.i l.ids) (drop l.i l.pivots) ≡ chain_from (l.formula ++ l.added) (at l.fn.marks) l.ids l.pivots;
}
