use Rattle.std.proofs.Common.{◌≡◌, false, take}
use Rattle.lemma_checker.specs.Chains.{has_empty}
use Rattle.lemma_checker.proofs.checker.any_empty.Given as goal

abbrev pub invariant-loop-i : goal.invariant-loop-i
invariant-loop-i l = has_empty (take l.i l.clauses) ≡ false
