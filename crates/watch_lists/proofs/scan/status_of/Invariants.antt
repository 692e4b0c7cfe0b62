use Rattle.std.proofs.Common.{take}
use Rattle.lemma_checker.specs.Clauses.{at}
use Rattle.watch_lists.specs.Scans.{IsLeft}
use Rattle.watch_lists.proofs.scan.status_of.Given as goal

abbrev pub invariant-loop-literal : goal.invariant-loop-literal
invariant-loop-literal l = IsLeft l.left (take l.literal-index l.clause) (at l.values)
