use Rattle.std.proofs.Common.{◌≡◌, ◌++◌, take}
use Rattle.watch_lists.specs.Building.{with_first}
use Rattle.watch_lists.proofs.build.copy_clause.Given as goal

abbrev pub invariant-loop-literal : goal.invariant-loop-literal
invariant-loop-literal l = l.literals.items ≡ l.fn.literals.items ++ with_first (take l.literal-index l.clause) l.first l.second
