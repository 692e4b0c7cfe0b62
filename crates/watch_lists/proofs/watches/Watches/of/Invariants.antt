use Rattle.std.proofs.Common.{take}
use Rattle.watch_lists.specs.Watches.{Holds}
use Rattle.watch_lists.proofs.watches.Watches.of.Given as goal

abbrev pub invariant-loop-i : goal.invariant-loop-i
invariant-loop-i l = Holds l.watches l.formula.vars (take l.i l.formula.clauses)
