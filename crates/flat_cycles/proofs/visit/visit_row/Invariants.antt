use Rattle.std.proofs.Common.{take}
use Rattle.flat_loops.specs.Graphs.{row_of}
use Rattle.flat_cycles.proofs.VisitLemmas.{IsPast}
use Rattle.flat_cycles.proofs.visit.visit_row.Given as goal

-- the nodes so far are visited
abbrev pub invariant-loop-next : goal.invariant-loop-next
invariant-loop-next l = IsPast l.graph l.first l.node l.from l.fn.seen l.fn.visits.items l.seen l.visits.items (take l.next-index (row_of l.graph l.node))
