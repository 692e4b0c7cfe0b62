use Rattle.std.proofs.Common.{◌≡◌, ◌++◌, drop}
use Rattle.latch_order.specs.Latches.{all_latches}
use Rattle.next_latches.specs.Next.{all_next_stored}
use Rattle.next_latches.proofs.latches.next_latches.Given as goal

abbrev pub invariant-loop-n : goal.invariant-loop-n
invariant-loop-n l = l.latches.items ++ all_latches (drop l.n l.fields) (all_next_stored (drop l.n l.edges)) ≡ all_latches l.fields (all_next_stored l.edges)
