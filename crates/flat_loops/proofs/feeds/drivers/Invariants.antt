use Rattle.flat_loops.specs.Feeding.{AreDrivers}
use Rattle.flat_loops.proofs.feeds.drivers.Given as goal

abbrev pub invariant-loop-k : goal.invariant-loop-k
invariant-loop-k l = AreDrivers l.nets l.items l.k l.table.items
