use Rattle.std.proofs.Common.{take}
use Rattle.flat_loops.specs.Feeding.{ArePassed}
use Rattle.flat_loops.proofs.feeds.feeds.Given as goal

abbrev pub invariant-loop-bit : goal.invariant-loop-bit
invariant-loop-bit l = ArePassed l.table (take l.bit-index l.bits) l.feeds.items
