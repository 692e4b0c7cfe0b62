use Rattle.std.proofs.Common.{◌≡◌, ◌++◌, map, drop}
use Rattle.flat_clocks.specs.Least.{clock_from}
use Rattle.flat_clocks.proofs.reading.clocks_from.Given as goal

abbrev pub invariant-loop-net : goal.invariant-loop-net
invariant-loop-net l = l.table.items ++ map (clock_from l.sources l.clocks) (drop l.net-index l.nets) ≡ map (clock_from l.sources l.clocks) l.nets
