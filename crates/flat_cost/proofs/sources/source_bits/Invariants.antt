use Rattle.std.proofs.Common.{◌≡◌, ◌+◌, ◌≤◌, min, drop}
use Rattle.flat_design.specs.Prices.{source_bits}
use Rattle.flat_cost.specs.Cuts.{limit}
use Rattle.flat_cost.proofs.sources.source_bits.Given as goal

abbrev pub invariant-loop-net : goal.invariant-loop-net
invariant-loop-net l = record { small : l.bits ≤ limit; bits : min (l.bits + source_bits (drop l.net-index l.nets)) limit ≡ min (source_bits l.nets) limit }
