use Rattle.std.proofs.Common.{◌≡◌, ◌+◌, ◌≤◌, min, drop}
use Rattle.flat_design.specs.Prices.{register_bits}
use Rattle.flat_cost.specs.Cuts.{limit}
use Rattle.flat_cost.proofs.sources.register_bits.Given as goal

abbrev pub invariant-loop-net : goal.invariant-loop-net
invariant-loop-net l = record { small : l.bits ≤ limit; bits : min (l.bits + register_bits (drop l.net-index l.nets)) limit ≡ min (register_bits l.nets) limit }
