use Rattle.std.proofs.Common.{◌≡◌, ◌+◌, drop}
use Rattle.flat_design.specs.Bits.{bits_in}
use Rattle.flat_loads.proofs.size.bits_in.Given as goal

abbrev pub invariant-loop-net : goal.invariant-loop-net
invariant-loop-net l = l.bits + bits_in (drop l.net-index l.nets) ≡ bits_in l.nets
