use Rattle.std.proofs.Common.{◌≡◌, ◌≤◌, drop}
use Rattle.rdl_layout.specs.Bits.{bits_in}
use Rattle.rdl_layout.proofs.bits.bits_in.Given as goal

abbrev pub invariant-loop-instance : goal.invariant-loop-instance
invariant-loop-instance l = record {
  same : bits_in l.trail l.targets l.next l.so_far (drop l.instance-index l.instances) ≡ bits_in l.trail l.targets 0 0 l.instances;
  so_far : l.so_far ≤ 4097;
  next : l.next ≤ 129;
}
