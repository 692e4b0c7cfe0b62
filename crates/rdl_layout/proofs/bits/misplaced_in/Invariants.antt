use Rattle.std.proofs.Common.{◌≡◌, ◌≤◌, [], drop}
use Rattle.rdl_layout.specs.Bits.{misplaced_in}
use Rattle.rdl_layout.proofs.bits.misplaced_in.Given as goal

abbrev pub invariant-loop-instance : goal.invariant-loop-instance
invariant-loop-instance l = record {
  same : misplaced_in l.trail l.targets l.width l.access l.seen.items l.next (drop l.instance-index l.instances) ≡ misplaced_in l.trail l.targets l.width l.access [] 0 l.instances;
  next : l.next ≤ 129;
}
