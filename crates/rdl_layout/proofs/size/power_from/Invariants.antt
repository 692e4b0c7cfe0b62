use Rattle.std.proofs.Common.{◌≡◌, ◌-◌, ◌≤◌}
use Rattle.rdl_layout.specs.Sizes.{doubled}
use Rattle.rdl_layout.proofs.size.power_from.Given as goal

abbrev pub invariant-loop-at : goal.invariant-loop-at
invariant-loop-at l = record {
  same : doubled (33 - l._at) l.power l.size ≡ doubled 33 1 l.size;
  bound : l.power ≤ 8589934594;
}
