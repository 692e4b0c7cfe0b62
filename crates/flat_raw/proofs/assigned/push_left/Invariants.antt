use Rattle.std.proofs.Common.{◌≡◌, ◌++◌, map, drop}
use Rattle.flat_raw.specs.Assigned as spec
use Rattle.flat_raw.proofs.assigned.push_left.Given as goal

abbrev pub invariant-loop-part : goal.invariant-loop-part
invariant-loop-part l = l.out.items ++ spec.left_nets (drop l.part-index l.left) ≡ l.fn.out.items ++ spec.left_nets l.left
