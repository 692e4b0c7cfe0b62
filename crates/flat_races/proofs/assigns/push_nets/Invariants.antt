use Rattle.std.proofs.Common.{◌≡◌, ◌++◌, drop}
use Rattle.flat_raw.specs.Assigned.{left_nets}
use Rattle.flat_races.proofs.assigns.push_nets.Given as goal

abbrev pub invariant-loop-part : goal.invariant-loop-part
invariant-loop-part l = l.out.items ++ left_nets (drop l.part-index l.left) ≡ l.fn.out.items ++ left_nets l.left
