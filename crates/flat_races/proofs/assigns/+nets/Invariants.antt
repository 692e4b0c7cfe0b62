use Rattle.std.proofs.Common.{◌≡◌, ◌++◌, map, drop}
use Rattle.flat_raw.specs.Assigned.{all_nets}
use Rattle.flat_races.specs.Assigns as spec
use Rattle.flat_races.proofs.assigns.+nets.Given as goal

abbrev pub invariant-push_all-loop-stmt : goal.invariant-push_all-loop-stmt
invariant-push_all-loop-stmt l = l.out.items ++ all_nets (map (spec.nets_by l.nonblocking) (drop l.stmt-index l.body)) ≡ l.fn.out.items ++ all_nets (map (spec.nets_by l.nonblocking) l.body)

abbrev pub invariant-push_arms-loop-arm : goal.invariant-push_arms-loop-arm
invariant-push_arms-loop-arm l = l.out.items ++ all_nets (map (spec.arm_nets_by l.nonblocking) (drop l.arm-index l.arms)) ≡ l.fn.out.items ++ all_nets (map (spec.arm_nets_by l.nonblocking) l.arms)
