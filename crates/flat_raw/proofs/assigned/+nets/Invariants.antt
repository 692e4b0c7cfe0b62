use Rattle.std.proofs.Common.{◌≡◌, ◌++◌, map, drop}
use Rattle.flat_raw.specs.Assigned as spec
use Rattle.flat_raw.proofs.assigned.+nets.Given as goal

abbrev pub invariant-push_all-loop-stmt : goal.invariant-push_all-loop-stmt
invariant-push_all-loop-stmt l = l.out.items ++ spec.all_nets (map spec.stmt_nets (drop l.stmt-index l.body)) ≡ l.fn.out.items ++ spec.all_nets (map spec.stmt_nets l.body)

abbrev pub invariant-push_arms-loop-arm : goal.invariant-push_arms-loop-arm
invariant-push_arms-loop-arm l = l.out.items ++ spec.all_nets (map spec.arm_nets (drop l.arm-index l.arms)) ≡ l.fn.out.items ++ spec.all_nets (map spec.arm_nets l.arms)
