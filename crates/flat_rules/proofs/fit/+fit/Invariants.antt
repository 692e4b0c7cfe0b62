use Rattle.std.proofs.Common.{◌≡◌, ◌&&◌, map, drop}
use Rattle.std.specs.List.{list_all}
use Rattle.flat_rules.specs.Fits as spec
use Rattle.flat_rules.proofs.fit.+fit.Given as goal

abbrev pub invariant-all_fit-loop-stmt : goal.invariant-all_fit-loop-stmt
invariant-all_fit-loop-stmt l = l.all && list_all (λ b. b) (map (spec.stmt_fits l.nets) (drop l.stmt-index l.body)) ≡ list_all (λ b. b) (map (spec.stmt_fits l.nets) l.body)

abbrev pub invariant-arms_fit-loop-arm : goal.invariant-arms_fit-loop-arm
invariant-arms_fit-loop-arm l = l.all && list_all (λ a. a l.size) (map (spec.arm_fits l.nets) (drop l.arm-index l.arms)) ≡ list_all (λ a. a l.size) (map (spec.arm_fits l.nets) l.arms)
