use Rattle.std.proofs.Common.{◌≡◌, List, drop}
use Rattle.std.specs.List.{list_all}
use Rattle.flat_design.specs.declared.net.Net as declared
use Rattle.flat_flows.specs.Arms.{tests_of}
use Rattle.flat_flows.proofs.full.have_constant_labels.Given as goal

-- all are constant where the others are
abbrev pub invariant-loop-arm : goal.invariant-loop-arm
invariant-loop-arm l = (nets : List declared.Net) → list_all (λ t. t.constant) (tests_of nets (drop l.arm-index l.arms)) ≡ list_all (λ t. t.constant) (tests_of nets l.arms)
