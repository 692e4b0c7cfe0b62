use Rattle.std.proofs.Common.{◌≡◌, List, drop, true}
use Rattle.std.specs.List.{list_all, list_any}
use Rattle.flat_design.specs.declared.net.Net as declared
use Rattle.flat_flows.specs.Arms.{tests_of}
use Rattle.flat_flows.proofs.full.arms_match.Given as goal

-- one matches where one of the others does, and these are constant too
abbrev pub invariant-loop-arm : goal.invariant-loop-arm
invariant-loop-arm l = (nets : List declared.Net) → list_all (λ t. t.constant) (tests_of nets l.arms) ≡ true
    → (list_all (λ t. t.constant) (tests_of nets (drop l.arm-index l.arms)) ≡ true) × (list_any (λ t. t.matches l.word) (tests_of nets (drop l.arm-index l.arms)) ≡ list_any (λ t. t.matches l.word) (tests_of nets l.arms))
