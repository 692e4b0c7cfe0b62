use Rattle.std.proofs.Common.{◌≡◌, List, true}
use Rattle.std.specs.List.{list_any}
use Rattle.flat_design.specs.declared.net.Net as declared
use Rattle.flat_design.specs.Flows.{spread, all_match}
use Rattle.flat_flows.specs.Arms.{tests_of}
use Rattle.flat_flows.proofs.full.is_full_case.Given as goal

-- the words of the numbers so far have labels
abbrev pub invariant-loop-number : goal.invariant-loop-number
invariant-loop-number l = (nets : List declared.Net) → all_match l.number (spread l.selector).own (λ word. list_any (λ t. t.matches ((spread l.selector).widen word)) (tests_of nets l.arms)) ≡ true
