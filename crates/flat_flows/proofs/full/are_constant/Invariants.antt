use Rattle.std.proofs.Common.{◌≡◌, List, drop}
use Rattle.std.specs.Prelude.{is_some}
use Rattle.std.specs.List.{list_all}
use Rattle.flat_design.specs.declared.net.Net as declared
use Rattle.flat_design.specs.Reads.{constant_in}
use Rattle.flat_flows.proofs.full.are_constant.Given as goal

-- all are constant where the others are
abbrev pub invariant-loop-label : goal.invariant-loop-label
invariant-loop-label l = (nets : List declared.Net) → list_all (λ l. is_some (constant_in nets l.value)) (drop l.label-index l.labels) ≡ list_all (λ l. is_some (constant_in nets l.value)) l.labels
