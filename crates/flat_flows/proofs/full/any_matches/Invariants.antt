use Rattle.std.proofs.Common.{◌≡◌, List, drop, true}
use Rattle.std.specs.Prelude.{is_some}
use Rattle.std.specs.List.{list_all}
use Rattle.flat_design.specs.declared.net.Net as declared
use Rattle.flat_design.specs.Reads.{constant_in}
use Rattle.flat_design.specs.Statements.{matches_any}
use Rattle.flat_design.specs.Flows.{no_values}
use Rattle.flat_flows.proofs.full.any_matches.Given as goal

-- one matches where one of the others does, and these are constant too
abbrev pub invariant-loop-label : goal.invariant-loop-label
invariant-loop-label l = (nets : List declared.Net) → list_all (λ l. is_some (constant_in nets l.value)) l.labels ≡ true
    → (list_all (λ l. is_some (constant_in nets l.value)) (drop l.label-index l.labels) ≡ true) × (matches_any nets no_values l.word (drop l.label-index l.labels) ≡ matches_any nets no_values l.word l.labels)
