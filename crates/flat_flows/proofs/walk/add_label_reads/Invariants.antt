use Rattle.std.proofs.Common.{Bool, List, drop}
use Rattle.flat_design.specs.Flows.{label_reads}
use Rattle.flat_flows.specs.Tables.{Grows}
use Rattle.flat_flows.proofs.walk.add_label_reads.Given as goal

-- what the labels that are left add, all of them add
abbrev pub invariant-loop-label : goal.invariant-loop-label
invariant-loop-label l = (final : List Bool) → Grows l.reads (label_reads l.nets (drop l.label-index l.labels)) l.sure final → Grows l.fn.reads (label_reads l.nets l.labels) l.sure final
