use Rattle.std.proofs.Common.{Bool, List, drop}
use Rattle.flat_design.specs.Flows.{left_reads}
use Rattle.flat_flows.specs.Tables.{Grows}
use Rattle.flat_flows.proofs.reading.add_left_reads.Given as goal

-- what the parts that are left add, all of them add
abbrev pub invariant-loop-part : goal.invariant-loop-part
invariant-loop-part l = (final : List Bool) → Grows l.into (left_reads l.nets (drop l.part-index l.left)) l.shut final → Grows l.fn.into (left_reads l.nets l.left) l.shut final
