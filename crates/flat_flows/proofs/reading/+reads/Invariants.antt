use Rattle.std.proofs.Common.{Bool, List, map, drop}
use Rattle.flat_design.specs.Reads.{read, either_reads}
use Rattle.flat_flows.specs.Tables.{Grows}
use Rattle.flat_flows.proofs.reading.+reads.Given as goal

-- what the parts that are left add, all of them add
abbrev pub invariant-add_all_reads-loop-part : goal.invariant-add_all_reads-loop-part
invariant-add_all_reads-loop-part l = (final : List Bool) → Grows l.into (either_reads (map (read l.nets) (drop l.part-index l.parts))) l.shut final → Grows l.fn.into (either_reads (map (read l.nets) l.parts)) l.shut final
