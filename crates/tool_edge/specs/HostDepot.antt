-- The faults of a depot over the host's files.
use Rattle.std.specs.Prelude.{ℕ}
use Rattle.tool_edge.specs.declared.host_depot.HostDepot.{HostDepot}

-- how many calls have ended in an Err, up to the last value of a u64
abbrev pub depot_faults : {R F D : Type 0} → HostDepot R F D → ℕ
depot_faults depot = depot.faults
