-- What a depot in memory holds, how it was called, and which calls are to fail.
use Rattle.std.specs.Prelude.{ℕ, ◌+◌, Bool, List, length}
use Rattle.tool_edge.specs.Failing.{is_due}
use Rattle.tool_edge.specs.Files.{Files}
use Rattle.tool_edge.specs.Shelf.{held_at}
use Rattle.tool_edge.specs.declared.depot.DepotCall.{DepotCall}
use Rattle.tool_edge.specs.declared.memory_depot.MemoryDepot.{MemoryDepot}

-- the bytes under each name
abbrev pub memory_files : MemoryDepot → Files
memory_files depot = held_at depot.shelf.files.items

-- the calls so far
abbrev pub memory_calls : MemoryDepot → List DepotCall
memory_calls depot = depot.shelf.calls.items

-- the numbers of the calls that are to fail
abbrev pub memory_failing : MemoryDepot → List ℕ
memory_failing depot = depot.failing.items

-- how many calls have failed
abbrev pub memory_faults : MemoryDepot → ℕ
memory_faults depot = depot.faults

-- whether the next call is to fail: its number is one more than the calls in the list
abbrev pub memory_next_fails : MemoryDepot → Bool
memory_next_fails depot = is_due (memory_failing depot) (length (memory_calls depot) + 1)
