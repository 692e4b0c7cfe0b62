-- What a steady depot holds, and how it was called.
use Rattle.std.specs.Prelude.{List}
use Rattle.tool_edge.specs.Files.{Files}
use Rattle.tool_edge.specs.Shelf.{held_at}
use Rattle.tool_edge.specs.declared.depot.DepotCall.{DepotCall}
use Rattle.tool_edge.specs.declared.steady_depot.SteadyDepot.{SteadyDepot}

-- the bytes under each name
abbrev pub steady_files : SteadyDepot → Files
steady_files depot = held_at depot.shelf.files.items

-- the calls so far
abbrev pub steady_calls : SteadyDepot → List DepotCall
steady_calls depot = depot.shelf.calls.items
