use Rattle.std.proofs.Common.{◌≡◌, ◌++◌, map, drop}
use Rattle.flat_design.specs.Systems.{place_of}
use Rattle.flat_ordered.proofs.ordered.places_of.Given as goal

abbrev pub invariant-loop-item : goal.invariant-loop-item
invariant-loop-item l = l.places.items ++ map place_of (drop l.item-index l.items) ≡ map place_of l.items
