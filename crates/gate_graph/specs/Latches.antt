-- The starts of a circuit's latches.
use Rattle.std.specs.Prelude.{◌≡◌, Bool, true, false, List, slice_get, Some, map}
use Rattle.gate_graph.specs.declared.parts.Start.{Start}
use Rattle.gate_graph.specs.declared.parts.Start.TheVariants as start
use Rattle.gate_graph.specs.declared.parts.Latch.{Latch}

-- latch 0 is there, and starts at 0
abbrev pub StartsAtZero : List Latch → Type 0
StartsAtZero latches = slice_get (map (λ l. l.start) latches) 0 ≡ Some start.Zero

-- the value that a latch may start with
abbrev pub StartsAs : Start → Bool → Type 0
StartsAs start.Zero b = b ≡ false
StartsAs start.One b = b ≡ true
StartsAs start.Free b = Unit {0}
