-- A struct may keep the fact that latches and inputs are counted.
use Rattle.std.specs.Prelude.{◌≡◌, ℕ, ◌+◌, List, [], ◌∷◌}
use Rattle.std.specs.Coded.{Coded-set, coded_ℕ, ×_prop}
use Rattle.gate_graph.specs.declared.nodes.Node.{Node}
use Rattle.gate_graph.specs.declared.nodes.Node.TheVariants.{Zero, Latch, Input, And}
use Rattle.gate_graph.specs.Gates.{AreCounted}

-- two proofs that latches and inputs are counted are equal, so that a struct may keep the fact
same_prop : (a b : ℕ) → IsProp (a ≡ b)
same_prop a b = Coded-set coded_ℕ a b

pub counted_prop : (ns : List Node) (l x : ℕ) → IsProp (AreCounted l x ns)
counted_prop [] l x = hlevel
counted_prop (Zero ∷ ns) l x = counted_prop ns l x
counted_prop (Latch n ∷ ns) l x = ×_prop (same_prop n l) (counted_prop ns (l + 1) x)
counted_prop (Input n ∷ ns) l x = ×_prop (same_prop n x) (counted_prop ns l (x + 1))
counted_prop (And a b ∷ ns) l x = counted_prop ns l x
