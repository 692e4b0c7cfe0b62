-- Cones: the nodes on which others depend, within an edge and from edge to edge (the cone of influence).
use Rattle.std.specs.Prelude.{◌≡◌, ℕ, zero, suc, ◌+◌, ◌-◌, ◌/◌, ◌<◌, Bool, false, ◌&&◌, ◌||◌, eqb, List, [], ◌∷◌, length, Option, Some, None, slice_get, slice_index_or}
use Rattle.std.specs.List.{list_any}
use Rattle.gate_graph.specs.declared.nodes.Node.{Node}
use Rattle.gate_graph.specs.declared.nodes.Node.TheVariants as node
use Rattle.gate_graph.specs.declared.parts.Latch.{Latch}
use Rattle.gate_graph.specs.declared.circuits.Circuit.{Circuit}
use Rattle.gate_graph.specs.Values.{at}
use Rattle.unroll_cnf.specs.declared.latch_literal.LatchLiteral.{LatchLiteral}
use Rattle.unroll_cnf.specs.Latches.{weakened}

-- with the nodes of the wires of node i, where that is a gate of the set
abbrev pub with_wires : ℕ → Node → (ℕ → Bool) → ℕ → Bool
with_wires i node.Zero set j = set j
with_wires i (node.Latch n) set j = set j
with_wires i (node.Input n) set j = set j
with_wires i (node.And a b) set j = set j || (set i && (eqb j (a.0 / 2) || eqb j (b.0 / 2)))

-- the nodes on which a set depends by the gates from node i on
abbrev pub depends : ℕ → List Node → (ℕ → Bool) → ℕ → Bool
depends i [] set j = set j
depends i (n ∷ ns) set j = with_wires i n (depends (i + 1) ns set) j

-- the nodes on which a set depends within an edge
unfoldable pub cone : Circuit → (ℕ → Bool) → ℕ → Bool
cone c set = depends 0 c.graph set

-- whether a node is that of the latch's next wire
abbrev pub is_next : Option Latch → ℕ → Bool
is_next None j = false
is_next (Some l) j = eqb j (l.next.0 / 2)

-- the nodes of the next wires of a set's latches, among the nodes from number i on
abbrev pub feeds : List Latch → ℕ → List Node → (ℕ → Bool) → ℕ → Bool
feeds latches i [] set j = false
feeds latches i (node.Zero ∷ ns) set j = feeds latches (i + 1) ns set j
feeds latches i (node.Latch n ∷ ns) set j = (set i && is_next (slice_get latches n) j) || feeds latches (i + 1) ns set j
feeds latches i (node.Input n ∷ ns) set j = feeds latches (i + 1) ns set j
feeds latches i (node.And a b ∷ ns) set j = feeds latches (i + 1) ns set j

-- the node of the bad wire
abbrev pub is_bad_node : Circuit → ℕ → Bool
is_bad_node c j = eqb j (c.bad.0 / 2)

-- the nodes on which a bad last edge depends at the edge d edges before it, and where `every` is true each edge's
-- bad wire from there on
unfoldable pub bad_cone : Circuit → Bool → ℕ → ℕ → Bool
bad_cone c every zero = cone c (is_bad_node c)
bad_cone c every (suc d) = cone c (λ j. (every && is_bad_node c j) || feeds c.latches.items 0 c.graph (bad_cone c every d) j)

-- the nodes of the next wires of the latches of a clause that is weakened, and of a set of clauses
abbrev pub is_clause_next : Circuit → List LatchLiteral → ℕ → Bool
is_clause_next c d j = list_any (λ l. is_next (slice_get c.latches.items l.latch) j) (weakened d)

abbrev pub is_set_next : Circuit → List (List LatchLiteral) → ℕ → Bool
is_set_next c set j = list_any (λ d. is_clause_next c d j) set

-- the nodes on which the state after an edge depends, as far as a set of clauses tells of it
unfoldable pub set_cone : Circuit → List (List LatchLiteral) → ℕ → Bool
set_cone c set = cone c (is_set_next c set)

-- marks that are the cones of a bad edge, at that edge first
pub record AreCones (c : Circuit) (every : Bool) (edges : ℕ) (marks : List (List Bool)) : Type 0 where
  pub long : length marks ≡ edges
  pub each : (d j : ℕ) → d < edges → at (slice_index_or marks d []) j ≡ bad_cone c every d j

-- the marks at edge t of edges whose last is `last`, where those of the last edge stand first
abbrev pub marks_at : List (List Bool) → ℕ → ℕ → ℕ → Bool
marks_at marks last t = at (slice_index_or marks (last - t) [])
