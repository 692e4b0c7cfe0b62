-- The queries: base and step queries of bounded model checking and k-induction, and the query whether a set of
-- latch clauses is kept. Node i at edge t is variable i + t * nodes + 1. A query speaks of the nodes of its cones
-- alone, and of all latches at the start.
use Rattle.std.specs.Prelude.{ℕ, zero, suc, ◌+◌, ◌-◌, ◌*◌, Bool, true, false, List, [], ◌∷◌, ◌++◌, length, map, cond, Option, Some, None, slice_get, slice_index_or}
use Rattle.lemma_checker.specs.declared.literal.Literal.{Literal}
use Rattle.lemma_checker.specs.Clauses.{opposite}
use Rattle.gate_graph.specs.declared.wires.Wire.{Wire}
use Rattle.gate_graph.specs.declared.nodes.Node.{Node}
use Rattle.gate_graph.specs.declared.nodes.Node.TheVariants as node
use Rattle.gate_graph.specs.declared.parts.Start.{Start}
use Rattle.gate_graph.specs.declared.parts.Start.TheVariants as start
use Rattle.gate_graph.specs.declared.parts.Latch.{Latch}
use Rattle.gate_graph.specs.declared.circuits.Circuit.{Circuit}
use Rattle.unroll_cnf.specs.declared.latch_literal.LatchLiteral.{LatchLiteral}
use Rattle.unroll_cnf.specs.Latches.{weakened}
use Rattle.unroll_cnf.specs.Cones.{bad_cone, set_cone}

-- a variable, its negation, and what denies a literal
abbrev pub plain : ℕ → Literal
plain n = record { 0 = 2 * n }

abbrev pub negated : ℕ → Literal
negated n = record { 0 = 2 * n + 1 }

abbrev pub denied : Literal → Literal
denied l = record { 0 = opposite l.0 }

-- the literal, denied where the sign is true
abbrev pub signed : Bool → Literal → Literal
signed true l = denied l
signed false l = l

-- the variable of node 0 at edge t
abbrev pub offset : Circuit → ℕ → ℕ
offset c t = t * length c.graph + 1

-- the literal of a wire at an edge whose first variable is k
abbrev pub literal_at : ℕ → Wire → Literal
literal_at k w = record { 0 = w.0 + 2 * k }

-- the clauses of each node, from number i on
abbrev pub by_node : (ℕ → Node → List (List Literal)) → ℕ → List Node → List (List Literal)
by_node f i [] = []
by_node f i (n ∷ ns) = f i n ++ by_node f (i + 1) ns

-- node i has the value that it says (the Tseitin encoding)
abbrev pub gate_clauses : ℕ → ℕ → Node → List (List Literal)
gate_clauses k i node.Zero = (negated (i + k) ∷ []) ∷ []
gate_clauses k i (node.Latch n) = []
gate_clauses k i (node.Input n) = []
gate_clauses k i (node.And a b) =
    (negated (i + k) ∷ literal_at k a ∷ [])
    ∷ (negated (i + k) ∷ literal_at k b ∷ [])
    ∷ (plain (i + k) ∷ denied (literal_at k a) ∷ denied (literal_at k b) ∷ []) ∷ []

-- variable n has the value of the literal
abbrev pub same_clauses : ℕ → Literal → List (List Literal)
same_clauses n l = (negated n ∷ l ∷ []) ∷ (plain n ∷ denied l ∷ []) ∷ []

-- a latch's variable n has the value that its next wire has at the edge before
abbrev pub next_clauses : ℕ → ℕ → Option Latch → List (List Literal)
next_clauses k n None = []
next_clauses k n (Some l) = same_clauses n (literal_at k l.next)

abbrev pub latch_clauses : List Latch → ℕ → ℕ → ℕ → Node → List (List Literal)
latch_clauses latches k m i node.Zero = []
latch_clauses latches k m i (node.Latch n) = next_clauses k (i + m) (slice_get latches n)
latch_clauses latches k m i (node.Input n) = []
latch_clauses latches k m i (node.And a b) = []

-- a latch's variable n has a value that the latch may start with
abbrev pub first_clauses : ℕ → Start → List (List Literal)
first_clauses n start.Zero = (negated n ∷ []) ∷ []
first_clauses n start.One = (plain n ∷ []) ∷ []
first_clauses n start.Free = []

abbrev pub starting : ℕ → Option Latch → List (List Literal)
starting n None = []
starting n (Some l) = first_clauses n l.start

abbrev pub start_clauses : List Latch → ℕ → ℕ → Node → List (List Literal)
start_clauses latches k i node.Zero = []
start_clauses latches k i (node.Latch n) = starting (i + k) (slice_get latches n)
start_clauses latches k i (node.Input n) = []
start_clauses latches k i (node.And a b) = []

-- the clauses of a node in a set alone
abbrev pub within : (ℕ → Bool) → (ℕ → Node → List (List Literal)) → ℕ → Node → List (List Literal)
within set f i n = cond (set i) (f i n) []

-- the nodes of a set at edge t; its latches from edge t to the next; all latches at the start
abbrev pub edge_clauses : Circuit → (ℕ → Bool) → ℕ → List (List Literal)
edge_clauses c set t = by_node (within set (gate_clauses (offset c t))) 0 c.graph

abbrev pub link_clauses : Circuit → (ℕ → Bool) → ℕ → List (List Literal)
link_clauses c set t = by_node (within set (latch_clauses c.latches.items (offset c t) (offset c (t + 1)))) 0 c.graph

abbrev pub starts_clauses : Circuit → List (List Literal)
starts_clauses c = by_node (start_clauses c.latches.items (offset c 0)) 0 c.graph

-- the edges 0 to t, each linked to the next, where edge t has the nodes of `cones t`
abbrev pub run_clauses : Circuit → (ℕ → ℕ → Bool) → ℕ → List (List Literal)
run_clauses c cones zero = edge_clauses c (cones 0) 0
run_clauses c cones (suc t) = run_clauses c cones t ++ (link_clauses c (cones (t + 1)) t ++ edge_clauses c (cones (t + 1)) (t + 1))

-- the cones of the queries, by edges
abbrev pub base_cones : Circuit → ℕ → ℕ → ℕ → Bool
base_cones c k t = bad_cone c false (k - 1 - t)

abbrev pub step_cones : Circuit → ℕ → ℕ → ℕ → Bool
step_cones c k t = bad_cone c true (k - t)

abbrev pub keep_cones : Circuit → List (List LatchLiteral) → ℕ → ℕ → Bool
keep_cones c set t = set_cone c set

-- the first t edges are good
abbrev pub good_clauses : Circuit → ℕ → List (List Literal)
good_clauses c zero = []
good_clauses c (suc t) = good_clauses c t ++ (denied (literal_at (offset c t) c.bad) ∷ []) ∷ []

-- the base query of k edges: from the start, bad at the last
unfoldable pub base_clauses : Circuit → ℕ → List (List Literal)
base_clauses c k = starts_clauses c ++ (run_clauses c (base_cones c k) (k - 1) ++ (literal_at (offset c (k - 1)) c.bad ∷ []) ∷ [])

-- the numbers of the latch nodes, and of the input nodes, where the first node has number i
abbrev pub latch_places : ℕ → List Node → List ℕ
latch_places i [] = []
latch_places i (node.Zero ∷ ns) = latch_places (i + 1) ns
latch_places i (node.Latch n ∷ ns) = i ∷ latch_places (i + 1) ns
latch_places i (node.Input n ∷ ns) = latch_places (i + 1) ns
latch_places i (node.And a b ∷ ns) = latch_places (i + 1) ns

abbrev pub input_places : ℕ → List Node → List ℕ
input_places i [] = []
input_places i (node.Zero ∷ ns) = input_places (i + 1) ns
input_places i (node.Latch n ∷ ns) = input_places (i + 1) ns
input_places i (node.Input n ∷ ns) = i ∷ input_places (i + 1) ns
input_places i (node.And a b ∷ ns) = input_places (i + 1) ns

-- a latch literal at an edge whose first variable is k
unfoldable pub latch_literal : Circuit → ℕ → LatchLiteral → Literal
latch_literal c k l = signed l.negated (plain (slice_index_or (latch_places 0 c.graph) l.latch 0 + k))

-- the state before that edge meets the clause
abbrev pub set_clause : Circuit → ℕ → List LatchLiteral → List Literal
set_clause c k d = map (latch_literal c k) (weakened d)

-- the step query of k edges: from a state that meets the set, good at the first k edges, bad at the next
unfoldable pub step_clauses : Circuit → List (List LatchLiteral) → ℕ → List (List Literal)
step_clauses c set k = map (set_clause c (offset c 0)) set ++ (run_clauses c (step_cones c k) k ++ (good_clauses c k ++ (literal_at (offset c k) c.bad ∷ []) ∷ []))

-- a latch literal in the state after that edge
abbrev pub no_latch : Latch
no_latch = record { start = start.Free; next = record { 0 = 0 } }

unfoldable pub next_literal : Circuit → ℕ → LatchLiteral → Literal
next_literal c k l = signed l.negated (literal_at k (slice_index_or c.latches.items l.latch no_latch).next)

-- where variable y is true, the state after that edge does not meet the clause
abbrev pub broken_clauses : Circuit → ℕ → ℕ → List LatchLiteral → List (List Literal)
broken_clauses c k y d = map (λ l. negated y ∷ denied (next_literal c k l) ∷ []) (weakened d)

abbrev pub all_broken : Circuit → ℕ → ℕ → List (List LatchLiteral) → List (List Literal)
all_broken c k y [] = []
all_broken c k y (d ∷ ds) = broken_clauses c k y d ++ all_broken c k (y + 1) ds

-- one variable a clause of the set, from y on
abbrev pub some_of : ℕ → List (List LatchLiteral) → List Literal
some_of y [] = []
some_of y (d ∷ ds) = plain y ∷ some_of (y + 1) ds

-- the keep query: from a state that meets the set, over an edge, to a state that does not
unfoldable pub keep_clauses : Circuit → List (List LatchLiteral) → List (List Literal)
keep_clauses c set = run_clauses c (keep_cones c set) 0 ++ (map (set_clause c (offset c 0)) set ++ (all_broken c (offset c 0) (offset c 1) set ++ some_of (offset c 1) set ∷ []))
