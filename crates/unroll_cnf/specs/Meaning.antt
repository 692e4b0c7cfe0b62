-- The runs that assignments stand for.
use Rattle.std.specs.Prelude.{◌≡◌, ℕ, zero, suc, ◌+◌, Bool, true, false, List, [], ◌∷◌, ◌++◌, length, map, slice_get, Some, ◌⊎◌}
use Rattle.std.specs.List.{All}
use Rattle.lemma_checker.specs.declared.literal.Literal.{Literal}
use Rattle.lemma_checker.specs.Clauses.{Solves}
use Rattle.gate_graph.specs.declared.nodes.Node.{Node}
use Rattle.gate_graph.specs.declared.nodes.Node.TheVariants as node
use Rattle.gate_graph.specs.declared.circuits.Circuit.{Circuit}
use Rattle.gate_graph.specs.Values.{at, value}
use Rattle.gate_graph.specs.Runs.{next_state}
use Rattle.unroll_cnf.specs.declared.latch_literal.LatchLiteral.{LatchLiteral}
use Rattle.unroll_cnf.specs.declared.run.CircuitRun.{CircuitRun}
use Rattle.unroll_cnf.specs.Latches.{meets, MeetsAll, AreOfLatches}
use Rattle.unroll_cnf.specs.Runs.{state_at}
use Rattle.unroll_cnf.specs.Queries.{offset, latch_places, input_places, keep_cones, base_clauses, step_clauses, keep_clauses}

-- the values of the nodes at an edge whose first variable is k, and at edge t
abbrev pub shifted : (ℕ → Bool) → ℕ → ℕ → Bool
shifted v k i = v (i + k)

abbrev pub frame : Circuit → (ℕ → Bool) → ℕ → ℕ → Bool
frame c v t = shifted v (offset c t)

-- the assignment stands for the run: the variables of latches before its first edge, and those of inputs at each edge
-- t of it, have the run's values
pub record StandsFor (c : Circuit) (v : ℕ → Bool) (s : List Bool) (xs : List (List Bool)) : Type 0 where
  pub latches : (i n : ℕ) → slice_get c.graph i ≡ Some (node.Latch n) → frame c v 0 i ≡ at s n
  pub inputs : (t : ℕ) (x : List Bool) → slice_get xs t ≡ Some x → (i n : ℕ) → slice_get c.graph i ≡ Some (node.Input n) → frame c v t i ≡ at x n

-- at each edge t of the run, the variable of each node in `cones t` has the node's value
pub record Follows (c : Circuit) (cones : ℕ → ℕ → Bool) (v : ℕ → Bool) (s : List Bool) (xs : List (List Bool)) : Type 0 where
  pub node : (t : ℕ) (x : List Bool) → slice_get xs t ≡ Some x → (i : ℕ) (n : Node) → slice_get c.graph i ≡ Some n → cones t i ≡ true → frame c v t i ≡ value (state_at c s xs t) x c.graph i

-- the state and the inputs that the assignment gives, at edge 0, at edge t, and for the first t edges
unfoldable pub first_state : Circuit → (ℕ → Bool) → List Bool
first_state c v = map (frame c v 0) (latch_places 0 c.graph)

unfoldable pub inputs_at : Circuit → (ℕ → Bool) → ℕ → List Bool
inputs_at c v t = map (frame c v t) (input_places 0 c.graph)

abbrev pub run_inputs : Circuit → (ℕ → Bool) → ℕ → List (List Bool)
run_inputs c v zero = []
run_inputs c v (suc t) = run_inputs c v t ++ inputs_at c v t ∷ []

-- the assignment stands for a run of this kind, and follows it in the cones
pub record StandsForA (c : Circuit) (cones : ℕ → ℕ → Bool) (v : ℕ → Bool) (kind : List Bool → List (List Bool) → Type 0) : Type 0 where
  pub start : List Bool
  pub inputs : List (List Bool)
  pub stands : StandsFor c v start inputs
  pub follows : Follows c cones v start inputs
  pub is : kind start inputs

-- some assignment satisfies the clauses and stands for the run
pub record IsStoodFor (c : Circuit) (clauses : List (List Literal)) (s : List Bool) (xs : List (List Bool)) : Type 0 where
  pub values : ℕ → Bool
  pub solves : Solves values clauses
  pub stands : StandsFor c values s xs

-- the assignment stands for an edge from a state that meets the set, and its variables behind those of the nodes name
-- clauses of the set, at least one, none of which the next state meets
pub record StandsForKeep (c : Circuit) (v : ℕ → Bool) (set : List (List LatchLiteral)) : Type 0 where
  pub start : List Bool
  pub input : List Bool
  pub stands : StandsFor c v start (input ∷ [])
  pub follows : Follows c (keep_cones c set) v start (input ∷ [])
  pub starts : MeetsAll start set
  pub place : ℕ
  pub clause : List LatchLiteral
  pub at_place : slice_get set place ≡ Some clause
  pub named : v (place + offset c 1) ≡ true
  pub broken : (j : ℕ) (d : List LatchLiteral) → slice_get set j ≡ Some d → v (j + offset c 1) ≡ true → meets (next_state c start input) d ≡ false

-- the inputs of a run, edge by edge
abbrev pub edges_of : CircuitRun → List (List Bool)
edges_of r = map (λ x. x.items) r.inputs.items

-- the state and the inputs of the run are the circuit's
pub record HasSizes (c : Circuit) (r : CircuitRun) : Type 0 where
  pub state : length r.start.items ≡ length c.latches.items
  pub inputs : All (λ x. length x ≡ c.inputs) (edges_of r)

-- the clauses are the step query of m - 1 edges for a set of the circuit's latches, or the keep query of one
pub record IsStepOf (c : Circuit) (m : ℕ) (clauses : List (List Literal)) : Type 0 where
  pub set : List (List LatchLiteral)
  pub of : AreOfLatches (length c.latches.items) set
  pub good : ℕ
  pub edges : m ≡ good + 1
  pub is : clauses ≡ step_clauses c set good

pub record IsKeepOf (c : Circuit) (m : ℕ) (clauses : List (List Literal)) : Type 0 where
  pub set : List (List LatchLiteral)
  pub of : AreOfLatches (length c.latches.items) set
  pub edges : m ≡ 1
  pub is : clauses ≡ keep_clauses c set

-- the clauses are a query of the circuit about runs of m edges
abbrev pub IsQueryOf : Circuit → ℕ → List (List Literal) → Type 0
IsQueryOf c m clauses = (clauses ≡ base_clauses c m) ⊎ (IsStepOf c m clauses ⊎ IsKeepOf c m clauses)
