-- Graphs by the numbers of their nodes, sorted, and loops in them.
use Rattle.std.specs.Prelude.{◌≡◌, ◌<◌, ℕ, Bool, true, false, List, [], ◌∷◌, Some, slice_get, slice_index_or}
use Rattle.flat_orders.specs.Orders.{among}
use Rattle.flat_flows.specs.Tables.{in_table}

-- for each node those to which it leads
abbrev pub Graph : Type 0
Graph = List (List ℕ)

abbrev pub row_of : Graph → ℕ → List ℕ
row_of graph k = slice_index_or graph k []

abbrev pub leads : Graph → ℕ → ℕ → Bool
leads graph k j = among j (row_of graph k)

-- each node stands once, after all to which it leads
pub record IsSorted (graph : Graph) (order : List ℕ) : Type 0 where
  pub once : (p q k : ℕ) → slice_get order p ≡ Some k → slice_get order q ≡ Some k → p ≡ q
  pub before : (p k j : ℕ) → slice_get order p ≡ Some k → leads graph k j ≡ true → (q : ℕ) × ((slice_get order q ≡ Some j) × (q < p))

-- each node of the list leads to the next
abbrev pub IsChain : Graph → List ℕ → Type 0
IsChain graph [] = Unit {0}
IsChain graph (k ∷ []) = Unit {0}
IsChain graph (k ∷ j ∷ ks) = (leads graph k j ≡ true) × IsChain graph (j ∷ ks)

-- from the first over these to the last
abbrev pub LeadsOver : Graph → ℕ → List ℕ → ℕ → Type 0
LeadsOver graph k [] last = leads graph k last ≡ true
LeadsOver graph k (j ∷ js) last = (leads graph k j ≡ true) × LeadsOver graph j js last

-- each node leads to the next, and the last to the first
abbrev pub IsLoop : Graph → List ℕ → Type 0
IsLoop graph [] = ⊥
IsLoop graph (k ∷ ks) = LeadsOver graph k ks k

-- a search has sorted some nodes; those that it has begun and not sorted stand on its path
pub record IsSearch (graph : Graph) (seen done : List Bool) (order path : List ℕ) : Type 0 where
  pub chain : IsChain graph path
  pub listed : (i : ℕ) → in_table done i ≡ among i order
  pub sorted : IsSorted graph order
  pub open_ : (i : ℕ) → in_table seen i ≡ true → in_table done i ≡ false → among i path ≡ true

-- a set of nodes that has all to which one of its nodes leads
abbrev pub IsClosed : Graph → (ℕ → Bool) → Type 0
IsClosed graph set = (k j : ℕ) → set k ≡ true → leads graph k j ≡ true → set j ≡ true

abbrev pub AllIn : (ℕ → Bool) → List ℕ → Type 0
AllIn set ks = (i : ℕ) → among i ks ≡ true → set i ≡ true
