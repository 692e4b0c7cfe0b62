-- The steps of a search through a graph.
use Rattle.std.specs.Prelude.{◌≡◌, ℕ, ◌+◌, ◌-◌, ◌*◌, ◌<◌, ◌||◌, ◌++◌, ◌∷◌, List, [], Bool, Some, true, length, drop, slice_get}
use Rattle.bit_base.specs.Operators.{count_of_true}
use Rattle.flat_orders.specs.Orders.{among}
use Rattle.flat_loops.specs.Graphs.{Graph, leads, IsChain, IsSearch, IsClosed, AllIn}

-- the part of a list from a place on at which a number stands
pub record IsPart (node : ℕ) (path part : List ℕ) : Type 0 where
  pub place : ℕ
  pub at : slice_get path place ≡ Some node
  pub is : part ≡ drop place path

-- what a search has still to do: it begins each node once, and ends it once
abbrev pub to_do : List Bool → List ℕ → ℕ
to_do seen path = 2 * (length seen - count_of_true seen) + length path

-- the search goes on: it has less to do, keeps what is sorted, and loses no node of its path
pub record IsStep (graph : Graph) (seen done : List Bool) (order path : List ℕ) (seen' done' : List Bool) (order' path' : List ℕ) : Type 0 where
  pub search : IsSearch graph seen' done' order' path'
  pub less : to_do seen' path' < to_do seen path
  pub bound : length seen' ≡ length seen
  pub kept : (i : ℕ) → among i order ≡ true → among i order' ≡ true
  pub stays : (i : ℕ) → (among i order || among i path) ≡ true → (among i order' || among i path') ≡ true
  pub within : (set : ℕ → Bool) → IsClosed graph set → AllIn set order → AllIn set path → AllIn set order' × AllIn set path'

-- the last node of the path leads to one on it
pub record IsBack (graph : Graph) (path : List ℕ) (next : ℕ) : Type 0 where
  pub front : List ℕ
  pub last : ℕ
  pub path_is : path ≡ front ++ last ∷ []
  pub chain : IsChain graph path
  pub on : among next path ≡ true
  pub leads_back : leads graph last next ≡ true

-- the node is sorted, and so is all that was
pub record HasSorted (graph : Graph) (node : ℕ) (seen : List Bool) (order : List ℕ) (seen' done' : List Bool) (order' : List ℕ) : Type 0 where
  pub search : IsSearch graph seen' done' order' []
  pub bound : length seen' ≡ length seen
  pub kept : (i : ℕ) → among i order ≡ true → among i order' ≡ true
  pub there : among node order' ≡ true
  pub within : (set : ℕ → Bool) → IsClosed graph set → AllIn set order → set node ≡ true → AllIn set order'
