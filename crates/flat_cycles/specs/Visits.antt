-- The nodes that a search from a first one has come to, each with the one that it came from.
use Rattle.std.specs.Prelude.{◌≡◌, ◌<◌, ◌≤◌, ℕ, Bool, true, List, ◌∷◌, Option, Some, None, slice_get, length}
use Rattle.bit_base.specs.Operators.{count_of_true}
use Rattle.flat_flows.specs.Tables.{in_table}
use Rattle.flat_orders.specs.Cycles.{AllFrom}
use Rattle.flat_loops.specs.Graphs.{Graph, leads, LeadsOver}
use Rattle.flat_cycles.specs.declared.visit.Visit.{Visit}
use Rattle.flat_cycles.specs.Rounds.{StandOnce}

-- the visit before leads to the node, or the first node does
abbrev pub IsFrom : Graph → ℕ → List Visit → ℕ → ℕ → Option ℕ → Type 0
IsFrom graph first visits p node None = leads graph first node ≡ true
IsFrom graph first visits p node (Some q) = (u : Visit) × ((slice_get visits q ≡ Some u) × ((q < p) × (leads graph u.node node ≡ true)))

-- the visits so far, none of the first node and none before it; a node is in the set where it was visited
pub record AreVisits (graph : Graph) (first : ℕ) (seen : List Bool) (visits : List Visit) : Type 0 where
  pub from : (p : ℕ) (v : Visit) → slice_get visits p ≡ Some v → IsFrom graph first visits p v.node v.from
  pub high : (p : ℕ) (v : Visit) → slice_get visits p ≡ Some v → first < v.node
  pub found : (i : ℕ) → in_table seen i ≡ true → (p : ℕ) × ((v : Visit) × ((slice_get visits p ≡ Some v) × (v.node ≡ i)))
  pub listed : (p : ℕ) (v : Visit) → slice_get visits p ≡ Some v → in_table seen v.node ≡ true
  pub counted : length visits ≡ count_of_true seen
  pub once : (p q : ℕ) (v u : Visit) → slice_get visits p ≡ Some v → slice_get visits q ≡ Some u → v.node ≡ u.node → p ≡ q

-- all nodes from the first on to which a node leads are in the set
abbrev pub IsDone : Graph → ℕ → List Bool → ℕ → Type 0
IsDone graph first seen node = (j : ℕ) → leads graph node j ≡ true → first ≤ j → in_table seen j ≡ true

-- the visits before a place are done
abbrev pub AreDone : Graph → ℕ → List Bool → List Visit → ℕ → Type 0
AreDone graph first seen visits head = (p : ℕ) (v : Visit) → slice_get visits p ≡ Some v → p < head → IsDone graph first seen v.node

-- the node that is looked at: the first one, or that of a visit
abbrev pub IsSource : ℕ → List Visit → ℕ → Option ℕ → Type 0
IsSource first visits node None = node ≡ first
IsSource first visits node (Some q) = (u : Visit) × ((slice_get visits q ≡ Some u) × (u.node ≡ node))

-- visits come behind those that were, and none is lost
pub record HasGrown (seen : List Bool) (visits : List Visit) (seen' : List Bool) (visits' : List Visit) : Type 0 where
  pub bound : length seen' ≡ length seen
  pub kept : (i : ℕ) → in_table seen i ≡ true → in_table seen' i ≡ true
  pub stays : (p : ℕ) (v : Visit) → slice_get visits p ≡ Some v → slice_get visits' p ≡ Some v

-- each visit comes from the first node or from a visit before, and is of a later node than the first, and of another than each other
-- visit
pub record AreComing (graph : Graph) (first : ℕ) (visits : List Visit) : Type 0 where
  pub from : (p : ℕ) (v : Visit) → slice_get visits p ≡ Some v → IsFrom graph first visits p v.node v.from
  pub high : (p : ℕ) (v : Visit) → slice_get visits p ≡ Some v → first < v.node
  pub once : (p q : ℕ) (v u : Visit) → slice_get visits p ≡ Some v → slice_get visits q ≡ Some u → v.node ≡ u.node → p ≡ q

-- a way from the first node over nodes after it, so that it goes on to all to which the node of the visit leads
pub record IsWay (graph : Graph) (first : ℕ) (visits : List Visit) (place : ℕ) (way : List ℕ) : Type 0 where
  pub leads_on : (v : Visit) (next : ℕ) → slice_get visits place ≡ Some v → leads graph v.node next ≡ true → LeadsOver graph first way next
  pub high : AllFrom first way
  pub once : StandOnce (first ∷ way)
