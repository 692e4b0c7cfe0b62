-- Loops through a first node, and what excludes them.
use Rattle.std.specs.Prelude.{◌≡◌, ◌≤◌, ℕ, Bool, true, false, List, [], ◌∷◌}
use Rattle.flat_orders.specs.Cycles.{AllFrom}
use Rattle.flat_orders.specs.Orders.{among}
use Rattle.flat_loops.specs.Graphs.{Graph, leads, IsLoop}

-- no number stands twice in the list
abbrev pub StandOnce : List ℕ → Type 0
StandOnce [] = Unit {0}
StandOnce (k ∷ ks) = (among k ks ≡ false) × StandOnce ks

-- a loop that begins at the node, has no other before it, and comes to each of its nodes once
pub record IsRound (graph : Graph) (first : ℕ) (ks : List ℕ) : Type 0 where
  pub rest : List ℕ
  pub is : ks ≡ first ∷ rest
  pub loop : IsLoop graph ks
  pub from : AllFrom first rest
  pub once : StandOnce ks

-- a set of nodes that has all to which the first node or one of the set leads, from the first on, but not the first
pub record ShutsOut (graph : Graph) (first : ℕ) (set : ℕ → Bool) : Type 0 where
  pub start : (j : ℕ) → leads graph first j ≡ true → first ≤ j → set j ≡ true
  pub step : (k j : ℕ) → set k ≡ true → leads graph k j ≡ true → first ≤ j → set j ≡ true
  pub out : set first ≡ false

-- no loop of which the node is the first
abbrev pub IsShut : Graph → ℕ → Type 0
IsShut graph first = (set : ℕ → Bool) × ShutsOut graph first set
