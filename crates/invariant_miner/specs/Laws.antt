-- The laws of the sets that every edge keeps.
use Rattle.std.specs.Prelude.{◌≡◌, Bool, List, ◌++◌, length}
use Rattle.gate_graph.specs.declared.circuits.Circuit.{Circuit}
use Rattle.gate_graph.specs.Runs.{IsStart}
use Rattle.unroll_cnf.specs.declared.latch_literal.LatchLiteral.{LatchLiteral}
use Rattle.unroll_cnf.specs.Latches.{MeetsAll, AreOfLatches}
use Rattle.invariant_miner.specs.declared.set.InductiveSet.{InductiveSet}
use Rattle.invariant_miner.specs.Kept.{IsClosed, IsGreatestClosed}
use Rattle.invariant_miner.specs.Thinned.{IsInductive}

-- each state of the start meets each set, since `live` is 0 there
abbrev pub SetsHoldAtTheStart : Type 0
SetsHoldAtTheStart = (c : Circuit) (set : List (List LatchLiteral)) (s : List Bool) → IsStart c s → MeetsAll s set

-- closed sets joined are closed
abbrev pub ClosedSetsJoin : Type 0
ClosedSetsJoin = (c : Circuit) (a b : List (List LatchLiteral)) → IsClosed c a → IsClosed c b → IsClosed c (a ++ b)

-- a list has no two greatest closed sets
abbrev pub GreatestIsOne : Type 0
GreatestIsOne = (c : Circuit) (list a b : List (List LatchLiteral)) → IsGreatestClosed c list a → IsGreatestClosed c list b → a ≡ b

-- a set whose chains refute its keep query is closed
abbrev pub InductiveSetsAreClosed : Type 0
InductiveSetsAreClosed = (c : Circuit) (set : InductiveSet) → AreOfLatches (length c.latches.items) set.clauses.items → IsInductive c set → IsClosed c set.clauses.items
