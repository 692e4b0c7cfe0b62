-- Laws of clauses, chains, propagation and new clauses, which the solver and the checker of certificates cite.
use Rattle.std.specs.Prelude.{◌≡◌, ℕ, ◌+◌, ◌*◌, Bool, true, false, List, map, Some, slice_get}
use Rattle.lemma_checker.specs.declared.literal.Literal.{Literal}
use Rattle.lemma_checker.specs.Clauses.{has, set_of, Follows, HasNoSolution}
use Rattle.lemma_checker.specs.Chains.{clashes, resolved, chain_result, has_empty, AreDerived, ReachesEmpty}
use Rattle.lemma_checker.specs.Propagation.{IsPropagation, IsConflictFree, DoesNotConflict, IsNew, opposites_but}

-- the first list's clauses are all in the second
pub record AreAmong (few many : List (List Literal)) : Type 0 where
  pub each : (i : ℕ) (c : List Literal) → slice_get few i ≡ Some c → (j : ℕ) × (slice_get many j ≡ Some c)

-- a resolvent follows from the two clauses
abbrev pub ResolventFollows : Type 0
ResolventFollows = (clauses : List (List Literal)) (i j p : ℕ) (a b c : List Literal) → slice_get clauses i ≡ Some a → slice_get clauses j ≡ Some b → clashes p (set_of a) (set_of b) ≡ true → set_of c ≡ resolved p (set_of a) (set_of b) → Follows clauses c

-- what a chain gives follows
abbrev pub ChainFollows : Type 0
ChainFollows = (clauses : List (List Literal)) (ids pivots : List ℕ) (c : List Literal) → chain_result clauses ids pivots ≡ Some (set_of c) → Follows clauses c

-- each clause that chains add follows from the clauses they start with
abbrev pub AddedFollow : Type 0
AddedFollow = (clauses added : List (List Literal)) (chains : List (List ℕ × List ℕ)) → AreDerived clauses added chains → (i : ℕ) (c : List Literal) → slice_get added i ≡ Some c → Follows clauses c

-- clauses in which chains reach the empty clause have no solution
abbrev pub RefutedHasNoSolution : Type 0
RefutedHasNoSolution = (clauses : List (List Literal)) (chains : List (List ℕ × List ℕ)) → ReachesEmpty clauses chains → HasNoSolution clauses

-- more literals and more clauses give more by propagation
abbrev pub PropagationGrows : Type 0
PropagationGrows = (few many : List (List Literal)) (from more s t : ℕ → Bool) → AreAmong few many → ((l : ℕ) → from l ≡ true → more l ≡ true) → IsPropagation few from s → IsPropagation many more t → (l : ℕ) → s l ≡ true → t l ≡ true

-- what propagation gives has no conflict where some closed set has none
abbrev pub LeastDoesNotConflict : Type 0
LeastDoesNotConflict = (clauses : List (List Literal)) (from s : ℕ → Bool) → DoesNotConflict clauses from → IsPropagation clauses from s → IsConflictFree clauses s

-- propagation from the opposites of a new clause's other literals has no conflict and does not give its literal
abbrev pub NewIsNotGiven : Type 0
NewIsNotGiven = (clauses : List (List Literal)) (c : List Literal) (new : IsNew clauses c) (s : ℕ → Bool) → IsPropagation clauses (opposites_but c new.literal) s → IsConflictFree clauses s × (s new.literal ≡ false)

-- a new clause contains no clause of the list
abbrev pub NewContainsNone : Type 0
NewContainsNone = (clauses : List (List Literal)) (c : List Literal) → IsNew clauses c → (i : ℕ) (d : List Literal) → slice_get clauses i ≡ Some d → ((l : ℕ) → has l d ≡ true → has l c ≡ true) → ⊥

-- a new clause has no variable twice
abbrev pub NewHasNoVariableTwice : Type 0
NewHasNoVariableTwice = (clauses : List (List Literal)) (c : List Literal) → IsNew clauses c → (v : ℕ) → has (2 * v) c ≡ true → has (2 * v + 1) c ≡ true → ⊥

-- a resolvent of two clauses of the list that share no literal is not new
abbrev pub ResolventIsNotNew : Type 0
ResolventIsNotNew = (clauses : List (List Literal)) (i j p : ℕ) (a b c : List Literal) → slice_get clauses i ≡ Some a → slice_get clauses j ≡ Some b → clashes p (set_of a) (set_of b) ≡ true → set_of c ≡ resolved p (set_of a) (set_of b) → ((l : ℕ) → has l a ≡ true → has l b ≡ true → ⊥) → IsNew clauses c → ⊥

-- the clauses are the same sets of literals, in the same order
abbrev pub AreSameSets : List (List Literal) → List (List Literal) → Type 0
AreSameSets some others = map set_of some ≡ map set_of others

-- what a chain gives depends on the clauses as sets of literals alone
abbrev pub ChainGoesBySets : Type 0
ChainGoesBySets = (some others : List (List Literal)) (ids pivots : List ℕ) → AreSameSets some others → chain_result some ids pivots ≡ chain_result others ids pivots

-- so do the clauses that chains add, and whether one is empty
abbrev pub AddedGoBySets : Type 0
AddedGoBySets = (clauses added again : List (List Literal)) (chains : List (List ℕ × List ℕ)) → AreDerived clauses added chains → AreDerived clauses again chains → AreSameSets added again

abbrev pub EmptyGoesBySets : Type 0
EmptyGoesBySets = (some others : List (List Literal)) → AreSameSets some others → has_empty some ≡ has_empty others
