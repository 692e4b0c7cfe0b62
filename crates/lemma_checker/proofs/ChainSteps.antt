-- One step of a chain, as a loop over its numbers and pivots takes it.
use Rattle.std.proofs.Common.{◌≡◌, ℕ, ◌+◌, ◌<◌, ◌≤◌, Bool, true, false, List, length, get_or, drop, Some, None, refl, ◌∙◌}
use Rattle.std.specs.Option.{option_and_then}
use Rattle.std.proofs.lemmas.List.{drop_more, drop_all}
use Rattle.lemma_checker.specs.declared.literal.Literal.{Literal}
use Rattle.lemma_checker.specs.Clauses.{set_of}
use Rattle.lemma_checker.specs.Chains.{clashes, resolved, resolve_with, numbered, chain_from}

pub chain_open : (all : List (List Literal)) (f : ℕ → Bool) (ids pivots : List ℕ) (i : ℕ) → i < length ids → i < length pivots → chain_from all f (drop i ids) (drop i pivots) ≡ option_and_then (λ g. chain_from all g (drop (i + 1) ids) (drop (i + 1) pivots)) (resolve_with (get_or pivots i 0) f (numbered all (get_or ids i 0)))
chain_open all f ids pivots i a b = rw (drop_more ids i 0 a, drop_more pivots i 0 b) refl

-- there is no pivot left
pub chain_no_pivot : (all : List (List Literal)) (f : ℕ → Bool) (ids pivots : List ℕ) (i : ℕ) → i < length ids → length pivots ≤ i → chain_from all f (drop i ids) (drop i pivots) ≡ None
chain_no_pivot all f ids pivots i a b = rw (drop_more ids i 0 a, drop_all i pivots b) refl

-- there is a pivot too many
pub chain_no_number : (all : List (List Literal)) (f : ℕ → Bool) (ids pivots : List ℕ) (i : ℕ) → length ids ≤ i → i < length pivots → chain_from all f (drop i ids) (drop i pivots) ≡ None
chain_no_number all f ids pivots i a b = rw (drop_all i ids a, drop_more pivots i 0 b) refl

-- both end
pub chain_ends : (all : List (List Literal)) (f : ℕ → Bool) (ids pivots : List ℕ) (i : ℕ) → length ids ≤ i → length pivots ≤ i → chain_from all f (drop i ids) (drop i pivots) ≡ Some f
chain_ends all f ids pivots i a b = rw (drop_all i ids a, drop_all i pivots b) refl

-- no clause has this number
pub chain_no_clause : (all : List (List Literal)) (f : ℕ → Bool) (ids pivots : List ℕ) (i : ℕ) → i < length ids → i < length pivots → numbered all (get_or ids i 0) ≡ None → chain_from all f (drop i ids) (drop i pivots) ≡ None
unfolding resolve_with
chain_no_clause all f ids pivots i a b none = chain_open all f ids pivots i a b ∙ rw none refl

-- the clause cannot be resolved with the set
pub chain_no_step : (all : List (List Literal)) (f : ℕ → Bool) (ids pivots : List ℕ) (i : ℕ) (c : List Literal) → i < length ids → i < length pivots → numbered all (get_or ids i 0) ≡ Some c → clashes (get_or pivots i 0) f (set_of c) ≡ false → chain_from all f (drop i ids) (drop i pivots) ≡ None
unfolding resolve_with
chain_no_step all f ids pivots i c a b is bad = chain_open all f ids pivots i a b ∙ rw (is, bad) refl

-- the clause is resolved with the set
pub chain_step : (all : List (List Literal)) (f g : ℕ → Bool) (ids pivots : List ℕ) (i : ℕ) (c : List Literal) → i < length ids → i < length pivots → numbered all (get_or ids i 0) ≡ Some c → clashes (get_or pivots i 0) f (set_of c) ≡ true → g ≡ resolved (get_or pivots i 0) f (set_of c) → chain_from all f (drop i ids) (drop i pivots) ≡ chain_from all g (drop (i + 1) ids) (drop (i + 1) pivots)
unfolding resolve_with
chain_step all f g ids pivots i c a b is good same = chain_open all f ids pivots i a b ∙ rw (is, good, same) refl
