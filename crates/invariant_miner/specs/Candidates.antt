-- The candidate clauses of a circuit: what its sample states have in common. `all` tells whether a test holds in all of
-- them; a clause lists its latches in rising order, and is weakened by `live` being 0, as every clause over latches is.
use Rattle.std.specs.Prelude.{ℕ, zero, suc, ◌+◌, ◌-◌, Bool, true, false, not, ◌&&◌, ◌||◌, eqb, cond, List, [], ◌∷◌, ◌++◌, length, Option, Some, None}
use Rattle.std.specs.List.{list_any, list_all, flat_map, range_with_len}
use Rattle.gate_graph.specs.declared.circuits.Circuit.{Circuit}
use Rattle.gate_graph.specs.Values.{at}
use Rattle.unroll_cnf.specs.declared.latch_literal.LatchLiteral.{LatchLiteral}
use Rattle.unroll_cnf.specs.Latches.{holds}
use Rattle.invariant_miner.specs.Samples.{in_all_samples}

-- the latch, and its negation
abbrev pub plain : ℕ → LatchLiteral
plain n = record { latch = n; negated = false }

abbrev pub negated : ℕ → LatchLiteral
negated n = record { latch = n; negated = true }

-- two values are the same
abbrev pub same_value : Bool → Bool → Bool
same_value true b = b
same_value false b = not b

-- whether one of two literals holds in each sample state, and whether a literal does
abbrev pub holds_in_all : ((List Bool → Bool) → Bool) → LatchLiteral → Bool
holds_in_all all x = all (λ s. holds s x)

abbrev pub one_holds_in_all : ((List Bool → Bool) → Bool) → LatchLiteral → LatchLiteral → Bool
one_holds_in_all all x y = all (λ s. holds s x || holds s y)

-- where latch n is constant, that literal
abbrev pub constant_clauses : ((List Bool → Bool) → Bool) → ℕ → List (List LatchLiteral)
constant_clauses all n = cond (holds_in_all all (plain n)) ((plain n ∷ []) ∷ []) (cond (holds_in_all all (negated n)) ((negated n ∷ []) ∷ []) [])

-- whether two latches are equal in all sample states, or opposite
abbrev pub are_equal : ((List Bool → Bool) → Bool) → ℕ → ℕ → Bool
are_equal all n m = all (λ s. same_value (at s m) (at s n))

abbrev pub are_opposite : ((List Bool → Bool) → Bool) → ℕ → ℕ → Bool
are_opposite all n m = all (λ s. same_value (at s m) (not (at s n)))

-- the least number that passes, of so many from m on
abbrev pub least_from : (ℕ → Bool) → ℕ → ℕ → Option ℕ
least_from p m zero = None
least_from p m (suc count) = cond (p m) (Some m) (least_from p (m + 1) count)

-- the two clauses of latch n with the latch that equals it, or else with the one that is its opposite
abbrev pub relation_with : Option ℕ → Option ℕ → ℕ → List (List LatchLiteral)
relation_with (Some m) opposite n = (plain m ∷ negated n ∷ []) ∷ (negated m ∷ plain n ∷ []) ∷ []
relation_with None (Some m) n = (plain m ∷ plain n ∷ []) ∷ (negated m ∷ negated n ∷ []) ∷ []
relation_with None None n = []

-- the clauses of latch n with an earlier latch other than `live`
unfoldable pub relation_clauses : ((List Bool → Bool) → Bool) → ℕ → List (List LatchLiteral)
relation_clauses all n = relation_with (least_from (are_equal all n) 1 (n - 1)) (least_from (are_opposite all n) 1 (n - 1)) n

unfoldable pub latch_clauses : ((List Bool → Bool) → Bool) → ℕ → List (List LatchLiteral)
latch_clauses all n = constant_clauses all n ++ relation_clauses all n

-- the clause of two literals, where all sample states meet it, and neither literal alone holds in all
unfoldable pub pair_clause : ((List Bool → Bool) → Bool) → LatchLiteral → LatchLiteral → List (List LatchLiteral)
pair_clause all x y = cond (one_holds_in_all all x y && (not (holds_in_all all x) && not (holds_in_all all y))) ((x ∷ y ∷ []) ∷ []) []

-- the clauses of two control latches, by their signs
unfoldable pub pair_clauses : ((List Bool → Bool) → Bool) → ℕ → ℕ → List (List LatchLiteral)
pair_clauses all a b = pair_clause all (plain a) (plain b) ++ (pair_clause all (plain a) (negated b) ++ (pair_clause all (negated a) (plain b) ++ pair_clause all (negated a) (negated b)))

-- those of each two of these latches, by the earlier and then by the later
abbrev pub control_clauses : ((List Bool → Bool) → Bool) → List ℕ → List (List LatchLiteral)
control_clauses all [] = []
control_clauses all (a ∷ more) = flat_map (pair_clauses all a) more ++ control_clauses all more

-- whether a clause has a literal, two clauses have the same literals, and a clause is there already
abbrev pub same_literal : LatchLiteral → LatchLiteral → Bool
same_literal x y = eqb x.latch y.latch && same_value x.negated y.negated

abbrev pub has_literal : List LatchLiteral → LatchLiteral → Bool
has_literal d x = list_any (same_literal x) d

unfoldable pub same_literals : List LatchLiteral → List LatchLiteral → Bool
same_literals d e = list_all (has_literal e) d && list_all (has_literal d) e

unfoldable pub is_there : List LatchLiteral → List (List LatchLiteral) → Bool
is_there d list = list_any (same_literals d) list

-- the list with further clauses, one after the other, each unless it is there already
abbrev pub with_new : List (List LatchLiteral) → List (List LatchLiteral) → List (List LatchLiteral)
with_new list [] = list
with_new list (d ∷ ds) = with_new (cond (is_there d list) list (list ++ d ∷ [])) ds

-- the candidates over n latches, of which these are control latches; none where there is no sample state
unfoldable pub candidates_by : ((List Bool → Bool) → Bool) → ℕ → List ℕ → List (List LatchLiteral)
candidates_by all n control = cond (all (λ _. false)) [] (with_new [] (flat_map (latch_clauses all) (range_with_len 1 (n - 1)) ++ control_clauses all control))

-- the candidate list of a circuit and a seed
abbrev pub candidates : Circuit → ℕ → List (List LatchLiteral)
candidates c seed = candidates_by (in_all_samples c seed) (length c.latches.items) c.control.items
