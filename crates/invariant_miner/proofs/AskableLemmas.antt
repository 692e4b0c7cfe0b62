-- The candidates are of the circuit's latches, and not too many for a query.
use Rattle.std.proofs.Common.{◌≡◌, ℕ, zero, suc, ◌+◌, ◌-◌, ◌*◌, ◌<◌, ◌≤◌, Bool, true, false, not, ◌&&◌, cond, List, [], ◌∷◌, ◌++◌, length, Option, Some, None, IfSome, slice_get, refl, subst, arith, inl, inr}
use Rattle.std.specs.List.{All, flat_map, range_with_len}
use Rattle.std.proofs.lemmas.Option.{slice_get_within}
use Rattle.gate_graph.specs.declared.circuits.Circuit.{Circuit}
use Rattle.gate_graph.proofs.GraphLemmas.{latches_within}
use Rattle.unroll_cnf.specs.declared.latch_literal.LatchLiteral.{LatchLiteral}
use Rattle.unroll_cnf.specs.Latches.{IsOfLatches, AreOfLatches, weight}
use Rattle.invariant_miner.specs.Samples.{in_all_samples}
use Rattle.invariant_miner.specs.Candidates.{plain, negated, is_there, with_new, holds_in_all, one_holds_in_all, constant_clauses, are_equal, are_opposite, least_from, relation_with, relation_clauses, latch_clauses, pair_clause, pair_clauses, control_clauses, candidates_by, candidates}
use Rattle.invariant_miner.specs.Thinned.{IsAskable}
use Rattle.invariant_miner.proofs.ColumnLemmas.{least_within}
use Rattle.invariant_miner.proofs.LawLemmas.{starts_at_zero, get_either}
use Rattle.invariant_miner.proofs.ThinLemmas.{one_of, two_of}

-- clauses of n latches whose weight is at most w
pub record AreSmall (n w : ℕ) (ds : List (List LatchLiteral)) : Type 0 where
  pub of : AreOfLatches n ds
  pub small : weight ds ≤ w

weight_append : (a b : List (List LatchLiteral)) → weight (a ++ b) ≡ weight a + weight b
weight_append [] b = omega arith
weight_append (d ∷ a) b = omega (arith, weight_append a b)

pub of_append : (n : ℕ) (a b : List (List LatchLiteral)) → AreOfLatches n a → AreOfLatches n b → AreOfLatches n (a ++ b)
of_append n a b p q = record { each = λ i d is. elim (get_either a b i d is) [ inl r ↦ p.each i d r | inr r ↦ q.each r.0 d r.1 ] }

pub of_none : (n : ℕ) → AreOfLatches n []
of_none n = record { each = λ i d is. absurd (let e : ⊥ = cc in e) }

none_small : (n w : ℕ) → AreSmall n w []
none_small n w = record { of = of_none n; small = omega arith }

join_small : (n v w : ℕ) (a b : List (List LatchLiteral)) → AreSmall n v a → AreSmall n w b → AreSmall n (v + w) (a ++ b)
join_small n v w a b p q = record { of = of_append n a b p.of q.of; small = omega (arith, weight_append a b, p.small, q.small) }

more_small : (n v w : ℕ) (a : List (List LatchLiteral)) → v ≤ w → AreSmall n v a → AreSmall n w a
more_small n v w a le p = record { of = p.of; small = omega (arith, p.small, le) }

of_one : (n : ℕ) (d : List LatchLiteral) → IsOfLatches n d → AreOfLatches n (d ∷ [])
of_one n d p = record { each = each n d p }
  where
    each : (n : ℕ) (d : List LatchLiteral) → IsOfLatches n d → (i : ℕ) (e : List LatchLiteral) → slice_get (d ∷ []) i ≡ Some e → IsOfLatches n e
    each n d p zero e is = let same : d ≡ e = cc in subst (IsOfLatches n) same p
    each n d p (suc i) e is = absurd (let f : ⊥ = cc in f)

one_small : (n : ℕ) (x : LatchLiteral) → x.latch < n → AreSmall n 2 ((x ∷ []) ∷ [])
one_small n x p = record { of = of_one n (x ∷ []) (one_of n x p); small = omega arith }

two_small : (n : ℕ) (x y : LatchLiteral) → x.latch < n → y.latch < n → AreSmall n 3 ((x ∷ y ∷ []) ∷ [])
two_small n x y p q = record { of = of_one n (x ∷ y ∷ []) (two_of n x y p q); small = omega arith }

cond_small : (n w : ℕ) (b : Bool) (x y : List (List LatchLiteral)) → AreSmall n w x → AreSmall n w y → AreSmall n w (cond b x y)
cond_small n w true x y p q = p
cond_small n w false x y p q = q

-- of one latch
constant_small : (all : (List Bool → Bool) → Bool) (n k : ℕ) → k < n → AreSmall n 2 (constant_clauses all k)
constant_small all n k lt =
    cond_small n 2 (holds_in_all all (plain k)) ((plain k ∷ []) ∷ []) (cond (holds_in_all all (negated k)) ((negated k ∷ []) ∷ []) []) (one_small n (plain k) lt)
    (cond_small n 2 (holds_in_all all (negated k)) ((negated k ∷ []) ∷ []) [] (one_small n (negated k) lt) (none_small n 2))

relation_small : (n k : ℕ) (p q : Option ℕ) → k < n → IfSome p (λ m. m < k) → IfSome q (λ m. m < k) → AreSmall n 6 (relation_with p q k)
relation_small n k (Some m) q lt f g = join_small n 3 3 ((plain m ∷ negated k ∷ []) ∷ []) ((negated m ∷ plain k ∷ []) ∷ []) (two_small n (plain m) (negated k) (omega arith) lt) (two_small n (negated m) (plain k) (omega arith) lt)
relation_small n k None (Some m) lt f g = join_small n 3 3 ((plain m ∷ plain k ∷ []) ∷ []) ((negated m ∷ negated k ∷ []) ∷ []) (two_small n (plain m) (plain k) (omega arith) lt) (two_small n (negated m) (negated k) (omega arith) lt)
relation_small n k None None lt f g = none_small n 6

pub latch_small : (all : (List Bool → Bool) → Bool) (n k : ℕ) → k < n → AreSmall n 8 (latch_clauses all k)
unfolding latch_clauses relation_clauses
latch_small all n k lt = join_small n 2 6 (constant_clauses all k) (relation_with (least_from (are_equal all k) 1 (k - 1)) (least_from (are_opposite all k) 1 (k - 1)) k) (constant_small all n k lt)
    (relation_small n k (least_from (are_equal all k) 1 (k - 1)) (least_from (are_opposite all k) 1 (k - 1)) lt
    (least_within (are_equal all k) k (least_from (are_equal all k) 1 (k - 1)) refl) (least_within (are_opposite all k) k (least_from (are_opposite all k) 1 (k - 1)) refl))

range_small : (all : (List Bool → Bool) → Bool) (n m count : ℕ) → m + count ≤ n → AreSmall n (8 * count) (flat_map (latch_clauses all) (range_with_len m count))
range_small all n m zero le = none_small n (8 * 0)
range_small all n m (suc count) le = more_small n (8 + 8 * count) (8 * suc count) (flat_map (latch_clauses all) (range_with_len m (suc count))) (omega arith) (join_small n 8 (8 * count) (latch_clauses all m) (flat_map (latch_clauses all) (range_with_len (m + 1) count)) (latch_small all n m (omega arith)) (range_small all n (m + 1) count (omega arith)))

-- of two control latches
pair_small : (all : (List Bool → Bool) → Bool) (n : ℕ) (x y : LatchLiteral) → x.latch < n → y.latch < n → AreSmall n 3 (pair_clause all x y)
unfolding pair_clause
pair_small all n x y p q = cond_small n 3 (one_holds_in_all all x y && (not (holds_in_all all x) && not (holds_in_all all y))) ((x ∷ y ∷ []) ∷ []) [] (two_small n x y p q) (none_small n 3)

pairs_small : (all : (List Bool → Bool) → Bool) (n a b : ℕ) → a < n → b < n → AreSmall n 12 (pair_clauses all a b)
unfolding pair_clauses
pairs_small all n a b p q =
    join_small n 3 9 (pair_clause all (plain a) (plain b)) (pair_clause all (plain a) (negated b) ++ (pair_clause all (negated a) (plain b) ++ pair_clause all (negated a) (negated b))) (pair_small all n (plain a) (plain b) p q)
    (join_small n 3 6 (pair_clause all (plain a) (negated b)) (pair_clause all (negated a) (plain b) ++ pair_clause all (negated a) (negated b)) (pair_small all n (plain a) (negated b) p q)
    (join_small n 3 3 (pair_clause all (negated a) (plain b)) (pair_clause all (negated a) (negated b)) (pair_small all n (negated a) (plain b) p q) (pair_small all n (negated a) (negated b) p q)))

later_small : (all : (List Bool → Bool) → Bool) (n a : ℕ) (later : List ℕ) → a < n → All (λ b. b < n) later → AreSmall n (12 * length later) (flat_map (pair_clauses all a) later)
later_small all n a [] p h = none_small n (12 * 0)
later_small all n a (b ∷ later) p h = more_small n (12 + 12 * length later) (12 * suc (length later)) (flat_map (pair_clauses all a) (b ∷ later)) (omega arith) (join_small n 12 (12 * length later) (pair_clauses all a b) (flat_map (pair_clauses all a) later) (pairs_small all n a b p (h 0 b (omega arith))) (later_small all n a later p (λ k d lt. h (suc k) d (omega arith))))

control_small : (all : (List Bool → Bool) → Bool) (n : ℕ) (control : List ℕ) → length control ≤ 48 → All (λ b. b < n) control → AreSmall n (576 * length control) (control_clauses all control)
control_small all n [] le h = none_small n (576 * 0)
control_small all n (a ∷ more) le h = more_small n (12 * length more + 576 * length more) (576 * suc (length more)) (control_clauses all (a ∷ more)) (omega arith) (join_small n (12 * length more) (576 * length more) (flat_map (pair_clauses all a) more) (control_clauses all more)
    (later_small all n a more (h 0 a (omega arith)) (λ k d lt. h (suc k) d (omega arith)))
    (control_small all n more (omega arith) (λ k d lt. h (suc k) d (omega arith))))

-- clauses that are there already are left out
new_small : (n v w : ℕ) (list ds : List (List LatchLiteral)) → AreSmall n v list → AreSmall n w ds → AreSmall n (v + w) (with_new list ds)
new_small n v w list [] p q = more_small n v (v + w) list (omega arith) p
new_small n v w list (d ∷ ds) p q = by_test n v w list d ds (is_there d list) p q (λ u l r s. new_small n u (w - (1 + length d)) l ds r s)
  where
    rest : (n w : ℕ) (d : List LatchLiteral) (ds : List (List LatchLiteral)) → AreSmall n w (d ∷ ds) → AreSmall n (w - (1 + length d)) ds
    rest n w d ds q = record { of = record { each = λ i e is. q.of.each (suc i) e is }; small = omega (arith, q.small) }

    first : (n w : ℕ) (d : List LatchLiteral) (ds : List (List LatchLiteral)) → AreSmall n w (d ∷ ds) → AreSmall n (1 + length d) (d ∷ [])
    first n w d ds q = record { of = of_one n d (q.of.each 0 d refl); small = omega arith }

    enough : (n w : ℕ) (d : List LatchLiteral) (ds : List (List LatchLiteral)) → AreSmall n w (d ∷ ds) → 1 + length d ≤ w
    enough n w d ds q = omega (arith, q.small)

    by_test : (n v w : ℕ) (list : List (List LatchLiteral)) (d : List LatchLiteral) (ds : List (List LatchLiteral)) (b : Bool) → AreSmall n v list → AreSmall n w (d ∷ ds) → ((u : ℕ) (l : List (List LatchLiteral)) → AreSmall n u l → AreSmall n (w - (1 + length d)) ds → AreSmall n (u + (w - (1 + length d))) (with_new l ds)) → AreSmall n (v + w) (with_new (cond b list (list ++ d ∷ [])) ds)
    by_test n v w list d ds true p q more = more_small n (v + (w - (1 + length d))) (v + w) (with_new list ds) (omega (arith, enough n w d ds q)) (more v list p (rest n w d ds q))
    by_test n v w list d ds false p q more = more_small n (v + (1 + length d) + (w - (1 + length d))) (v + w) (with_new (list ++ d ∷ []) ds) (omega (arith, enough n w d ds q)) (more (v + (1 + length d)) (list ++ d ∷ []) (join_small n v (1 + length d) list (d ∷ []) p (first n w d ds q)) (rest n w d ds q))

below_of : (n : ℕ) (control : List ℕ) → All (λ b. (0 < b) × (b < n)) control → All (λ b. b < n) control
below_of n control h k d lt = (h k d lt).1

by_small : (all : (List Bool → Bool) → Bool) (n : ℕ) (control : List ℕ) → 1 ≤ n → length control ≤ 48 → All (λ b. b < n) control → AreSmall n (8 * n + 27648) (candidates_by all n control)
unfolding candidates_by
by_small all n control some le h =
    let first : AreSmall n (8 * (n - 1)) (flat_map (latch_clauses all) (range_with_len 1 (n - 1))) = range_small all n 1 (n - 1) (omega arith) in
    let second : AreSmall n (576 * length control) (control_clauses all control) = control_small all n control le h in
    cond_small n (8 * n + 27648) (all (λ _. false)) [] (with_new [] (flat_map (latch_clauses all) (range_with_len 1 (n - 1)) ++ control_clauses all control)) (none_small n (8 * n + 27648))
    (more_small n (0 + (8 * (n - 1) + 576 * length control)) (8 * n + 27648) (with_new [] (flat_map (latch_clauses all) (range_with_len 1 (n - 1)) ++ control_clauses all control)) (omega arith)
    (new_small n 0 (8 * (n - 1) + 576 * length control) [] (flat_map (latch_clauses all) (range_with_len 1 (n - 1)) ++ control_clauses all control) (none_small n 0) (join_small n (8 * (n - 1)) (576 * length control) (flat_map (latch_clauses all) (range_with_len 1 (n - 1))) (control_clauses all control) first second)))

pub candidates_askable : (c : Circuit) (seed : ℕ) → IsAskable c (candidates c seed)
candidates_askable c seed =
    let first = starts_at_zero c.latches.items c.live in
    let some : 0 < length c.latches.items = slice_get_within c.latches.items 0 first.0 first.1.0 in
    let all : AreSmall (length c.latches.items) (8 * length c.latches.items + 27648) (candidates c seed) = by_small (in_all_samples c seed) (length c.latches.items) c.control.items (omega (arith, some)) c.control_few (below_of (length c.latches.items) c.control.items c.control_latches) in
    record { of = all.of; small = omega (arith, all.small, latches_within c.graph, c.latched, c.few) }
