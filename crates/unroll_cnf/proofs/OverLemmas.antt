-- The literals of a query are of its variables, and it has few clauses.
use Rattle.std.proofs.Common.{◌≡◌, ℕ, zero, suc, ◌+◌, ◌-◌, ◌*◌, ◌/◌, ◌^◌, ◌<◌, ◌≤◌, Bool, true, false, eqb, cond, List, [], ◌∷◌, ◌++◌, length, map, slice_get, get_or, Option, Some, None, refl, ap, sym, inl, inr, arith, length-append, true≢false}
use Rattle.std.specs.List.{list_any}
use Rattle.std.proofs.Math.Nat.{mul-le-mul}
use Rattle.std.proofs.lemmas.Bool.{or_cases, eqb-true}
use Rattle.std.proofs.lemmas.List.{length-map}
use Rattle.std.proofs.lemmas.Option.{slice_get_within, slice_get-get_or}
use Rattle.lemma_checker.specs.declared.literal.Literal.{Literal}
use Rattle.lemma_checker.specs.Clauses.{has, IsOver, AreOver}
use Rattle.gate_graph.specs.declared.wires.Wire.{Wire}
use Rattle.gate_graph.specs.declared.nodes.Node.{Node}
use Rattle.gate_graph.specs.declared.nodes.Node.TheVariants as node
use Rattle.gate_graph.specs.declared.parts.Start.{Start}
use Rattle.gate_graph.specs.declared.parts.Start.TheVariants as start
use Rattle.gate_graph.specs.declared.parts.Latch.{Latch}
use Rattle.gate_graph.specs.declared.circuits.Circuit.{Circuit}
use Rattle.gate_graph.specs.Gates.{IsLow}
use Rattle.gate_graph.proofs.GraphLemmas.{node_low}
use Rattle.unroll_cnf.specs.declared.latch_literal.LatchLiteral.{LatchLiteral}
use Rattle.unroll_cnf.specs.Latches.{not_live, is_not_live, weakened, IsOfLatches, AreOfLatches, weight}
use Rattle.unroll_cnf.specs.Queries.{plain, negated, denied, signed, literal_at, offset, within, base_cones, step_cones, keep_cones, gate_clauses, same_clauses, next_clauses, latch_clauses, first_clauses, starting, start_clauses, edge_clauses, link_clauses, starts_clauses, run_clauses, good_clauses, base_clauses, latch_places, latch_literal, set_clause, step_clauses, no_latch, next_literal, broken_clauses, all_broken, some_of, keep_clauses}
use Rattle.unroll_cnf.proofs.EachLemmas.{Each, each_nil, each_cons, each_one, each_append, each_map, node_all, node_count}
use Rattle.unroll_cnf.proofs.LiteralLemmas.{opposite_variable}
use Rattle.unroll_cnf.proofs.FrameLemmas.{graph_of, next_of, within_from}
use Rattle.unroll_cnf.proofs.SetLemmas.{weakened_latches}
use Rattle.unroll_cnf.proofs.DistinctLemmas.{place_below}

pub over_from_each : (vars : ℕ) (clauses : List (List Literal)) → Each (IsOver vars) clauses → AreOver vars clauses
over_from_each vars clauses e = record { each = λ i c is. e.each i c is }

-- the variable of a literal is one of the formula's
abbrev InRange : ℕ → Literal → Type 0
InRange vars l = (1 ≤ l.0 / 2) × (l.0 / 2 ≤ vars)

over_nil : (vars : ℕ) → IsOver vars []
over_nil vars = record { low = λ l h. absurd (true≢false (sym h)); high = λ l h. absurd (true≢false (sym h)) }

over_cons : (vars : ℕ) (x : Literal) (xs : List Literal) → InRange vars x → IsOver vars xs → IsOver vars (x ∷ xs)
over_cons vars x xs r o = record {
  low = λ l h. elim (or_cases (eqb x.0 l) (has l xs) h) [ inl here ↦ omega (arith, eqb-true x.0 l here, r.0) | inr later ↦ o.low l later ];
  high = λ l h. elim (or_cases (eqb x.0 l) (has l xs) h) [ inl here ↦ omega (arith, eqb-true x.0 l here, r.1) | inr later ↦ o.high l later ];
}

over_one : (vars : ℕ) (x : Literal) → InRange vars x → IsOver vars (x ∷ [])
over_one vars x r = over_cons vars x [] r (over_nil vars)

over_two : (vars : ℕ) (x y : Literal) → InRange vars x → InRange vars y → IsOver vars (x ∷ y ∷ [])
over_two vars x y r s = over_cons vars x (y ∷ []) r (over_one vars y s)

over_map : {X : Type 0} (vars : ℕ) (f : X → Literal) (xs : List X) → ((i : ℕ) (x : X) → slice_get xs i ≡ Some x → InRange vars (f x)) → IsOver vars (map f xs)
over_map vars f [] h = over_nil vars
over_map vars f (x ∷ xs) h = over_cons vars (f x) (map f xs) (h 0 x refl) (over_map vars f xs (λ i y is. h (suc i) y is))

plain_in : (vars n : ℕ) → 1 ≤ n → n ≤ vars → InRange vars (plain n)
plain_in vars n p q = (omega arith, omega arith)

negated_in : (vars n : ℕ) → 1 ≤ n → n ≤ vars → InRange vars (negated n)
negated_in vars n p q = (omega arith, omega arith)

denied_in : (vars : ℕ) (l : Literal) → InRange vars l → InRange vars (denied l)
denied_in vars l r = (omega (arith, opposite_variable l.0, r.0), omega (arith, opposite_variable l.0, r.1))

signed_in : (vars : ℕ) (b : Bool) (l : Literal) → InRange vars l → InRange vars (signed b l)
signed_in vars true l r = denied_in vars l r
signed_in vars false l r = r

wire_in : (vars k i : ℕ) (w : Wire) → w.0 < 2 * i → 1 ≤ k → i + k ≤ vars + 1 → InRange vars (literal_at k w)
wire_in vars k i w lt p q = (omega arith, omega arith)

-- one edge
gate_over : (vars k i : ℕ) (n : Node) → IsLow i n → 1 ≤ k → i + k ≤ vars → Each (IsOver vars) (gate_clauses k i n)
gate_over vars k i node.Zero low p q = each_one (IsOver vars) (negated (i + k) ∷ []) (over_one vars (negated (i + k)) (negated_in vars (i + k) (omega arith) q))
gate_over vars k i (node.Latch n) low p q = each_nil (IsOver vars)
gate_over vars k i (node.Input n) low p q = each_nil (IsOver vars)
gate_over vars k i (node.And a b) low p q =
    let here : InRange vars (negated (i + k)) = negated_in vars (i + k) (omega arith) q in
    let left : InRange vars (literal_at k a) = wire_in vars k i a low.0 p (omega arith) in
    let right : InRange vars (literal_at k b) = wire_in vars k i b low.1 p (omega arith) in
    each_cons (IsOver vars) _ _ (over_two vars (negated (i + k)) (literal_at k a) here left)
    (each_cons (IsOver vars) _ _ (over_two vars (negated (i + k)) (literal_at k b) here right)
    (each_one (IsOver vars) _ (over_cons vars (plain (i + k)) (denied (literal_at k a) ∷ denied (literal_at k b) ∷ []) (plain_in vars (i + k) (omega arith) q) (over_two vars (denied (literal_at k a)) (denied (literal_at k b)) (denied_in vars (literal_at k a) left) (denied_in vars (literal_at k b) right)))))

edge_over : (c : Circuit) (set : ℕ → Bool) (t vars : ℕ) → (t + 1) * length c.graph ≤ vars → Each (IsOver vars) (edge_clauses c set t)
edge_over c set t vars le = node_all (IsOver vars) (within set (gate_clauses (offset c t))) c.graph (λ j n h. within_from (IsOver vars) (set j) (gate_clauses (offset c t) j n) (λ m. gate_over vars (offset c t) j n (node_low c.graph j n (graph_of c) h) (omega arith) (omega (arith, slice_get_within c.graph j n h))))

same_over : (vars n : ℕ) (l : Literal) → 1 ≤ n → n ≤ vars → InRange vars l → Each (IsOver vars) (same_clauses n l)
same_over vars n l p q r =
    each_cons (IsOver vars) _ _ (over_two vars (negated n) l (negated_in vars n p q) r)
    (each_one (IsOver vars) _ (over_two vars (plain n) (denied l) (plain_in vars n p q) (denied_in vars l r)))

next_over : (vars k n nodes : ℕ) (o : Option Latch) → ((l : Latch) → o ≡ Some l → l.next.0 < 2 * nodes) → 1 ≤ k → nodes + k ≤ vars + 1 → 1 ≤ n → n ≤ vars → Each (IsOver vars) (next_clauses k n o)
next_over vars k n nodes None of p q r s = each_nil (IsOver vars)
next_over vars k n nodes (Some l) of p q r s = same_over vars n (literal_at k l.next) r s (wire_in vars k nodes l.next (of l refl) p q)

link_node_over : (c : Circuit) (t vars : ℕ) → (t + 2) * length c.graph ≤ vars → (j : ℕ) (n : Node) → slice_get c.graph j ≡ Some n → Each (IsOver vars) (latch_clauses c.latches.items (offset c t) (offset c (t + 1)) j n)
link_node_over c t vars le j node.Zero h = each_nil (IsOver vars)
link_node_over c t vars le j (node.Latch n) h =
    let lt : j < length c.graph = slice_get_within c.graph j (node.Latch n) h in
    next_over vars (offset c t) (j + offset c (t + 1)) (length c.graph) (slice_get c.latches.items n) (λ l is. next_of c n l is) (omega arith) (omega arith) (omega arith) (omega arith)
link_node_over c t vars le j (node.Input n) h = each_nil (IsOver vars)
link_node_over c t vars le j (node.And a b) h = each_nil (IsOver vars)

link_over : (c : Circuit) (set : ℕ → Bool) (t vars : ℕ) → (t + 2) * length c.graph ≤ vars → Each (IsOver vars) (link_clauses c set t)
link_over c set t vars le = node_all (IsOver vars) (within set (latch_clauses c.latches.items (offset c t) (offset c (t + 1)))) c.graph (λ j n h. within_from (IsOver vars) (set j) (latch_clauses c.latches.items (offset c t) (offset c (t + 1)) j n) (λ m. link_node_over c t vars le j n h))

first_over : (vars n : ℕ) (s : Start) → 1 ≤ n → n ≤ vars → Each (IsOver vars) (first_clauses n s)
first_over vars n start.Zero p q = each_one (IsOver vars) (negated n ∷ []) (over_one vars (negated n) (negated_in vars n p q))
first_over vars n start.One p q = each_one (IsOver vars) (plain n ∷ []) (over_one vars (plain n) (plain_in vars n p q))
first_over vars n start.Free p q = each_nil (IsOver vars)

starting_over : (vars n : ℕ) (o : Option Latch) → 1 ≤ n → n ≤ vars → Each (IsOver vars) (starting n o)
starting_over vars n None p q = each_nil (IsOver vars)
starting_over vars n (Some l) p q = first_over vars n l.start p q

start_node_over : (c : Circuit) (vars : ℕ) → length c.graph ≤ vars → (j : ℕ) (n : Node) → slice_get c.graph j ≡ Some n → Each (IsOver vars) (start_clauses c.latches.items (offset c 0) j n)
start_node_over c vars le j node.Zero h = each_nil (IsOver vars)
start_node_over c vars le j (node.Latch n) h =
    let lt : j < length c.graph = slice_get_within c.graph j (node.Latch n) h in
    starting_over vars (j + offset c 0) (slice_get c.latches.items n) (omega arith) (omega arith)
start_node_over c vars le j (node.Input n) h = each_nil (IsOver vars)
start_node_over c vars le j (node.And a b) h = each_nil (IsOver vars)

starts_over : (c : Circuit) (vars : ℕ) → length c.graph ≤ vars → Each (IsOver vars) (starts_clauses c)
starts_over c vars le = node_all (IsOver vars) (start_clauses c.latches.items (offset c 0)) c.graph (start_node_over c vars le)

-- runs
run_over : (c : Circuit) (cones : ℕ → ℕ → Bool) (t vars : ℕ) → (t + 1) * length c.graph ≤ vars → Each (IsOver vars) (run_clauses c cones t)
run_over c cones zero vars le = edge_over c (cones 0) 0 vars le
run_over c cones (suc t) vars le =
    each_append (IsOver vars) (run_clauses c cones t) (link_clauses c (cones (t + 1)) t ++ edge_clauses c (cones (t + 1)) (t + 1))
    (run_over c cones t vars (omega arith))
    (each_append (IsOver vars) (link_clauses c (cones (t + 1)) t) (edge_clauses c (cones (t + 1)) (t + 1))
    (link_over c (cones (t + 1)) t vars (omega arith))
    (edge_over c (cones (t + 1)) (t + 1) vars (omega arith)))

bad_in : (c : Circuit) (t vars : ℕ) → (t + 1) * length c.graph ≤ vars → InRange vars (literal_at (offset c t) c.bad)
bad_in c t vars le = wire_in vars (offset c t) (length c.graph) c.bad c.bad_of (omega arith) (omega arith)

good_over : (c : Circuit) (k vars : ℕ) → k * length c.graph ≤ vars → Each (IsOver vars) (good_clauses c k)
good_over c zero vars le = each_nil (IsOver vars)
good_over c (suc k) vars le =
    each_append (IsOver vars) (good_clauses c k) ((denied (literal_at (offset c k) c.bad) ∷ []) ∷ [])
    (good_over c k vars (omega arith))
    (each_one (IsOver vars) _ (over_one vars (denied (literal_at (offset c k) c.bad)) (denied_in vars (literal_at (offset c k) c.bad) (bad_in c k vars (omega arith)))))

edges_up : (k n : ℕ) → 1 ≤ k → (k - 1 + 1) * n ≡ k * n
edges_up k n le = let e : k - 1 + 1 ≡ k = omega arith in ap (λ m. m * n) e

nodes_up : (k n : ℕ) → 1 ≤ k → n ≤ k * n
nodes_up zero n le = absurd (omega arith)
nodes_up (suc k) n le = omega arith

pub base_over : (c : Circuit) (k : ℕ) → 1 ≤ k → AreOver (k * length c.graph) (base_clauses c k)
unfolding base_clauses
base_over c k some =
    let vars : ℕ = k * length c.graph in
    let long : (k - 1 + 1) * length c.graph ≤ vars = omega (arith, edges_up k (length c.graph) some) in
    over_from_each vars _
    (each_append (IsOver vars) (starts_clauses c) (run_clauses c (base_cones c k) (k - 1) ++ (literal_at (offset c (k - 1)) c.bad ∷ []) ∷ [])
    (starts_over c vars (nodes_up k (length c.graph) some))
    (each_append (IsOver vars) (run_clauses c (base_cones c k) (k - 1)) ((literal_at (offset c (k - 1)) c.bad ∷ []) ∷ [])
    (run_over c (base_cones c k) (k - 1) vars long)
    (each_one (IsOver vars) _ (over_one vars (literal_at (offset c (k - 1)) c.bad) (bad_in c (k - 1) vars long)))))

-- sets
latch_in : (c : Circuit) (vars : ℕ) (l : LatchLiteral) → length c.graph ≤ vars → l.latch < length c.latches.items → InRange vars (latch_literal c (offset c 0) l)
unfolding latch_literal
latch_in c vars l le lt = signed_in vars l.negated (plain (get_or (latch_places 0 c.graph) l.latch 0 + offset c 0)) (plain_in vars (get_or (latch_places 0 c.graph) l.latch 0 + offset c 0) (omega arith) (omega (arith, place_below c l.latch lt)))

set_over : (c : Circuit) (vars : ℕ) (set : List (List LatchLiteral)) → length c.graph ≤ vars → AreOfLatches (length c.latches.items) set → Each (IsOver vars) (map (set_clause c (offset c 0)) set)
set_over c vars set le of = each_map (IsOver vars) (set_clause c (offset c 0)) set (λ i d is.
    let wide : IsOfLatches (length c.latches.items) (weakened d) = weakened_latches c d (of.each i d is) in
    over_map vars (latch_literal c (offset c 0)) (weakened d) (λ j l there. latch_in c vars l le (wide.each j l there)))

pub step_over : (c : Circuit) (set : List (List LatchLiteral)) (k : ℕ) → AreOfLatches (length c.latches.items) set → AreOver ((k + 1) * length c.graph) (step_clauses c set k)
unfolding step_clauses
step_over c set k of =
    let vars : ℕ = (k + 1) * length c.graph in
    over_from_each vars _
    (each_append (IsOver vars) (map (set_clause c (offset c 0)) set) (run_clauses c (step_cones c k) k ++ (good_clauses c k ++ (literal_at (offset c k) c.bad ∷ []) ∷ []))
    (set_over c vars set (omega arith) of)
    (each_append (IsOver vars) (run_clauses c (step_cones c k) k) (good_clauses c k ++ (literal_at (offset c k) c.bad ∷ []) ∷ [])
    (run_over c (step_cones c k) k vars (omega arith))
    (each_append (IsOver vars) (good_clauses c k) ((literal_at (offset c k) c.bad ∷ []) ∷ [])
    (good_over c k vars (omega arith))
    (each_one (IsOver vars) _ (over_one vars (literal_at (offset c k) c.bad) (bad_in c k vars (omega arith)))))))

next_in : (c : Circuit) (vars : ℕ) (l : LatchLiteral) → length c.graph ≤ vars → l.latch < length c.latches.items → InRange vars (next_literal c (offset c 0) l)
unfolding next_literal
next_in c vars l le lt =
    let latch : Latch = get_or c.latches.items l.latch no_latch in
    signed_in vars l.negated (literal_at (offset c 0) latch.next) (wire_in vars (offset c 0) (length c.graph) latch.next (next_of c l.latch latch (slice_get-get_or c.latches.items l.latch no_latch lt)) (omega arith) (omega arith))

broken_over : (c : Circuit) (vars y : ℕ) (d : List LatchLiteral) → length c.graph ≤ vars → 1 ≤ y → y ≤ vars → IsOfLatches (length c.latches.items) d → Each (IsOver vars) (broken_clauses c (offset c 0) y d)
broken_over c vars y d le p q of =
    let wide : IsOfLatches (length c.latches.items) (weakened d) = weakened_latches c d of in
    each_map (IsOver vars) (λ (l : LatchLiteral). negated y ∷ denied (next_literal c (offset c 0) l) ∷ []) (weakened d) (λ j l there.
    over_two vars (negated y) (denied (next_literal c (offset c 0) l)) (negated_in vars y p q) (denied_in vars (next_literal c (offset c 0) l) (next_in c vars l le (wide.each j l there))))

all_broken_over : (c : Circuit) (vars y : ℕ) (set : List (List LatchLiteral)) → length c.graph ≤ vars → 1 ≤ y → y + length set ≤ vars + 1 → AreOfLatches (length c.latches.items) set → Each (IsOver vars) (all_broken c (offset c 0) y set)
all_broken_over c vars y [] le p q of = each_nil (IsOver vars)
all_broken_over c vars y (d ∷ ds) le p q of =
    each_append (IsOver vars) (broken_clauses c (offset c 0) y d) (all_broken c (offset c 0) (y + 1) ds)
    (broken_over c vars y d le p (omega arith) (of.each 0 d refl))
    (all_broken_over c vars (y + 1) ds le (omega arith) (omega arith) (record { each = λ i z is. of.each (suc i) z is }))

some_over : (vars y : ℕ) (set : List (List LatchLiteral)) → 1 ≤ y → y + length set ≤ vars + 1 → IsOver vars (some_of y set)
some_over vars y [] p q = over_nil vars
some_over vars y (d ∷ ds) p q = over_cons vars (plain y) (some_of (y + 1) ds) (plain_in vars y p (omega arith)) (some_over vars (y + 1) ds (omega arith) (omega arith))

pub keep_over : (c : Circuit) (set : List (List LatchLiteral)) → AreOfLatches (length c.latches.items) set → AreOver (length c.graph + length set) (keep_clauses c set)
unfolding keep_clauses
keep_over c set of =
    let vars : ℕ = length c.graph + length set in
    over_from_each vars _
    (each_append (IsOver vars) (run_clauses c (keep_cones c set) 0) (map (set_clause c (offset c 0)) set ++ (all_broken c (offset c 0) (offset c 1) set ++ some_of (offset c 1) set ∷ []))
    (run_over c (keep_cones c set) 0 vars (omega arith))
    (each_append (IsOver vars) (map (set_clause c (offset c 0)) set) (all_broken c (offset c 0) (offset c 1) set ++ some_of (offset c 1) set ∷ [])
    (set_over c vars set (omega arith) of)
    (each_append (IsOver vars) (all_broken c (offset c 0) (offset c 1) set) (some_of (offset c 1) set ∷ [])
    (all_broken_over c vars (offset c 1) set (omega arith) (omega arith) (omega arith) of)
    (each_one (IsOver vars) _ (some_over vars (offset c 1) set (omega arith) (omega arith))))))

-- how many clauses there are
gate_count : (k i : ℕ) (n : Node) → length (gate_clauses k i n) ≤ 3
gate_count k i node.Zero = omega arith
gate_count k i (node.Latch n) = omega arith
gate_count k i (node.Input n) = omega arith
gate_count k i (node.And a b) = omega arith

next_count : (k n : ℕ) (o : Option Latch) → length (next_clauses k n o) ≤ 2
next_count k n None = omega arith
next_count k n (Some l) = omega arith

latch_count_of : (latches : List Latch) (k m i : ℕ) (n : Node) → length (latch_clauses latches k m i n) ≤ 2
latch_count_of latches k m i node.Zero = omega arith
latch_count_of latches k m i (node.Latch n) = next_count k (i + m) (slice_get latches n)
latch_count_of latches k m i (node.Input n) = omega arith
latch_count_of latches k m i (node.And a b) = omega arith

first_count : (n : ℕ) (s : Start) → length (first_clauses n s) ≤ 1
first_count n start.Zero = omega arith
first_count n start.One = omega arith
first_count n start.Free = omega arith

starting_count : (n : ℕ) (o : Option Latch) → length (starting n o) ≤ 1
starting_count n None = omega arith
starting_count n (Some l) = first_count n l.start

start_count_of : (latches : List Latch) (k i : ℕ) (n : Node) → length (start_clauses latches k i n) ≤ 1
start_count_of latches k i node.Zero = omega arith
start_count_of latches k i (node.Latch n) = starting_count (i + k) (slice_get latches n)
start_count_of latches k i (node.Input n) = omega arith
start_count_of latches k i (node.And a b) = omega arith

within_count : (set : ℕ → Bool) (f : ℕ → Node → List (List Literal)) (b : ℕ) → ((i : ℕ) (n : Node) → length (f i n) ≤ b) → (i : ℕ) (n : Node) → length (within set f i n) ≤ b
within_count set f b few i n = cond_count (set i) (f i n) b (few i n)
  where
    cond_count : (s : Bool) (cs : List (List Literal)) (b : ℕ) → length cs ≤ b → length (cond s cs []) ≤ b
    cond_count true cs b le = le
    cond_count false cs b le = omega arith

edge_count : (c : Circuit) (set : ℕ → Bool) (t : ℕ) → length (edge_clauses c set t) ≤ 3 * length c.graph
edge_count c set t = node_count (within set (gate_clauses (offset c t))) 3 (within_count set (gate_clauses (offset c t)) 3 (gate_count (offset c t))) 0 c.graph

link_count : (c : Circuit) (set : ℕ → Bool) (t : ℕ) → length (link_clauses c set t) ≤ 2 * length c.graph
link_count c set t = node_count (within set (latch_clauses c.latches.items (offset c t) (offset c (t + 1)))) 2 (within_count set (latch_clauses c.latches.items (offset c t) (offset c (t + 1))) 2 (latch_count_of c.latches.items (offset c t) (offset c (t + 1)))) 0 c.graph

starts_count : (c : Circuit) → length (starts_clauses c) ≤ 1 * length c.graph
starts_count c = node_count (start_clauses c.latches.items (offset c 0)) 1 (start_count_of c.latches.items (offset c 0)) 0 c.graph

run_count : (c : Circuit) (cones : ℕ → ℕ → Bool) (t : ℕ) → length (run_clauses c cones t) ≤ 5 * ((t + 1) * length c.graph)
run_count c cones zero = omega (arith, edge_count c (cones 0) 0)
run_count c cones (suc t) = omega (arith, run_count c cones t, link_count c (cones (t + 1)) t, edge_count c (cones (t + 1)) (t + 1), length-append (run_clauses c cones t) (link_clauses c (cones (t + 1)) t ++ edge_clauses c (cones (t + 1)) (t + 1)), length-append (link_clauses c (cones (t + 1)) t) (edge_clauses c (cones (t + 1)) (t + 1)))

good_count : (c : Circuit) (k : ℕ) → length (good_clauses c k) ≡ k
good_count c zero = refl
good_count c (suc k) = omega (arith, good_count c k, length-append (good_clauses c k) ((denied (literal_at (offset c k) c.bad) ∷ []) ∷ []))

edges_bound : (c : Circuit) (t : ℕ) → t ≤ 33 → t * length c.graph ≤ 33 * 2 ^ 20
edges_bound c t le = mul-le-mul le c.few

pub base_few : (c : Circuit) (k : ℕ) → 1 ≤ k → k ≤ 32 → length (base_clauses c k) < 2 ^ 30
unfolding base_clauses
base_few c k some le = omega (arith, c.few, starts_count c, run_count c (base_cones c k) (k - 1), edges_up k (length c.graph) some, edges_bound c k (omega arith), length-append (starts_clauses c) (run_clauses c (base_cones c k) (k - 1) ++ (literal_at (offset c (k - 1)) c.bad ∷ []) ∷ []), length-append (run_clauses c (base_cones c k) (k - 1)) ((literal_at (offset c (k - 1)) c.bad ∷ []) ∷ []))

pub set_few : (set : List (List LatchLiteral)) → length set ≤ weight set
set_few [] = omega arith
set_few (d ∷ ds) = omega (arith, set_few ds)

pub step_few : (c : Circuit) (set : List (List LatchLiteral)) (k : ℕ) → k ≤ 32 → weight set ≤ 2 ^ 28 → length (step_clauses c set k) < 2 ^ 30
unfolding step_clauses
step_few c set k le small = omega (arith, set_few set, run_count c (step_cones c k) k, good_count c k, edges_bound c (k + 1) (omega arith), length-map set (set_clause c (offset c 0)), length-append (map (set_clause c (offset c 0)) set) (run_clauses c (step_cones c k) k ++ (good_clauses c k ++ (literal_at (offset c k) c.bad ∷ []) ∷ [])), length-append (run_clauses c (step_cones c k) k) (good_clauses c k ++ (literal_at (offset c k) c.bad ∷ []) ∷ []), length-append (good_clauses c k) ((literal_at (offset c k) c.bad ∷ []) ∷ []))

weakened_few : (d : List LatchLiteral) (b : Bool) → length (cond b d (not_live ∷ d)) ≤ 1 + length d
weakened_few d true = omega arith
weakened_few d false = omega arith

weakened_count : (d : List LatchLiteral) → length (weakened d) ≤ 1 + length d
unfolding weakened
weakened_count d = weakened_few d (list_any is_not_live d)

all_broken_count : (c : Circuit) (k y : ℕ) (set : List (List LatchLiteral)) → length (all_broken c k y set) ≤ weight set
all_broken_count c k y [] = omega arith
all_broken_count c k y (d ∷ ds) = omega (arith, weakened_count d, length-map (weakened d) (λ (l : LatchLiteral). negated y ∷ denied (next_literal c k l) ∷ []), all_broken_count c k (y + 1) ds, length-append (broken_clauses c k y d) (all_broken c k (y + 1) ds))

pub keep_few : (c : Circuit) (set : List (List LatchLiteral)) → weight set ≤ 2 ^ 28 → length (keep_clauses c set) < 2 ^ 30
unfolding keep_clauses
keep_few c set small = omega (arith, c.few, set_few set, run_count c (keep_cones c set) 0, all_broken_count c (offset c 0) (offset c 1) set, length-map set (set_clause c (offset c 0)), length-append (run_clauses c (keep_cones c set) 0) (map (set_clause c (offset c 0)) set ++ (all_broken c (offset c 0) (offset c 1) set ++ some_of (offset c 1) set ∷ [])), length-append (map (set_clause c (offset c 0)) set) (all_broken c (offset c 0) (offset c 1) set ++ some_of (offset c 1) set ∷ []), length-append (all_broken c (offset c 0) (offset c 1) set) (some_of (offset c 1) set ∷ []))
