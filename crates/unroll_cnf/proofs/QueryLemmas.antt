-- What each query means, and the assignment of each run.
use Rattle.std.proofs.Common.{◌≡◌, ℕ, ◌+◌, ◌-◌, ◌*◌, ◌/◌, ◌%◌, ◌<◌, ◌≤◌, Bool, true, false, not, cond, List, [], ◌∷◌, ◌++◌, length, map, slice_get, get_or, Some, refl, ap, sym, ◌∙◌, subst, arith, ltb, true≢false}
use Rattle.std.proofs.lemmas.Bool.{lt-ltb, le-ltb}
use Rattle.std.proofs.lemmas.Nat.{div-mul-add, mod-mul-add}
use Rattle.std.proofs.lemmas.Option.{slice_get_within, slice_get-get_or, get_or_from_slice_get}
use Rattle.lemma_checker.specs.declared.literal.Literal.{Literal}
use Rattle.lemma_checker.specs.Clauses.{Solves}
use Rattle.gate_graph.specs.declared.nodes.Node.TheVariants as node
use Rattle.gate_graph.specs.declared.circuits.Circuit.{Circuit}
use Rattle.gate_graph.specs.Values.{value}
use Rattle.gate_graph.specs.Runs.{next_state}
use Rattle.gate_graph.proofs.ValueLemmas.{value_is}
use Rattle.unroll_cnf.specs.declared.latch_literal.LatchLiteral.{LatchLiteral}
use Rattle.unroll_cnf.specs.Latches.{meets, weakened, IsOfLatches, AreOfLatches}
use Rattle.unroll_cnf.specs.Runs.{state_at, IsBaseRun, IsStepRun, IsKeepRun}
use Rattle.unroll_cnf.specs.Queries.{literal_at, offset, base_cones, step_cones, keep_cones, starts_clauses, run_clauses, good_clauses, base_clauses, set_clause, step_clauses, all_broken, some_of, keep_clauses}
use Rattle.unroll_cnf.specs.Meaning.{frame, StandsFor, Follows, first_state, inputs_at, run_inputs, StandsForA, IsStoodFor, StandsForKeep}
use Rattle.unroll_cnf.proofs.EachLemmas.{Each, IsTrueIn, each_from_solves, solves_from_each, each_one, each_append, each_left, each_right}
use Rattle.unroll_cnf.proofs.FrameLemmas.{starts_to, starts_from, graph_of, next_of, latch_value_is}
use Rattle.unroll_cnf.proofs.ConeLemmas.{base_closed, step_closed, keep_closed, base_bad, step_bad, set_cone_next}
use Rattle.unroll_cnf.proofs.RunLemmas.{moves_to, moves_from, stands_for, follows_run, moves_of, length-run_inputs, bad_to, bad_from, good_to, good_from, start_to, start_from}
use Rattle.unroll_cnf.proofs.SetLemmas.{HasState, HasNext, next_value, weakened_latches, set_to, set_from, all_broken_to, all_broken_from, IsNamed, some_to, some_from, IsUnmet, unmet_of}

abbrev bad_clause : Circuit → ℕ → List (List Literal)
bad_clause c t = (literal_at (offset c t) c.bad ∷ []) ∷ []

-- the base query
base_later : (c : Circuit) (v : ℕ → Bool) (k : ℕ) → Solves v (base_clauses c k) → Each (IsTrueIn v) (starts_clauses c) × Each (IsTrueIn v) (run_clauses c (base_cones c k) (k - 1)) × Each (IsTrueIn v) (bad_clause c (k - 1))
unfolding base_clauses
base_later c v k solves =
    let e : Each (IsTrueIn v) (starts_clauses c ++ (run_clauses c (base_cones c k) (k - 1) ++ bad_clause c (k - 1))) = each_from_solves v _ solves in
    let later : Each (IsTrueIn v) (run_clauses c (base_cones c k) (k - 1) ++ bad_clause c (k - 1)) = each_right (IsTrueIn v) (starts_clauses c) (run_clauses c (base_cones c k) (k - 1) ++ bad_clause c (k - 1)) e in (
      each_left (IsTrueIn v) (starts_clauses c) (run_clauses c (base_cones c k) (k - 1) ++ bad_clause c (k - 1)) e,
      each_left (IsTrueIn v) (run_clauses c (base_cones c k) (k - 1)) (bad_clause c (k - 1)) later,
      each_right (IsTrueIn v) (run_clauses c (base_cones c k) (k - 1)) (bad_clause c (k - 1)) later,
    )

pub base_follows : (c : Circuit) (v : ℕ → Bool) (k : ℕ) → 1 ≤ k → Solves v (base_clauses c k) → Follows c (base_cones c k) v (first_state c v) (run_inputs c v k)
base_follows c v k some solves = follows_run c (base_cones c k) v (k - 1) k (base_closed c k) (moves_to c (base_cones c k) v (k - 1) (base_later c v k solves).1) (omega arith)

pub base_is : (c : Circuit) (v : ℕ → Bool) (k : ℕ) → 1 ≤ k → Solves v (base_clauses c k) → IsBaseRun c k (first_state c v) (run_inputs c v k)
base_is c v k some solves = record {
  starts = start_to c v (starts_to c v (base_later c v k solves).0);
  edges = length-run_inputs c v k;
  bad = λ t last.
      let place : k - 1 ≡ t = omega arith in
      bad_to c (base_cones c k) v (first_state c v) (run_inputs c v k) t (base_follows c v k some solves)
      (subst (λ i. base_cones c k i (c.bad.0 / 2) ≡ true) place (base_bad c k))
      (omega (arith, length-run_inputs c v k))
      (subst (λ i. Each (IsTrueIn v) (bad_clause c i)) place (base_later c v k solves).2);
}

pub base_to : (c : Circuit) (v : ℕ → Bool) (k : ℕ) → 1 ≤ k → Solves v (base_clauses c k) → StandsForA c (base_cones c k) v (IsBaseRun c k)
base_to c v k some solves = record { start = first_state c v; inputs = run_inputs c v k; stands = stands_for c v k; follows = base_follows c v k some solves; is = base_is c v k some solves }

pub base_from : (c : Circuit) (v : ℕ → Bool) (k : ℕ) → 1 ≤ k → StandsForA c (base_cones c k) v (IsBaseRun c k) → Solves v (base_clauses c k)
unfolding base_clauses
base_from c v k some r =
    let long : length r.inputs ≡ k - 1 + 1 = omega (arith, r.is.edges) in
    solves_from_each v _
    (each_append (IsTrueIn v) (starts_clauses c) (run_clauses c (base_cones c k) (k - 1) ++ bad_clause c (k - 1))
    (starts_from c v (start_from c v r.start r.inputs r.stands r.is.starts))
    (each_append (IsTrueIn v) (run_clauses c (base_cones c k) (k - 1)) (bad_clause c (k - 1))
    (moves_from c (base_cones c k) v (k - 1) (moves_of c (base_cones c k) v (k - 1) r.start r.inputs (base_closed c k) r.follows long))
    (bad_from c (base_cones c k) v r.start r.inputs (k - 1) r.follows (base_bad c k) (omega arith) (r.is.bad (k - 1) (omega arith)))))

-- the step query
step_later : (c : Circuit) (v : ℕ → Bool) (set : List (List LatchLiteral)) (k : ℕ) → Solves v (step_clauses c set k) → Each (IsTrueIn v) (map (set_clause c (offset c 0)) set) × Each (IsTrueIn v) (run_clauses c (step_cones c k) k) × Each (IsTrueIn v) (good_clauses c k) × Each (IsTrueIn v) (bad_clause c k)
unfolding step_clauses
step_later c v set k solves =
    let sets : List (List Literal) = map (set_clause c (offset c 0)) set in
    let e : Each (IsTrueIn v) (sets ++ (run_clauses c (step_cones c k) k ++ (good_clauses c k ++ bad_clause c k))) = each_from_solves v _ solves in
    let e1 : Each (IsTrueIn v) (run_clauses c (step_cones c k) k ++ (good_clauses c k ++ bad_clause c k)) = each_right (IsTrueIn v) sets (run_clauses c (step_cones c k) k ++ (good_clauses c k ++ bad_clause c k)) e in
    let e2 : Each (IsTrueIn v) (good_clauses c k ++ bad_clause c k) = each_right (IsTrueIn v) (run_clauses c (step_cones c k) k) (good_clauses c k ++ bad_clause c k) e1 in (
      each_left (IsTrueIn v) sets (run_clauses c (step_cones c k) k ++ (good_clauses c k ++ bad_clause c k)) e,
      each_left (IsTrueIn v) (run_clauses c (step_cones c k) k) (good_clauses c k ++ bad_clause c k) e1,
      each_left (IsTrueIn v) (good_clauses c k) (bad_clause c k) e2,
      each_right (IsTrueIn v) (good_clauses c k) (bad_clause c k) e2,
    )

pub step_follows : (c : Circuit) (v : ℕ → Bool) (set : List (List LatchLiteral)) (k : ℕ) → Solves v (step_clauses c set k) → Follows c (step_cones c k) v (first_state c v) (run_inputs c v (k + 1))
step_follows c v set k solves = follows_run c (step_cones c k) v k (k + 1) (step_closed c k) (moves_to c (step_cones c k) v k (step_later c v set k solves).1) (omega arith)

-- the latches before the first edge
pub first_has : (c : Circuit) (v : ℕ → Bool) (s : List Bool) (xs : List (List Bool)) → StandsFor c v s xs → HasState c v (offset c 0) s
first_has c v s xs st = record { latch = λ i n h. st.latches i n h }

pub step_is : (c : Circuit) (v : ℕ → Bool) (set : List (List LatchLiteral)) (k : ℕ) → AreOfLatches (length c.latches.items) set → Solves v (step_clauses c set k) → IsStepRun c set k (first_state c v) (run_inputs c v (k + 1))
step_is c v set k of solves =
    let s : List Bool = first_state c v in
    let xs : List (List Bool) = run_inputs c v (k + 1) in
    let long : length xs ≡ k + 1 = length-run_inputs c v (k + 1) in
    let follows : Follows c (step_cones c k) v s xs = step_follows c v set k solves in
    record {
      meets = set_to c v (offset c 0) s set (first_has c v s xs (stands_for c v (k + 1))) of (step_later c v set k solves).0;
      edges = long;
      good = good_to c (step_cones c k) v s xs k follows (step_bad c k) (omega arith) (step_later c v set k solves).2;
      bad = bad_to c (step_cones c k) v s xs k follows (step_bad c k k) (omega arith) (step_later c v set k solves).3;
    }

pub step_to : (c : Circuit) (v : ℕ → Bool) (set : List (List LatchLiteral)) (k : ℕ) → AreOfLatches (length c.latches.items) set → Solves v (step_clauses c set k) → StandsForA c (step_cones c k) v (IsStepRun c set k)
step_to c v set k of solves = record { start = first_state c v; inputs = run_inputs c v (k + 1); stands = stands_for c v (k + 1); follows = step_follows c v set k solves; is = step_is c v set k of solves }

pub step_from : (c : Circuit) (v : ℕ → Bool) (set : List (List LatchLiteral)) (k : ℕ) → AreOfLatches (length c.latches.items) set → StandsForA c (step_cones c k) v (IsStepRun c set k) → Solves v (step_clauses c set k)
unfolding step_clauses
step_from c v set k of r =
    let long : length r.inputs ≡ k + 1 = r.is.edges in
    solves_from_each v _
    (each_append (IsTrueIn v) (map (set_clause c (offset c 0)) set) (run_clauses c (step_cones c k) k ++ (good_clauses c k ++ bad_clause c k))
    (set_from c v (offset c 0) r.start set (first_has c v r.start r.inputs r.stands) of r.is.meets)
    (each_append (IsTrueIn v) (run_clauses c (step_cones c k) k) (good_clauses c k ++ bad_clause c k)
    (moves_from c (step_cones c k) v k (moves_of c (step_cones c k) v k r.start r.inputs (step_closed c k) r.follows long))
    (each_append (IsTrueIn v) (good_clauses c k) (bad_clause c k)
    (good_from c (step_cones c k) v r.start r.inputs k r.follows (step_bad c k) (omega arith) r.is.good)
    (bad_from c (step_cones c k) v r.start r.inputs k r.follows (step_bad c k k) (omega arith) r.is.bad))))

-- the keep query
abbrev named_clause : Circuit → List (List LatchLiteral) → List (List Literal)
named_clause c set = some_of (offset c 1) set ∷ []

keep_later : (c : Circuit) (v : ℕ → Bool) (set : List (List LatchLiteral)) → Solves v (keep_clauses c set) → Each (IsTrueIn v) (run_clauses c (keep_cones c set) 0) × Each (IsTrueIn v) (map (set_clause c (offset c 0)) set) × Each (IsTrueIn v) (all_broken c (offset c 0) (offset c 1) set) × Each (IsTrueIn v) (named_clause c set)
unfolding keep_clauses
keep_later c v set solves =
    let broken : List (List Literal) = all_broken c (offset c 0) (offset c 1) set in
    let sets : List (List Literal) = map (set_clause c (offset c 0)) set in
    let e : Each (IsTrueIn v) (run_clauses c (keep_cones c set) 0 ++ (sets ++ (broken ++ named_clause c set))) = each_from_solves v _ solves in
    let e1 : Each (IsTrueIn v) (sets ++ (broken ++ named_clause c set)) = each_right (IsTrueIn v) (run_clauses c (keep_cones c set) 0) (sets ++ (broken ++ named_clause c set)) e in
    let e2 : Each (IsTrueIn v) (broken ++ named_clause c set) = each_right (IsTrueIn v) sets (broken ++ named_clause c set) e1 in (
      each_left (IsTrueIn v) (run_clauses c (keep_cones c set) 0) (sets ++ (broken ++ named_clause c set)) e,
      each_left (IsTrueIn v) sets (broken ++ named_clause c set) e1,
      each_left (IsTrueIn v) broken (named_clause c set) e2,
      each_right (IsTrueIn v) broken (named_clause c set) e2,
    )

pub keep_follows : (c : Circuit) (v : ℕ → Bool) (set : List (List LatchLiteral)) → Solves v (keep_clauses c set) → Follows c (keep_cones c set) v (first_state c v) (inputs_at c v 0 ∷ [])
keep_follows c v set solves = follows_run c (keep_cones c set) v 0 1 (keep_closed c set) (moves_to c (keep_cones c set) v 0 (keep_later c v set solves).0) (omega arith)

-- what the clauses of the set are after the edge
keep_next : (c : Circuit) (v : ℕ → Bool) (set : List (List LatchLiteral)) (s x : List Bool) → AreOfLatches (length c.latches.items) set → Follows c (keep_cones c set) v s (x ∷ []) → (j : ℕ) (d : List LatchLiteral) → slice_get set j ≡ Some d → HasNext c v (offset c 0) s x d
unfolding state_at
keep_next c v set s x of f j d is = record {
  each = λ i l there.
      let wide : IsOfLatches (length c.latches.items) (weakened d) = weakened_latches c d (of.each j d is) in
      next_value c v (offset c 0) s x l (wide.each i l there) (λ m is_latch.
      let lt : m.next.0 < 2 * length c.graph = next_of c l.latch m is_latch in
      let node_of : slice_get c.graph (m.next.0 / 2) ≡ Some (get_or c.graph (m.next.0 / 2) node.Zero) = slice_get-get_or c.graph (m.next.0 / 2) node.Zero (omega arith) in
      f.node 0 x refl (m.next.0 / 2) _ node_of (set_cone_next c set j i d l m is there is_latch));
}

pub keep_to : (c : Circuit) (v : ℕ → Bool) (set : List (List LatchLiteral)) → AreOfLatches (length c.latches.items) set → Solves v (keep_clauses c set) → StandsForKeep c v set
keep_to c v set of solves =
    let s : List Bool = first_state c v in
    let x : List Bool = inputs_at c v 0 in
    let stands : StandsFor c v s (x ∷ []) = stands_for c v 1 in
    let some : IsNamed v (offset c 1) set = some_to v (offset c 1) set ((keep_later c v set solves).3.each 0 (some_of (offset c 1) set) refl) in
    record {
      start = s;
      input = x;
      stands = stands;
      follows = keep_follows c v set solves;
      starts = set_to c v (offset c 0) s set (first_has c v s (x ∷ []) stands) of (keep_later c v set solves).1;
      place = some.place;
      clause = some.clause;
      at_place = some.at_place;
      named = some.named;
      broken = all_broken_to c v (offset c 0) (offset c 1) s x set (keep_next c v set s x of (keep_follows c v set solves)) (keep_later c v set solves).2;
    }

pub keep_is : (c : Circuit) (v : ℕ → Bool) (set : List (List LatchLiteral)) → AreOfLatches (length c.latches.items) set → Solves v (keep_clauses c set) → IsKeepRun c set (first_state c v) (inputs_at c v 0)
unfolding keep_to
keep_is c v set of solves =
    let r : StandsForKeep c v set = keep_to c v set of solves in
    record {
      meets = r.starts;
      fails = λ m. true≢false (sym (m.each r.place r.clause r.at_place) ∙ r.broken r.place r.clause r.at_place r.named);
    }

pub keep_from : (c : Circuit) (v : ℕ → Bool) (set : List (List LatchLiteral)) → AreOfLatches (length c.latches.items) set → StandsForKeep c v set → Solves v (keep_clauses c set)
unfolding keep_clauses
keep_from c v set of r =
    solves_from_each v _
    (each_append (IsTrueIn v) (run_clauses c (keep_cones c set) 0) (map (set_clause c (offset c 0)) set ++ (all_broken c (offset c 0) (offset c 1) set ++ some_of (offset c 1) set ∷ []))
    (moves_from c (keep_cones c set) v 0 (moves_of c (keep_cones c set) v 0 r.start (r.input ∷ []) (keep_closed c set) r.follows (omega arith)))
    (each_append (IsTrueIn v) (map (set_clause c (offset c 0)) set) (all_broken c (offset c 0) (offset c 1) set ++ some_of (offset c 1) set ∷ [])
    (set_from c v (offset c 0) r.start set (first_has c v r.start (r.input ∷ []) r.stands) of r.starts)
    (each_append (IsTrueIn v) (all_broken c (offset c 0) (offset c 1) set) (some_of (offset c 1) set ∷ [])
    (all_broken_from c v (offset c 0) (offset c 1) r.start r.input set (keep_next c v set r.start r.input of r.follows) r.broken)
    (each_one (IsTrueIn v) (some_of (offset c 1) set) (some_from v (offset c 1) set r.place r.clause r.at_place r.named)))))

-- the assignment of a run
run_values : Circuit → List Bool → List (List Bool) → ℕ → Bool
run_values c s xs m = value (state_at c s xs ((m - 1) / length c.graph)) (get_or xs ((m - 1) / length c.graph) []) c.graph ((m - 1) % length c.graph)

run_value : (c : Circuit) (s : List Bool) (xs : List (List Bool)) (t i : ℕ) → i < length c.graph → frame c (run_values c s xs) t i ≡ value (state_at c s xs t) (get_or xs t []) c.graph i
unfolding run_values
run_value c s xs t i lt =
    let edge : (i + (t * length c.graph + 1) - 1) / length c.graph ≡ t = (let e : i + (t * length c.graph + 1) - 1 ≡ t * length c.graph + i = omega arith in ap (λ k. k / length c.graph) e) ∙ div-mul-add t (length c.graph) i lt in
    let node : (i + (t * length c.graph + 1) - 1) % length c.graph ≡ i = (let e : i + (t * length c.graph + 1) - 1 ≡ t * length c.graph + i = omega arith in ap (λ k. k % length c.graph) e) ∙ mod-mul-add t (length c.graph) i lt in
    ap (λ k. value (state_at c s xs k) (get_or xs k []) c.graph ((i + (t * length c.graph + 1) - 1) % length c.graph)) edge
    ∙ ap (value (state_at c s xs t) (get_or xs t []) c.graph) node

-- an assignment of a run's values at all nodes
abbrev HasRun : Circuit → (ℕ → Bool) → List Bool → List (List Bool) → Type 0
HasRun c v s xs = (t i : ℕ) → t < length xs → i < length c.graph → frame c v t i ≡ value (state_at c s xs t) (get_or xs t []) c.graph i

follows_by : (c : Circuit) (cones : ℕ → ℕ → Bool) (v : ℕ → Bool) (s : List Bool) (xs : List (List Bool)) → HasRun c v s xs → Follows c cones v s xs
follows_by c cones v s xs same = record {
  node = λ t x is i n h marked. same t i (slice_get_within xs t x is) (slice_get_within c.graph i n h) ∙ ap (λ (y : List Bool). value (state_at c s xs t) y c.graph i) (get_or_from_slice_get xs t x [] is);
}

stands_by : (c : Circuit) (v : ℕ → Bool) (s : List Bool) (xs : List (List Bool)) → 0 < length xs → HasRun c v s xs → StandsFor c v s xs
unfolding state_at
stands_by c v s xs some same = record {
  latches = λ i n h. same 0 i some (slice_get_within c.graph i (node.Latch n) h) ∙ latch_value_is c s (get_or xs 0 []) i n h;
  inputs = λ t x is i n h.
      same t i (slice_get_within xs t x is) (slice_get_within c.graph i (node.Input n) h)
      ∙ (ap (λ (y : List Bool). value (state_at c s xs t) y c.graph i) (get_or_from_slice_get xs t x [] is)
      ∙ (value_is (state_at c s xs t) x c.graph (graph_of c)).node i (node.Input n) h);
}

run_has : (c : Circuit) (s : List Bool) (xs : List (List Bool)) → HasRun c (run_values c s xs) s xs
run_has c s xs t i _ less = run_value c s xs t i less

pub base_run : (c : Circuit) (k : ℕ) (s : List Bool) (xs : List (List Bool)) → 1 ≤ k → IsBaseRun c k s xs → IsStoodFor c (base_clauses c k) s xs
base_run c k s xs some r = record {
  values = run_values c s xs;
  solves = base_from c (run_values c s xs) k some (record { start = s; inputs = xs; stands = stands_by c (run_values c s xs) s xs (omega (arith, r.edges)) (run_has c s xs); follows = follows_by c (base_cones c k) (run_values c s xs) s xs (run_has c s xs); is = r });
  stands = stands_by c (run_values c s xs) s xs (omega (arith, r.edges)) (run_has c s xs);
}

pub step_run : (c : Circuit) (set : List (List LatchLiteral)) (k : ℕ) (s : List Bool) (xs : List (List Bool)) → AreOfLatches (length c.latches.items) set → IsStepRun c set k s xs → IsStoodFor c (step_clauses c set k) s xs
step_run c set k s xs of r = record {
  values = run_values c s xs;
  solves = step_from c (run_values c s xs) set k of (record { start = s; inputs = xs; stands = stands_by c (run_values c s xs) s xs (omega (arith, r.edges)) (run_has c s xs); follows = follows_by c (step_cones c k) (run_values c s xs) s xs (run_has c s xs); is = r });
  stands = stands_by c (run_values c s xs) s xs (omega (arith, r.edges)) (run_has c s xs);
}

-- the assignment of an edge, with a variable for each clause that the next state does not meet
keep_values : Circuit → List (List LatchLiteral) → List Bool → List Bool → ℕ → Bool
keep_values c set s x m = cond (ltb m (length c.graph + 1)) (run_values c s (x ∷ []) m) (not (meets (next_state c s x) (get_or set (m - (length c.graph + 1)) [])))

keep_below : (c : Circuit) (set : List (List LatchLiteral)) (s x : List Bool) (i : ℕ) → i < length c.graph → frame c (keep_values c set s x) 0 i ≡ frame c (run_values c s (x ∷ [])) 0 i
unfolding keep_values
keep_below c set s x i lt =
    let less : ltb (i + (0 * length c.graph + 1)) (length c.graph + 1) ≡ true = lt-ltb (i + (0 * length c.graph + 1)) (length c.graph + 1) (omega arith) in
    rw less refl

keep_above : (c : Circuit) (set : List (List LatchLiteral)) (s x : List Bool) (j : ℕ) (d : List LatchLiteral) → slice_get set j ≡ Some d → keep_values c set s x (j + offset c 1) ≡ not (meets (next_state c s x) d)
unfolding keep_values
keep_above c set s x j d is =
    let more : ltb (j + (1 * length c.graph + 1)) (length c.graph + 1) ≡ false = le-ltb (j + (1 * length c.graph + 1)) (length c.graph + 1) (omega arith) in
    let place : j + (1 * length c.graph + 1) - (length c.graph + 1) ≡ j = omega arith in
    rw (more, place, get_or_from_slice_get set j d [] is) refl

edge_has : (c : Circuit) (set : List (List LatchLiteral)) (s x : List Bool) → HasRun c (keep_values c set s x) s (x ∷ [])
edge_has c set s x t i less below =
    let first : 0 ≡ t = omega arith in
    subst (λ k. frame c (keep_values c set s x) k i ≡ value (state_at c s (x ∷ []) k) (get_or (x ∷ []) k []) c.graph i) first
    (keep_below c set s x i below ∙ run_value c s (x ∷ []) 0 i below)

pub keep_run : (c : Circuit) (set : List (List LatchLiteral)) (s x : List Bool) → AreOfLatches (length c.latches.items) set → IsKeepRun c set s x → IsStoodFor c (keep_clauses c set) s (x ∷ [])
keep_run c set s x of r =
    let u : IsUnmet (next_state c s x) set = unmet_of (next_state c s x) set r.fails in
    let v : ℕ → Bool = keep_values c set s x in
    record {
      values = v;
      solves = keep_from c v set of (record {
        start = s;
        input = x;
        stands = stands_by c v s (x ∷ []) (omega arith) (edge_has c set s x);
        follows = follows_by c (keep_cones c set) v s (x ∷ []) (edge_has c set s x);
        starts = r.meets;
        place = u.place;
        clause = u.clause;
        at_place = u.at_place;
        named = keep_above c set s x u.place u.clause u.at_place ∙ ap not u.unmet;
        broken = λ j d is named. not_true (meets (next_state c s x) d) (sym (keep_above c set s x j d is) ∙ named);
      });
      stands = stands_by c v s (x ∷ []) (omega arith) (edge_has c set s x);
    }
  where
    not_true : (b : Bool) → not b ≡ true → b ≡ false
    not_true true h = sym h
    not_true false h = refl
