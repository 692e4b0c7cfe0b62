-- From the solver's answers on the keep query to what they say of the set.
use Rattle.std.proofs.Common.{◌≡◌, ℕ, zero, suc, ◌+◌, ◌<◌, ◌≤◌, Bool, true, false, List, [], ◌∷◌, ◌++◌, length, Some, slice_get, get_or, refl, ap, sym, ◌∙◌, subst, inl, inr, arith, true≢false, ◌==◌, ◌^◌}
use Rattle.std.specs.List.{filter}
use Rattle.std.proofs.lemmas.Bool.{or_left, or_right}
use Rattle.std.proofs.lemmas.List.{length-map}
use Rattle.std.proofs.lemmas.List.Folds.{list_any-append}
use Rattle.lemma_checker.specs.declared.literal.Literal.{Literal}
use Rattle.lemma_checker.specs.declared.lemmas.Lemmas.{Lemmas}
use Rattle.lemma_checker.specs.declared.formula.Formula.{Formula}
use Rattle.lemma_checker.specs.Clauses.{HasNoSolution}
use Rattle.lemma_checker.specs.Chains.{has_empty, ReachesEmpty}
use Rattle.lemma_checker.proofs.Semantics.{none_solves}
use Rattle.lemma_checker.proofs.ListLemmas.{get_push}
use Rattle.clause_solver.specs.Solver.{IsSpent}
use Rattle.gate_graph.specs.declared.circuits.Circuit.{Circuit}
use Rattle.gate_graph.specs.Runs.{next_state}
use Rattle.unroll_cnf.specs.declared.latch_literal.LatchLiteral.{LatchLiteral}
use Rattle.unroll_cnf.specs.Latches.{meets, MeetsAll, IsOfLatches, AreOfLatches, weight}
use Rattle.unroll_cnf.specs.Runs.{IsKeepEdge}
use Rattle.unroll_cnf.specs.Queries.{run_clauses, keep_cones, keep_clauses}
use Rattle.unroll_cnf.specs.Meaning.{IsStoodFor}
use Rattle.unroll_cnf.proofs.QueryLemmas.{keep_run}
use Rattle.unroll_cnf.proofs.SetLemmas.{IsUnmet, unmet_of}
use Rattle.invariant_miner.specs.Kept.{IsClosed, IsAbove}
use Rattle.invariant_miner.proofs.KeptLemmas.{filter_less, above_all, above_drop}
use Rattle.invariant_miner.specs.Thinned.{LeavesSet, IsSpentOn, IsAskable}

-- where no assignment satisfies the keep query, each next state meets each clause
kept_by : (c : Circuit) (set : List (List LatchLiteral)) (s x : List Bool) → AreOfLatches (length c.latches.items) set → HasNoSolution (keep_clauses c set) → MeetsAll s set → (i : ℕ) (d : List LatchLiteral) → slice_get set i ≡ Some d → (b : Bool) → meets (next_state c s x) d ≡ b → meets (next_state c s x) d ≡ true
kept_by c set s x of none m i d is true e = e
kept_by c set s x of none m i d is false e =
    let r : IsStoodFor c (keep_clauses c set) s (x ∷ []) = keep_run c set s x of (record { meets = m; fails = λ next. true≢false (sym (next.each i d is) ∙ e) }) in
    absurd (none r.values r.solves)

pub closed_of : (c : Circuit) (set : List (List LatchLiteral)) → AreOfLatches (length c.latches.items) set → HasNoSolution (keep_clauses c set) → IsClosed c set
closed_of c set of none = record { kept = λ s x m. record { each = λ i d is. kept_by c set s x of none m i d is (meets (next_state c s x) d) refl } }

pub closed_by_chains : (c : Circuit) (set : List (List LatchLiteral)) (clauses : List (List Literal)) (chains : List (List ℕ × List ℕ)) → AreOfLatches (length c.latches.items) set → clauses ≡ keep_clauses c set → ReachesEmpty clauses chains → IsClosed c set × ReachesEmpty (keep_clauses c set) chains
closed_by_chains c set clauses chains of is reaches =
    let there : ReachesEmpty (keep_clauses c set) chains = subst (λ (z : List (List Literal)). ReachesEmpty z chains) is reaches in
    (closed_of c set of (none_solves (keep_clauses c set) chains there), there)

-- the empty set

pub empty_chains : (c : Circuit) → ReachesEmpty (keep_clauses c []) []
unfolding keep_clauses
empty_chains c = ∣ record {
  added = [];
  derived = record { lengths = refl; each = λ i d ids pivots is at_chain. absurd (let e : ⊥ = cc in e) };
  empty = list_any-append (λ (d : List Literal). length d == 0) (run_clauses c (keep_cones c []) 0 ++ [] ∷ []) [] ∙ or_left (has_empty (run_clauses c (keep_cones c []) 0 ++ [] ∷ [])) (has_empty []) (list_any-append (λ (d : List Literal). length d == 0) (run_clauses c (keep_cones c []) 0) ([] ∷ []) ∙ or_right (has_empty (run_clauses c (keep_cones c []) 0)) (has_empty ([] ∷ [])) refl);
} ∣₁

-- a spent budget on a query
pub spent_on : (c : Circuit) (set : List (List LatchLiteral)) (budget : ℕ) (l : Lemmas) (f : Formula) → f.clauses ≡ keep_clauses c set → f.vars ≡ length c.graph + length set → IsSpent l f budget → IsSpentOn c set budget l
spent_on c set budget l f clauses vars s = record {
  clauses = s.about.same_clauses ∙ clauses;
  vars = s.about.same_vars ∙ vars;
  spent = record { about = record { same_vars = refl; same_clauses = refl }; full = s.full; chains = s.chains; news = s.news; proper = s.proper; quiet = s.quiet; small = s.small };
}

-- the next state of an edge that leaves the set
pub leaves_by : (c : Circuit) (set : List (List LatchLiteral)) (s next : List Bool) (xs : List (List Bool)) → IsKeepEdge c set s xs → next ≡ next_state c s (get_or xs 0 []) → LeavesSet c set next
leaves_by c set s next xs k is =
    let input : get_or xs 0 [] ≡ k.input = ap (λ (z : List (List Bool)). get_or z 0 []) k.one in
    let there : next ≡ next_state c s k.input = is ∙ ap (next_state c s) input in
    record {
      start = s;
      input = k.input;
      meets = k.is.meets;
      is = there;
      fails = λ m. k.is.fails (subst (λ (z : List Bool). MeetsAll z set) there m);
    }

pub one_edge : (c : Circuit) (set : List (List LatchLiteral)) (s : List Bool) (xs : List (List Bool)) → IsKeepEdge c set s xs → length xs ≡ 1
one_edge c set s xs k = ap length k.one

-- fewer clauses are left
pub dropped_less : (next : List Bool) (current left : List (List LatchLiteral)) → left ≡ filter (meets next) current → (MeetsAll next current → ⊥) → length left < length current
dropped_less next current left e fails =
    let u : IsUnmet next current = unmet_of next current fails in
    let less : length (filter (meets next) current) < length current = filter_less (meets next) current u.place u.clause u.at_place u.unmet in
    omega (arith, less, ap length e)

pub empty_askable : (c : Circuit) → IsAskable c []
empty_askable c = record { of = record { each = λ i d is. absurd (let e : ⊥ = cc in e) }; small = omega arith }

-- one clause more
of_push : (n : ℕ) (set : List (List LatchLiteral)) (d : List LatchLiteral) → AreOfLatches n set → IsOfLatches n d → AreOfLatches n (set ++ d ∷ [])
of_push n set d a b = record { each = λ i z is. elim (get_push set d i z is) [ inl old ↦ a.each i z old | inr e ↦ subst (IsOfLatches n) (sym e.1) b ] }

weight_push : (set : List (List LatchLiteral)) (d : List LatchLiteral) → weight (set ++ d ∷ []) ≡ weight set + (1 + length d)
weight_push [] d = omega arith
weight_push (z ∷ set) d = omega (arith, weight_push set d)

pub askable_push : (c : Circuit) (set : List (List LatchLiteral)) (d : List LatchLiteral) → IsAskable c set → IsOfLatches (length c.latches.items) d → weight set + (1 + length d) ≤ 2 ^ 28 → IsAskable c (set ++ d ∷ [])
askable_push c set d a of small = record { of = of_push (length c.latches.items) set d a.of of; small = omega (arith, weight_push set d) }

pub one_of : (n : ℕ) (l : LatchLiteral) → l.latch < n → IsOfLatches n (l ∷ [])
one_of n l p = record { each = each n l p }
  where
    each : (n : ℕ) (l : LatchLiteral) → l.latch < n → (j : ℕ) (m : LatchLiteral) → slice_get (l ∷ []) j ≡ Some m → m.latch < n
    each n l p zero m is = let e : l ≡ m = cc in omega (arith, ap (λ (z : LatchLiteral). z.latch) e)
    each n l p (suc j) m is = absurd (let e : ⊥ = cc in e)

pub two_of : (n : ℕ) (l k : LatchLiteral) → l.latch < n → k.latch < n → IsOfLatches n (l ∷ k ∷ [])
two_of n l k p q = record { each = each n l k p q }
  where
    each : (n : ℕ) (l k : LatchLiteral) → l.latch < n → k.latch < n → (j : ℕ) (m : LatchLiteral) → slice_get (l ∷ k ∷ []) j ≡ Some m → m.latch < n
    each n l k p q zero m is = let e : l ≡ m = cc in omega (arith, ap (λ (z : LatchLiteral). z.latch) e)
    each n l k p q (suc zero) m is = let e : k ≡ m = cc in omega (arith, ap (λ (z : LatchLiteral). z.latch) e)
    each n l k p q (suc (suc j)) m is = absurd (let e : ⊥ = cc in e)

-- a list of three clauses
pub askable_list : (c : Circuit) (none one two three : List (List LatchLiteral)) (d e f : List LatchLiteral) → none ≡ [] → one ≡ none ++ d ∷ [] → two ≡ one ++ e ∷ [] → three ≡ two ++ f ∷ []
    → IsOfLatches (length c.latches.items) d → IsOfLatches (length c.latches.items) e → IsOfLatches (length c.latches.items) f → length d + length e + length f ≤ 1000 → IsAskable c three
askable_list c none one two three d e f p q r s a b g small =
    let first : IsAskable c one = subst (IsAskable c) (sym (q ∙ ap (λ (z : List (List LatchLiteral)). z ++ d ∷ []) p)) (askable_push c [] d (empty_askable c) a (omega arith)) in
    let long_one : weight one ≡ 1 + length d = ap weight (q ∙ ap (λ (z : List (List LatchLiteral)). z ++ d ∷ []) p) ∙ (let e : 1 + length d + 0 ≡ 1 + length d = omega arith in e) in
    let second : IsAskable c two = subst (IsAskable c) (sym r) (askable_push c one e first b (omega arith)) in
    let long_two : weight two ≡ weight one + (1 + length e) = ap weight r ∙ weight_push one e in
    subst (IsAskable c) (sym s) (askable_push c two f second g (omega arith))

-- a state after an edge has a value for each latch, and what it meets of the set has each closed set
pub leaves_length : (c : Circuit) (set : List (List LatchLiteral)) (next : List Bool) → LeavesSet c set next → length next ≡ length c.latches.items
unfolding next_state
leaves_length c set next l = ap length l.is ∙ length-map c.latches.items _

pub leaves_above : (c : Circuit) (set left : List (List LatchLiteral)) (next : List Bool) → LeavesSet c set next → left ≡ filter (meets next) set → IsAbove c set left
leaves_above c set left next l e = above_drop c set set left l.start l.input (above_all c set) l.meets (e ∙ ap (λ (z : List Bool). filter (meets z) set) l.is)
