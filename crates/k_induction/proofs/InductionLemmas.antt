-- Induction over the edges of a run.
use Rattle.std.proofs.Common.{◌≡◌, ℕ, zero, suc, ◌+◌, ◌-◌, ◌<◌, ◌≤◌, Bool, true, false, List, [], ◌∷◌, ◌++◌, length, map, take, drop, get_or, refl, ap, sym, ◌∙◌, subst, inl, inr, arith, true≢false, length-append, length-drop, length-take-le, take-append-drop}
use Rattle.std.proofs.lemmas.Bool.{cases_eq}
use Rattle.std.proofs.lemmas.Option.{slice_get-get_or}
use Rattle.std.proofs.lemmas.List.{take-take, take_at, drop-take, get_or-take, get_or-drop, get_or_push}
use Rattle.lemma_checker.specs.declared.chain.Chain.{Chain}
use Rattle.lemma_checker.specs.Clauses.{HasNoSolution}
use Rattle.lemma_checker.specs.Checker.{link}
use Rattle.lemma_checker.proofs.Semantics.{none_solves}
use Rattle.gate_graph.specs.declared.circuits.Circuit.{Circuit}
use Rattle.gate_graph.specs.Runs.{next_state, is_bad, state_after, IsStart, IsSafe}
use Rattle.unroll_cnf.specs.declared.latch_literal.LatchLiteral.{LatchLiteral}
use Rattle.unroll_cnf.specs.Latches.{MeetsAll, AreOfLatches}
use Rattle.unroll_cnf.specs.Runs.{state_at, bad_at, IsBaseRun}
use Rattle.unroll_cnf.specs.Queries.{base_clauses, step_clauses, keep_clauses}
use Rattle.unroll_cnf.specs.Meaning.{IsStoodFor}
use Rattle.unroll_cnf.proofs.QueryLemmas.{base_run, step_run}
use Rattle.invariant_miner.specs.Kept.{IsClosed}
use Rattle.invariant_miner.proofs.ThinLemmas.{closed_of}
use Rattle.invariant_miner.proofs.LawLemmas.{start_meets}
use Rattle.k_induction.specs.Safety.{IsGoodFor, HasNoStep, IsBadRun}
use Rattle.k_induction.specs.Chains.{AreBases, RefuteStep, RefuteKeep}

not_true : (b : Bool) → (b ≡ true → ⊥) → b ≡ false
not_true true h = absurd (h refl)
not_true false h = refl

-- runs cut short, and runs from a later edge on
after_append : (c : Circuit) (s : List Bool) (xs ys : List (List Bool)) → state_after c s (xs ++ ys) ≡ state_after c (state_after c s xs) ys
after_append c s [] ys = refl
after_append c s (x ∷ xs) ys = after_append c (next_state c s x) xs ys

take_both : (xs : List (List Bool)) (m t : ℕ) → take m xs ++ take t (drop m xs) ≡ take (m + t) xs
take_both xs m t =
    ap (λ (z : List (List Bool)). take m xs ++ z) (sym (drop-take m t xs))
    ∙ (ap (λ (z : List (List Bool)). z ++ drop m (take (m + t) xs)) (sym (take-take m (m + t) xs (omega arith)))
    ∙ take-append-drop m (take (m + t) xs))

pub bad_at_take : (c : Circuit) (s : List Bool) (xs : List (List Bool)) (n t : ℕ) → t < n → bad_at c s (take n xs) t ≡ bad_at c s xs t
unfolding bad_at state_at
bad_at_take c s xs n t lt =
    ap (λ (z : List (List Bool)). is_bad c (state_after c s z) (get_or (take n xs) t [])) (take-take t n xs (omega arith))
    ∙ ap (is_bad c (state_after c s (take t xs))) (get_or-take n xs t [] lt)

pub bad_at_drop : (c : Circuit) (s : List Bool) (xs : List (List Bool)) (m t : ℕ) → bad_at c (state_after c s (take m xs)) (drop m xs) t ≡ bad_at c s xs (m + t)
unfolding bad_at state_at
bad_at_drop c s xs m t =
    ap (λ (z : List Bool). is_bad c z (get_or (drop m xs) t [])) (sym (after_append c s (take m xs) (take t (drop m xs))) ∙ ap (state_after c s) (take_both xs m t))
    ∙ ap (is_bad c (state_after c s (take (m + t) xs))) (get_or-drop m xs t [])

-- from unsatisfiable queries
base_refuted : (c : Circuit) (k : ℕ) → 1 ≤ k → HasNoSolution (base_clauses c k) → (s : List Bool) (xs : List (List Bool)) → IsBaseRun c k s xs → ⊥
base_refuted c k some none s xs r = let q : IsStoodFor c (base_clauses c k) s xs = base_run c k s xs some r in none q.values q.solves

pub step_refuted : (c : Circuit) (set : List (List LatchLiteral)) (k : ℕ) → AreOfLatches (length c.latches.items) set → HasNoSolution (step_clauses c set k) → HasNoStep c set k
step_refuted c set k of none = record { none = λ s xs r. let q : IsStoodFor c (step_clauses c set k) s xs = step_run c set k s xs of r in none q.values q.solves }

pub good_none : (c : Circuit) → IsGoodFor c 0
good_none c = record { good = λ s xs t b lt less. absurd (omega arith) }

-- one edge more is good where no run is bad there
good_more : (c : Circuit) (k : ℕ) → IsGoodFor c k → ((s : List Bool) (xs : List (List Bool)) → IsStart c s → k < length xs → bad_at c s xs k ≡ true → ⊥) → IsGoodFor c (k + 1)
good_more c k g none = record {
  good = λ s xs t b lt less. elim (cases_eq t k) [
    | inl e ↦ subst (λ i. bad_at c s xs i ≡ false) (sym e) (not_true (bad_at c s xs k) (none s xs b (omega arith)))
    | inr ne ↦ g.good s xs t b lt (omega arith)
  ];
}

cut_run : (c : Circuit) (k : ℕ) (s : List Bool) (xs : List (List Bool)) → IsStart c s → k < length xs → bad_at c s xs k ≡ true → IsBaseRun c (k + 1) s (take (k + 1) xs)
cut_run c k s xs b lt bad = record {
  starts = b;
  edges = length-take-le (k + 1) xs (omega arith);
  bad = λ t e. let same : k ≡ t = omega arith in subst (λ i. bad_at c s (take (k + 1) xs) i ≡ true) same (bad_at_take c s xs (k + 1) k (omega arith) ∙ bad);
}

pub good_by_base : (c : Circuit) (k : ℕ) → IsGoodFor c k → HasNoSolution (base_clauses c (k + 1)) → IsGoodFor c (k + 1)
good_by_base c k g none = good_more c k g (λ s xs b lt bad. base_refuted c (k + 1) (omega arith) none s (take (k + 1) xs) (cut_run c k s xs b lt bad))

closed_after : (c : Circuit) (set : List (List LatchLiteral)) (s : List Bool) (xs : List (List Bool)) → IsClosed c set → MeetsAll s set → MeetsAll (state_after c s xs) set
closed_after c set s [] k m = m
closed_after c set s (x ∷ xs) k m = closed_after c set (next_state c s x) xs k (k.kept s x m)

-- where the first k edges are good and no step of k edges is bad, the next edge is good
good_by_step : (c : Circuit) (set : List (List LatchLiteral)) (k n : ℕ) → IsClosed c set → HasNoStep c set k → k ≤ n → IsGoodFor c n → IsGoodFor c (n + 1)
good_by_step c set k n closed step le g = good_more c n g (λ s xs b lt bad.
    let m : ℕ = n - k in
    let middle : List Bool = state_after c s (take m xs) in
    let rest : List (List Bool) = take (k + 1) (drop m xs) in
    let long : k + 1 ≤ length (drop m xs) = omega (arith, length-drop m xs) in
    let last : m + k ≡ n = omega arith in
    step.none middle rest (record {
      meets = closed_after c set s (take m xs) closed (start_meets c set s b);
      edges = length-take-le (k + 1) (drop m xs) long;
      good = λ t less. bad_at_take c middle (drop m xs) (k + 1) t (omega arith) ∙ (bad_at_drop c s xs m t ∙ g.good s xs (m + t) b (omega arith) (omega arith));
      bad = bad_at_take c middle (drop m xs) (k + 1) k (omega arith) ∙ (bad_at_drop c s xs m k ∙ (ap (bad_at c s xs) last ∙ bad));
    }))

good_upto : (c : Circuit) (set : List (List LatchLiteral)) (k m : ℕ) → IsClosed c set → HasNoStep c set k → IsGoodFor c k → IsGoodFor c (m + k)
good_upto c set k zero closed step g = let e : k ≡ 0 + k = omega arith in subst (IsGoodFor c) e g
good_upto c set k (suc m) closed step g = let e : m + k + 1 ≡ suc m + k = omega arith in subst (IsGoodFor c) e (good_by_step c set k (m + k) closed step (omega arith) (good_upto c set k m closed step g))

pub safe_by_induction : (c : Circuit) (set : List (List LatchLiteral)) (k : ℕ) → IsClosed c set → HasNoStep c set k → IsGoodFor c k → IsSafe c
unfolding bad_at state_at
safe_by_induction c set k closed step g = record {
  good = λ s xs x b.
      let all : IsGoodFor c (suc (length xs) + k) = good_upto c set k (suc (length xs)) closed step g in
      let here : bad_at c s (xs ++ x ∷ []) (length xs) ≡ false = all.good s (xs ++ x ∷ []) (length xs) b (omega (arith, length-append xs (x ∷ []))) (omega arith) in
      sym (ap (λ (z : List (List Bool)). is_bad c (state_after c s z) (get_or (xs ++ x ∷ []) (length xs) [])) (take_at xs (x ∷ []) (length xs) refl)
      ∙ ap (is_bad c (state_after c s xs)) (get_or_push xs x [] (length xs) refl)) ∙ here;
}

-- from chains
pub good_by_bases : (c : Circuit) (bases : List (List Chain)) (k : ℕ) → AreBases c bases → k ≤ length bases → IsGoodFor c k
good_by_bases c bases zero b le = good_none c
good_by_bases c bases (suc k) b le =
    let lt : k < length bases = omega arith in
    let chains : List Chain = get_or bases k [] in
    let e : k + 1 ≡ suc k = omega arith in
    subst (IsGoodFor c) e (good_by_base c k (good_by_bases c bases k b (omega arith)) (none_solves (base_clauses c (k + 1)) (map link chains) (b.each k chains (slice_get-get_or bases k [] lt))))

pub safe_by_chains : (c : Circuit) (set : List (List LatchLiteral)) (k : ℕ) (bases : List (List Chain)) (step keep : List Chain) → AreOfLatches (length c.latches.items) set → AreBases c bases → length bases ≡ k → RefuteStep c set k step → RefuteKeep c set keep → IsSafe c
safe_by_chains c set k bases step keep of b counted s p =
    safe_by_induction c set k
    (closed_of c set of (none_solves (keep_clauses c set) (map link keep) p))
    (step_refuted c set k of (none_solves (step_clauses c set k) (map link step) s))
    (good_by_bases c bases k b (omega arith))

-- a step that is never bad stays so with more edges
pub step_more : (c : Circuit) (set : List (List LatchLiteral)) (k n : ℕ) → IsClosed c set → HasNoStep c set k → k ≤ n → HasNoStep c set n
step_more c set k n closed step le = record {
  none = λ s xs r.
      let m : ℕ = n - k in
      let last : m + k ≡ n = omega arith in
      step.none (state_after c s (take m xs)) (drop m xs) (record {
        meets = closed_after c set s (take m xs) closed r.meets;
        edges = omega (arith, length-drop m xs, r.edges);
        good = λ t less. bad_at_drop c s xs m t ∙ r.good (m + t) (omega arith);
        bad = bad_at_drop c s xs m k ∙ (ap (bad_at c s xs) last ∙ r.bad);
      });
}

-- a safe circuit has no bad edge
pub safe_good : (c : Circuit) (k : ℕ) (s : List Bool) (xs : List (List Bool)) → IsSafe c → IsBaseRun c k s xs → 1 ≤ k → ⊥
unfolding bad_at state_at
safe_good c k s xs safe r some =
    let last : k - 1 + 1 ≡ k = omega arith in
    true≢false (sym (r.bad (k - 1) last) ∙ safe.good s (take (k - 1) xs) (get_or xs (k - 1) []) r.starts)

pub good_no_base : (c : Circuit) (k n : ℕ) (s : List Bool) (xs : List (List Bool)) → IsGoodFor c n → IsBaseRun c k s xs → 1 ≤ k → k ≤ n → ⊥
good_no_base c k n s xs g r some le =
    let last : k - 1 + 1 ≡ k = omega arith in
    true≢false (sym (r.bad (k - 1) last) ∙ g.good s xs (k - 1) r.starts (omega (arith, r.edges)) (omega arith))

-- the first bad run
pub first_bad : (c : Circuit) (k : ℕ) (s : List Bool) (xs : List (List Bool)) → IsBaseRun c (k + 1) s xs → IsGoodFor c k → IsBadRun c s xs
first_bad c k s xs r g = record {
  base = subst (λ n. IsBaseRun c n s xs) (sym r.edges) r;
  some = omega (arith, r.edges);
  good = λ t lt. g.good s xs t r.starts (omega arith) (omega (arith, r.edges));
}
