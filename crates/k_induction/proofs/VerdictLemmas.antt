-- From the solver's answers to the verdicts.
use Rattle.std.proofs.Common.{◌≡◌, ℕ, ◌+◌, ◌-◌, ◌*◌, ◌<◌, ◌≤◌, Bool, List, [], ◌∷◌, ◌++◌, length, map, refl, ap, sym, ◌∙◌, subst, inl, inr, arith, length-append}
use Rattle.std.proofs.lemmas.List.{map_push, length-map}
use Rattle.lemma_checker.specs.declared.literal.Literal.{Literal}
use Rattle.lemma_checker.specs.declared.chain.Chain.{Chain}
use Rattle.lemma_checker.specs.declared.lemmas.Lemmas.{Lemmas}
use Rattle.lemma_checker.specs.declared.formula.Formula.{Formula}
use Rattle.lemma_checker.specs.Chains.{ReachesEmpty}
use Rattle.lemma_checker.specs.Checker.{link}
use Rattle.lemma_checker.proofs.Semantics.{none_solves}
use Rattle.lemma_checker.proofs.ListLemmas.{get_push}
use Rattle.clause_solver.specs.Solver.{IsSpent}
use Rattle.gate_graph.specs.declared.circuits.Circuit.{Circuit}
use Rattle.gate_graph.specs.Runs.{IsSafe}
use Rattle.unroll_cnf.specs.declared.latch_literal.LatchLiteral.{LatchLiteral}
use Rattle.unroll_cnf.specs.declared.run.CircuitRun.{CircuitRun}
use Rattle.unroll_cnf.specs.Latches.{AreOfLatches}
use Rattle.unroll_cnf.specs.Runs.{IsBaseRun, IsStepRun}
use Rattle.unroll_cnf.specs.Queries.{base_clauses, step_clauses, keep_clauses}
use Rattle.unroll_cnf.specs.Meaning.{edges_of}
use Rattle.invariant_miner.specs.Kept.{IsClosed}
use Rattle.invariant_miner.proofs.ThinLemmas.{closed_of}
use Rattle.k_induction.specs.declared.query.Query.{Query}
use Rattle.k_induction.specs.declared.query.Query.TheVariants as query
use Rattle.k_induction.specs.Safety.{IsGoodFor, HasNoStep, IsLooseRun}
use Rattle.k_induction.specs.Chains.{AreBases, RefuteStep, RefuteKeep}
use Rattle.k_induction.specs.Verdicts.{IsSpentOf, IsBaseFound, IsStepFound, IsProof, IsShortest, IsLoose, IsBaseSpent, IsStepSpent, BudgetIs}
use Rattle.k_induction.proofs.InductionLemmas.{good_by_base, step_refuted, safe_by_chains, step_more, safe_good, good_no_base, first_bad}

pub refuted_by : (clauses wanted : List (List Literal)) (chains : List (List ℕ × List ℕ)) → clauses ≡ wanted → ReachesEmpty clauses chains → ReachesEmpty wanted chains
refuted_by clauses wanted chains e r = subst (λ (z : List (List Literal)). ReachesEmpty z chains) e r

pub spent_by : (clauses : List (List Literal)) (vars budget : ℕ) (l : Lemmas) (f : Formula) → f.clauses ≡ clauses → f.vars ≡ vars → IsSpent l f budget → IsSpentOf clauses vars budget l
spent_by clauses vars budget l f p q s = record {
  same_clauses = s.about.same_clauses ∙ p;
  same_vars = s.about.same_vars ∙ q;
  spent = record { about = record { same_vars = refl; same_clauses = refl }; full = s.full; chains = s.chains; news = s.news; proper = s.proper; quiet = s.quiet; small = s.small };
}

-- one base query more is refuted
bases_push : (c : Circuit) (bases : List (List Chain)) (chains : List Chain) → AreBases c bases → ReachesEmpty (base_clauses c (length bases + 1)) (map link chains) → AreBases c (bases ++ chains ∷ [])
bases_push c bases chains b r = record {
  each = λ j z is. elim (get_push bases chains j z is) [
    | inl old ↦ b.each j z old
    | inr e ↦ subst (λ (y : List Chain). ReachesEmpty (base_clauses c (j + 1)) (map link y)) (sym e.1) (subst (λ i. ReachesEmpty (base_clauses c (i + 1)) (map link chains)) (sym e.0) r)
  ];
}

pub bases_more : {V : Type 0} (items : V → List Chain) (c : Circuit) (k : ℕ) (list new : List V) (x : V) → new ≡ list ++ x ∷ [] → AreBases c (map items list) → length list ≡ k → ReachesEmpty (base_clauses c (k + 1)) (map link (items x)) → AreBases c (map items new)
bases_more items c k list new x pushed b counted r =
    let long : length (map items list) ≡ k = length-map list items ∙ counted in
    subst (AreBases c) (sym (ap (map items) pushed ∙ map_push items list x))
    (bases_push c (map items list) (items x) b (subst (λ i. ReachesEmpty (base_clauses c (i + 1)) (map link (items x))) (sym long) r))

pub good_one_more : (c : Circuit) (k : ℕ) (chains : List Chain) → IsGoodFor c k → ReachesEmpty (base_clauses c (k + 1)) (map link chains) → IsGoodFor c (k + 1)
good_one_more c k chains g r = good_by_base c k g (none_solves (base_clauses c (k + 1)) (map link chains) r)

-- the first bad run is a shortest one
pub shortest_by : (c : Circuit) (bound k : ℕ) (r : CircuitRun) → IsGoodFor c k → k < bound → IsBaseFound c (k + 1) r → IsShortest c bound r
shortest_by c bound k r g lt b = record {
  sizes = b.sizes;
  bad = first_bad c k r.start.items (edges_of r) b.run g;
  within = omega (arith, b.run.edges);
  shortest = let e : k ≡ length (edges_of r) - 1 = omega (arith, b.run.edges) in subst (IsGoodFor c) e g;
}

pub base_spent_by : (c : Circuit) (bound budget k : ℕ) (l : Lemmas) → IsGoodFor c k → k < bound → IsSpentOf (base_clauses c (k + 1)) ((k + 1) * length c.graph) budget l → IsBaseSpent c bound budget (k + 1) l
base_spent_by c bound budget k l g lt s = record {
  some = omega arith;
  within = omega arith;
  good = let e : k ≡ k + 1 - 1 = omega arith in subst (IsGoodFor c) e g;
  spent = s;
}

pub loose_by : (c : Circuit) (set : List (List LatchLiteral)) (bound k : ℕ) (r : CircuitRun) → IsGoodFor c k → k ≡ bound → IsStepFound c set k r → IsLoose c set bound r
loose_by c set bound k r g e s = record {
  sizes = s.sizes;
  loose = subst (λ n. IsStepRun c set n r.start.items (edges_of r)) e s.run;
  good = subst (IsGoodFor c) e g;
}

pub step_spent_by : (c : Circuit) (set : List (List LatchLiteral)) (bound budget k : ℕ) (l : Lemmas) → IsGoodFor c k → k ≡ bound → IsSpentOf (step_clauses c set k) ((k + 1) * length c.graph) budget l → IsStepSpent c set bound budget k l
step_spent_by c set bound budget k l g e s = record {
  last = e;
  good = subst (IsGoodFor c) e g;
  spent = subst (λ n. IsSpentOf (step_clauses c set n) ((n + 1) * length c.graph) budget l) e s;
}

pub proof_by : (c : Circuit) (set : List (List LatchLiteral)) (bound k : ℕ) (bases : List (List Chain)) (step : List Chain) → k < bound → length bases ≡ k + 1 → AreBases c bases → RefuteStep c set (k + 1) step → IsProof c set bound (k + 1) bases step
proof_by c set bound k bases step lt counted b s = record { some = omega arith; within = omega arith; counted = counted; bases_refute = b; step_refutes = s }

-- completeness
pub closed_by : (c : Circuit) (set : List (List LatchLiteral)) (keep : List Chain) → AreOfLatches (length c.latches.items) set → RefuteKeep c set keep → IsClosed c set
closed_by c set keep of r = closed_of c set of (none_solves (keep_clauses c set) (map link keep) r)

pub loose_not_found : (c : Circuit) (set : List (List LatchLiteral)) (bound k : ℕ) (r : CircuitRun) → IsClosed c set → HasNoStep c set k → k ≤ bound → IsLoose c set bound r → ⊥
loose_not_found c set bound k r closed none le l = (step_more c set k bound closed none le).none r.start.items (edges_of r) l.loose

pub bad_not_found : (c : Circuit) (bound : ℕ) (r : CircuitRun) → IsSafe c → IsShortest c bound r → ⊥
bad_not_found c bound r safe s = safe_good c (length (edges_of r)) r.start.items (edges_of r) safe s.bad.base s.bad.some

pub base_when_bad : (q : Query) (c : Circuit) (set : List (List LatchLiteral)) (bound budget n : ℕ) (l : Lemmas) (k : ℕ) (s : List Bool) (xs : List (List Bool)) → BudgetIs q c set bound budget n l → IsBaseRun c k s xs → 1 ≤ k → k ≤ bound → q ≡ query.Base
base_when_bad query.Base c set bound budget n l k s xs b r some le = refl
base_when_bad query.Step c set bound budget n l k s xs b r some le = absurd (good_no_base c k bound s xs b.good r some le)

pub loose_when_bad : (c : Circuit) (set : List (List LatchLiteral)) (bound : ℕ) (r : CircuitRun) (k : ℕ) (s : List Bool) (xs : List (List Bool)) → IsLoose c set bound r → IsBaseRun c k s xs → 1 ≤ k → k ≤ bound → ⊥
loose_when_bad c set bound r k s xs l b some le = good_no_base c k bound s xs l.good b some le

pub loose_of : (c : Circuit) (set : List (List LatchLiteral)) (bound : ℕ) (r : CircuitRun) → IsLoose c set bound r → IsLooseRun c set r.start.items (edges_of r)
loose_of c set bound r l = let e : bound ≡ length (edges_of r) - 1 = omega (arith, l.loose.edges) in subst (λ n. IsStepRun c set n r.start.items (edges_of r)) e l.loose

pub counted_more : {V : Type 0} (k : ℕ) (list new : List V) (x : V) → new ≡ list ++ x ∷ [] → length list ≡ k → length new ≡ k + 1
counted_more k list new x pushed counted = omega (arith, ap length pushed, length-append list (x ∷ []), counted)

pub counted_items : {V : Type 0} (items : V → List Chain) (k : ℕ) (list : List V) → length list ≡ k → length (map items list) ≡ k
counted_items items k list counted = length-map list items ∙ counted

pub items_counted : {V : Type 0} (items : V → List Chain) (k : ℕ) (list : List V) → length (map items list) ≡ k → length list ≡ k
items_counted items k list counted = sym (length-map list items) ∙ counted

pub safe_by_proof : (c : Circuit) (set : List (List LatchLiteral)) (bound k : ℕ) (bases : List (List Chain)) (step keep : List Chain) → AreOfLatches (length c.latches.items) set → IsProof c set bound k bases step → RefuteKeep c set keep → IsSafe c
safe_by_proof c set bound k bases step keep of p r = safe_by_chains c set k bases step keep of p.bases_refute p.counted p.step_refutes r

pub no_step_by_proof : (c : Circuit) (set : List (List LatchLiteral)) (bound k : ℕ) (bases : List (List Chain)) (step : List Chain) → AreOfLatches (length c.latches.items) set → IsProof c set bound k bases step → HasNoStep c set k
no_step_by_proof c set bound k bases step of p = step_refuted c set k of (none_solves (step_clauses c set k) (map link step) p.step_refutes)
