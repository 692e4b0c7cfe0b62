-- The run that an assignment gives, as it is read and as it is meant; queries put together.
use Rattle.std.proofs.Common.{◌≡◌, ℕ, zero, suc, ◌+◌, ◌≤◌, Bool, List, [], ◌∷◌, ◌++◌, length, map, refl, ap, sym, ◌∙◌, subst, arith, add-one, append_assoc}
use Rattle.std.specs.List.{All}
use Rattle.std.proofs.lemmas.List.{map_push, length-map}
use Rattle.std.proofs.lemmas.List.Elements.{All-nil, All-push}
use Rattle.lemma_checker.specs.declared.literal.Literal.{Literal}
use Rattle.lemma_checker.specs.Clauses.{Solves}
use Rattle.gate_graph.specs.declared.circuits.Circuit.{Circuit}
use Rattle.unroll_cnf.specs.declared.latch_literal.LatchLiteral.{LatchLiteral}
use Rattle.unroll_cnf.specs.declared.run.CircuitRun.{CircuitRun}
use Rattle.unroll_cnf.specs.Latches.{AreOfLatches}
use Rattle.unroll_cnf.specs.Runs.{IsBaseRun, IsStepRun, IsKeepEdge}
use Rattle.unroll_cnf.specs.Queries.{offset, latch_places, input_places, base_clauses, step_clauses, keep_clauses}
use Rattle.unroll_cnf.specs.Meaning.{shifted, frame, first_state, inputs_at, run_inputs, edges_of, HasSizes}
use Rattle.unroll_cnf.proofs.PlaceLemmas.{length-latch_places, length-input_places}
use Rattle.unroll_cnf.proofs.QueryLemmas.{base_is, step_is, keep_is}

pub joined_three : (a b d e x y z : List (List Literal)) → a ≡ [] → b ≡ a ++ x → d ≡ b ++ y → e ≡ d ++ z → e ≡ x ++ (y ++ z)
joined_three a b d e x y z p q r s = s ∙ rw (r, q, p) (append_assoc x y z)

pub joined_four : (a b d e f x y z w : List (List Literal)) → a ≡ [] → b ≡ a ++ x → d ≡ b ++ y → e ≡ d ++ z → f ≡ e ++ w → f ≡ x ++ (y ++ (z ++ w))
joined_four a b d e f x y z w p q r s t = t ∙ (ap (λ (u : List (List Literal)). u ++ w) (joined_three a b d e x y z p q r s) ∙ (append_assoc x (y ++ z) w ∙ ap (λ (u : List (List Literal)). x ++ u) (append_assoc y z w)))

-- the values as they are read
pub first_read : (c : Circuit) (v : ℕ → Bool) (first : ℕ) (places : List ℕ) (values : List Bool) → first ≡ offset c 0 → places ≡ latch_places 0 c.graph → values ≡ map (shifted v first) places → values ≡ first_state c v
unfolding first_state
first_read c v first places values p q r = r ∙ (ap (λ (k : ℕ). map (shifted v k) places) p ∙ ap (map (frame c v 0)) q)

inputs_read : (c : Circuit) (v : ℕ → Bool) (t first : ℕ) (places : List ℕ) (values : List Bool) → first ≡ offset c t → places ≡ input_places 0 c.graph → values ≡ map (shifted v first) places → values ≡ inputs_at c v t
unfolding inputs_at
inputs_read c v t first places values p q r = r ∙ (ap (λ (k : ℕ). map (shifted v k) places) p ∙ ap (map (frame c v t)) q)

pub inputs_pushed : {V : Type 0} (items : V → List Bool) (c : Circuit) (v : ℕ → Bool) (t first : ℕ) (places : List ℕ) (list new : List V) (x : V) → new ≡ list ++ x ∷ [] → map items list ≡ run_inputs c v t → first ≡ offset c t → places ≡ input_places 0 c.graph → items x ≡ map (shifted v first) places → map items new ≡ run_inputs c v (t + 1)
inputs_pushed items c v t first places list new x pushed before p q r =
    ap (map items) pushed
    ∙ (map_push items list x
    ∙ (ap (λ (z : List (List Bool)). z ++ items x ∷ []) before
    ∙ (ap (λ (z : List Bool). run_inputs c v t ++ z ∷ []) (inputs_read c v t first places (items x) p q r)
    ∙ ap (run_inputs c v) (sym (add-one t)))))

-- what holds of the run that the values give holds of the one that was read
pub at_run : (P : List Bool → List (List Bool) → Type 0) (s s' : List Bool) (xs xs' : List (List Bool)) → s' ≡ s → xs' ≡ xs → P s xs → P s' xs'
at_run P s s' xs xs' p q h = subst (λ (z : List Bool). P z xs') (sym p) (subst (λ (z : List (List Bool)). P s z) (sym q) h)

pub base_run_is : (c : Circuit) (v : ℕ → Bool) (m : ℕ) (clauses : List (List Literal)) → 1 ≤ m → clauses ≡ base_clauses c m → Solves v clauses → IsBaseRun c m (first_state c v) (run_inputs c v m)
base_run_is c v m clauses some is solves = base_is c v m some (subst (Solves v) is solves)

pub step_run_is : (c : Circuit) (v : ℕ → Bool) (m : ℕ) (clauses : List (List Literal)) (set : List (List LatchLiteral)) (k : ℕ) → AreOfLatches (length c.latches.items) set → m ≡ k + 1 → clauses ≡ step_clauses c set k → Solves v clauses → IsStepRun c set k (first_state c v) (run_inputs c v m)
step_run_is c v m clauses set k of edges is solves = subst (λ n. IsStepRun c set k (first_state c v) (run_inputs c v n)) (sym edges) (step_is c v set k of (subst (Solves v) is solves))

pub keep_run_is : (c : Circuit) (v : ℕ → Bool) (m : ℕ) (clauses : List (List Literal)) (set : List (List LatchLiteral)) → AreOfLatches (length c.latches.items) set → m ≡ 1 → clauses ≡ keep_clauses c set → Solves v clauses → IsKeepEdge c set (first_state c v) (run_inputs c v m)
keep_run_is c v m clauses set of edges is solves = subst (λ n. IsKeepEdge c set (first_state c v) (run_inputs c v n)) (sym edges) (record { input = inputs_at c v 0; one = refl; is = keep_is c v set of (subst (Solves v) is solves) })

-- sizes
pub first_size : (c : Circuit) (v : ℕ → Bool) → length (first_state c v) ≡ length c.latches.items
unfolding first_state
first_size c v = omega (arith, length-map (latch_places 0 c.graph) (frame c v 0), length-latch_places 0 c.graph, c.latched)

inputs_size : (c : Circuit) (v : ℕ → Bool) (t : ℕ) → length (inputs_at c v t) ≡ c.inputs
unfolding inputs_at
inputs_size c v t = omega (arith, length-map (input_places 0 c.graph) (frame c v t), length-input_places 0 c.graph, c.numbered)

pub run_sizes : (c : Circuit) (v : ℕ → Bool) (m : ℕ) → All (λ (x : List Bool). length x ≡ c.inputs) (run_inputs c v m)
run_sizes c v zero = All-nil (λ (x : List Bool). length x ≡ c.inputs)
run_sizes c v (suc m) = All-push (λ (x : List Bool). length x ≡ c.inputs) (run_inputs c v m) (inputs_at c v m) (run_sizes c v m) (inputs_size c v m)

pub has_sizes : (c : Circuit) (v : ℕ → Bool) (m : ℕ) (r : CircuitRun) → r.start.items ≡ first_state c v → edges_of r ≡ run_inputs c v m → HasSizes c r
has_sizes c v m r p q = record { state = ap length p ∙ first_size c v; inputs = subst (All (λ (x : List Bool). length x ≡ c.inputs)) (sym q) (run_sizes c v m) }
