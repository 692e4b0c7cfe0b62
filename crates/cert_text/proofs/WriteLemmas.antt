-- Loops that write, and what a safe circuit's certificate is written of.
use Rattle.std.proofs.Common.{◌≡◌, ℕ, zero, suc, ◌+◌, ◌<◌, ◌≤◌, nat_lt, false, true, List, [], ◌∷◌, ◌++◌, length, map, take, drop, get_or, slice_get, Some, refl, sym, ◌∙◌, ap, subst, arith, inl, inr, append_assoc, length-append, add-one, drop-cons}
use Rattle.std.specs.List.{All}
use Rattle.std.specs.Option.{option_map}
use Rattle.std.proofs.lemmas.Bool.{cases_Bool, lt-ltb, ltb-true}
use Rattle.std.proofs.lemmas.List.{take_more, take_all, map_push, length-map}
use Rattle.std.proofs.lemmas.List.Elements.{All-append, All-cons, All-nil}
use Rattle.std.proofs.lemmas.Option.{slice_get-map, same_Some, slice_get_within}
use Rattle.lemma_checker.specs.Chains.{ReachesEmpty}
use Rattle.lemma_checker.specs.Checker.{link}
use Rattle.lemma_checker.proofs.ListLemmas.{get_either}
use Rattle.unroll_cnf.specs.declared.latch_literal.LatchLiteral.{LatchLiteral}
use Rattle.unroll_cnf.specs.Latches.{AreApart}
use Rattle.unroll_cnf.specs.Queries.{base_clauses, step_clauses, keep_clauses}
use Rattle.k_induction.specs.declared.verdict.SafeCircuit.{SafeCircuit}
use Rattle.cert_text.specs.Reading.{Link, query_clauses}
use Rattle.cert_text.specs.Lines.{due_after}
use Rattle.cert_text.specs.Text.{chain_line, query_lines, head_lines, text_of_lines}
use Rattle.cert_text.specs.Laws.{IsSmall, IsProof}
use Rattle.cert_text.specs.Accepting.{parts_of}

-- one element more is written
pub loop_text : {A : Type 0} (h : ℕ → A → List ℕ) (g : ℕ → List A → List ℕ) (xs : List A) (i : ℕ) (x : A) (old new whole : List ℕ)
    → ((j : ℕ) (y : A) (ys : List A) → g j (y ∷ ys) ≡ h j y ++ g (j + 1) ys) → i < length xs → x ≡ get_or xs i x → new ≡ old ++ h i x
    → old ++ g i (drop i xs) ≡ whole → new ++ g (i + 1) (drop (i + 1) xs) ≡ whole
loop_text h g xs i x old new whole opens lt is pushed before =
    let next : drop i xs ≡ get_or xs i x ∷ drop (i + 1) xs = drop-cons xs i x lt ∙ ap (λ j. get_or xs i x ∷ drop j xs) (sym (add-one i)) in
    let first : drop i xs ≡ x ∷ drop (i + 1) xs = next ∙ ap (λ y. y ∷ drop (i + 1) xs) (sym is) in
    let opened : g i (drop i xs) ≡ h i x ++ g (i + 1) (drop (i + 1) xs) = ap (g i) first ∙ opens i x (drop (i + 1) xs) in
    ap (λ t. t ++ g (i + 1) (drop (i + 1) xs)) pushed ∙ (append_assoc old (h i x) (g (i + 1) (drop (i + 1) xs)) ∙ (ap (λ t. old ++ t) (sym opened) ∙ before))

pub loop_all : {A B : Type 0} (f : A → B) (P : B → Type 0) (xs : List A) (i : ℕ) (x : A) → i < length xs → x ≡ get_or xs i x → P (f x) → All P (map f (take i xs)) → All P (map f (take (i + 1) xs))
loop_all f P xs i x lt is here before =
    let more : map f (take (i + 1) xs) ≡ map f (take i xs) ++ f (get_or xs i x) ∷ [] = ap (map f) (take_more xs i x lt) ∙ map_push f (take i xs) (get_or xs i x) in
    subst (All P) (sym more) (All-append P (map f (take i xs)) (f (get_or xs i x) ∷ []) before (All-cons P (f (get_or xs i x)) [] (subst (λ y. P (f y)) is here) (All-nil P)))

pub loop_each : {A : Type 0} (P : A → Type 0) (xs : List A) (i : ℕ) (x : A) → i < length xs → x ≡ get_or xs i x → P x → All P (take i xs) → All P (take (i + 1) xs)
loop_each P xs i x lt is here before =
    subst (All P) (sym (take_more xs i x lt)) (All-append P (take i xs) (get_or xs i x ∷ []) before (All-cons P (get_or xs i x) [] (subst P is here) (All-nil P)))

pub all_done : {A B : Type 0} (f : A → B) (P : B → Type 0) (xs : List A) (i : ℕ) → length xs ≤ i → All P (map f (take i xs)) → All P (map f xs)
all_done f P xs i le before = subst (λ ys. All P (map f ys)) (take_all i xs le) before

pub each_done : {A : Type 0} (P : A → Type 0) (xs : List A) (i : ℕ) → length xs ≤ i → All P (take i xs) → All P xs
each_done P xs i le before = subst (All P) (take_all i xs le) before

-- texts of lines, one behind another
pub text_append : (a b : List (List ℕ)) → text_of_lines (a ++ b) ≡ text_of_lines a ++ text_of_lines b
text_append [] b = refl
text_append (line ∷ a) b = ap (λ rest. line ++ (10 ∷ rest)) (text_append a b) ∙ sym (append_assoc line (10 ∷ text_of_lines a) (text_of_lines b))

pub line_first : {A : Type 0} (f : A → List ℕ) (j : ℕ) (x : A) (xs : List A) → text_of_lines (map f (x ∷ xs)) ≡ text_of_lines (f x ∷ []) ++ text_of_lines (map f xs)
line_first f j x xs = text_append (f x ∷ []) (map f xs)

queries_append : (k j : ℕ) (a b : List (List Link)) → query_lines k j (a ++ b) ≡ query_lines k j a ++ query_lines k (j + length a) b
queries_append k j [] b = let e : j ≡ j + 0 = omega arith in ap (λ i. query_lines k i b) e
queries_append k j (q ∷ a) b =
    let e : j + 1 + length a ≡ j + suc (length a) = omega arith in
    ap (λ rest. map chain_line q ++ (due_after k j ∷ rest)) (queries_append k (j + 1) a b ∙ ap (λ i. query_lines k (j + 1) a ++ query_lines k i b) e)
    ∙ sym (append_assoc (map chain_line q) (due_after k j ∷ query_lines k (j + 1) a) (query_lines k (j + suc (length a)) b))

pub query_first : {A : Type 0} (f : A → List Link) (k j : ℕ) (x : A) (xs : List A) → text_of_lines (query_lines k (j + 1) (map f (x ∷ xs))) ≡ text_of_lines (query_lines k (j + 1) (f x ∷ [])) ++ text_of_lines (query_lines k (j + 1 + 1) (map f xs))
query_first f k j x xs = ap text_of_lines (queries_append k (j + 1) (f x ∷ []) (map f xs)) ∙ text_append (query_lines k (j + 1) (f x ∷ [])) (query_lines k (j + 1 + 1) (map f xs))

pub behind : (a b : List (List ℕ)) (old mid new : List ℕ) → mid ≡ old ++ text_of_lines a → new ≡ mid ++ text_of_lines b → new ≡ old ++ text_of_lines (a ++ b)
behind a b old mid new first second = second ∙ (ap (λ t. t ++ text_of_lines b) first ∙ (append_assoc old (text_of_lines a) (text_of_lines b) ∙ ap (λ t. old ++ t) (sym (text_append a b))))

-- the whole: the lines before the chains, and the lines of the queries
pub whole_text : (k : ℕ) (set : List (List LatchLiteral)) (keep step : List Link) (bases : List (List Link)) (a b c d : List ℕ) → length bases ≡ k
    → a ≡ text_of_lines (head_lines k set) → b ≡ a ++ text_of_lines (query_lines k 0 (keep ∷ [])) → c ≡ b ++ text_of_lines (query_lines k 1 bases) → d ≡ c ++ text_of_lines (query_lines k (k + 1) (step ∷ []))
    → d ≡ text_of_lines (head_lines k set ++ query_lines k 0 (keep ∷ (bases ++ step ∷ [])))
whole_text k set keep step bases a b c d long one two three four =
    let last : 1 + length bases ≡ k + 1 = omega (arith, long) in
    let queries : query_lines k 0 (keep ∷ (bases ++ step ∷ [])) ≡ query_lines k 0 (keep ∷ []) ++ (query_lines k 1 bases ++ query_lines k (k + 1) (step ∷ [])) =
    queries_append k 0 (keep ∷ []) (bases ++ step ∷ []) ∙ ap (λ t. query_lines k 0 (keep ∷ []) ++ t) (queries_append k 1 bases (step ∷ []) ∙ ap (λ i. query_lines k 1 bases ++ query_lines k i (step ∷ [])) last) in
    let first : b ≡ text_of_lines (head_lines k set ++ query_lines k 0 (keep ∷ [])) = behind (head_lines k set) (query_lines k 0 (keep ∷ [])) [] a b one two in
    let second : c ≡ text_of_lines ((head_lines k set ++ query_lines k 0 (keep ∷ [])) ++ query_lines k 1 bases) = behind (head_lines k set ++ query_lines k 0 (keep ∷ [])) (query_lines k 1 bases) [] b c first three in
    let third : d ≡ text_of_lines (((head_lines k set ++ query_lines k 0 (keep ∷ [])) ++ query_lines k 1 bases) ++ query_lines k (k + 1) (step ∷ [])) = behind ((head_lines k set ++ query_lines k 0 (keep ∷ [])) ++ query_lines k 1 bases) (query_lines k (k + 1) (step ∷ [])) [] c d second four in
    let flat : ((head_lines k set ++ query_lines k 0 (keep ∷ [])) ++ query_lines k 1 bases) ++ query_lines k (k + 1) (step ∷ []) ≡ head_lines k set ++ (query_lines k 0 (keep ∷ []) ++ (query_lines k 1 bases ++ query_lines k (k + 1) (step ∷ []))) =
    append_assoc (head_lines k set ++ query_lines k 0 (keep ∷ [])) (query_lines k 1 bases) (query_lines k (k + 1) (step ∷ [])) ∙ append_assoc (head_lines k set) (query_lines k 0 (keep ∷ [])) (query_lines k 1 bases ++ query_lines k (k + 1) (step ∷ [])) in
    third ∙ ap text_of_lines (flat ∙ ap (λ t. head_lines k set ++ t) (sym queries))

-- the parts of a safe circuit refute all its queries
abbrev pub base_links : SafeCircuit → List (List Link)
base_links safe = map (λ b. map link b.items) safe.bases.items

mapped_at : {A B : Type 0} (f : A → B) (xs : List A) (j : ℕ) (y : B) → slice_get (map f xs) j ≡ Some y → (x : A) × ((slice_get xs j ≡ Some x) × (f x ≡ y))
mapped_at f [] j y at = absurd (let no : ⊥ = cc in no)
mapped_at f (x ∷ xs) zero y at = (x, (refl, same_Some (f x) y at))
mapped_at f (x ∷ xs) (suc j) y at = mapped_at f xs j y at

base_at : (safe : SafeCircuit) (j : ℕ) (chains : List Link) → slice_get (base_links safe) j ≡ Some chains → ReachesEmpty (base_clauses safe.circuit (j + 1)) chains
base_at safe j chains at =
    let found = mapped_at (λ b. map link b.items) safe.bases.items j chains at in
    let items : slice_get (map (λ b. b.items) safe.bases.items) j ≡ Some found.0.items = slice_get-map (λ b. b.items) safe.bases.items j ∙ ap (option_map (λ b. b.items)) found.1.0 in
    subst (λ (z : List Link). ReachesEmpty (base_clauses safe.circuit (j + 1)) z) found.1.1 (safe.bases_refute.each j found.0.items items)

only_step : (step chains : List Link) (m : ℕ) → slice_get (step ∷ []) m ≡ Some chains → (m ≡ 0) × (step ≡ chains)
only_step step chains zero at = (refl, same_Some step chains at)
only_step step chains (suc m) at = absurd (let no : ⊥ = cc in no)

query_at : (safe : SafeCircuit) (j : ℕ) (chains : List Link) → slice_get (parts_of safe).queries j ≡ Some chains → ReachesEmpty (query_clauses safe.circuit safe.k safe.set.clauses.items j) chains
query_at safe zero chains at = subst (λ (z : List Link). ReachesEmpty (keep_clauses safe.circuit safe.set.clauses.items) z) (same_Some (map link safe.set.chains.items) chains at) safe.keep_refutes
query_at safe (suc j) chains at = elim (get_either (base_links safe) (map link safe.step.items ∷ []) j chains at) [
  | inl base ↦
      let within : j < safe.k = omega (arith, slice_get_within (base_links safe) j chains base, length-map safe.bases.items (λ b. map link b.items), safe.counted) in
      let test : nat_lt j safe.k ≡ true = lt-ltb j safe.k within in
      rw test (base_at safe j chains base)
  | inr past ↦
      let last : (past.0 ≡ 0) × (map link safe.step.items ≡ chains) = only_step (map link safe.step.items) chains past.0 past.1 in
      let at_end : j ≡ safe.k = omega (arith, last.0, past.2, length-map safe.bases.items (λ b. map link b.items), safe.counted) in
      let test : nat_lt j safe.k ≡ false = not_below j safe.k at_end in
      rw test (subst (λ (z : List Link). ReachesEmpty (step_clauses safe.circuit safe.set.clauses.items safe.k) z) last.1 safe.step_refutes)
]
  where
    not_below : (i k : ℕ) → i ≡ k → nat_lt i k ≡ false
    not_below i k e = elim (cases_Bool (nat_lt i k)) [ inl t ↦ absurd (let lt : i < k = ltb-true i k t in omega arith) | inr f ↦ f ]

pub safe_proof : (safe : SafeCircuit) → All AreApart safe.set.clauses.items → All IsSmall (map link safe.set.chains.items) → All (All IsSmall) (base_links safe) → All IsSmall (map link safe.step.items) → IsProof safe.circuit (parts_of safe)
safe_proof safe apart keep bases step = record {
  some = safe.some;
  few = safe.few;
  askable = safe.askable;
  apart = apart;
  counted = omega (arith, length-append (base_links safe) (map link safe.step.items ∷ []), length-map safe.bases.items (λ b. map link b.items), safe.counted);
  refuted = query_at safe;
  small = All-cons (All IsSmall) (map link safe.set.chains.items) (base_links safe ++ map link safe.step.items ∷ []) keep
      (All-append (All IsSmall) (base_links safe) (map link safe.step.items ∷ []) bases (All-cons (All IsSmall) (map link safe.step.items) [] step (All-nil (All IsSmall))));
}
