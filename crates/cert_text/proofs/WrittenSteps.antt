-- Reading line by line what was written, up to its acceptance.
use Rattle.std.proofs.Common.{◌≡◌, ℕ, suc, ◌+◌, ◌^◌, ◌<◌, ◌≤◌, Bool, true, Some, codes, List, [], ◌∷◌, ◌++◌, length, map, take, drop, get_or, slice_get, refl, sym, ◌∙◌, ap, subst, arith, inr, append_assoc, length-append, length-take-le}
use Rattle.std.specs.List.{All}
use Rattle.std.specs.Fmt.{decimal}
use Rattle.std.specs.Str.{bytes_eq}
use Rattle.std.proofs.Math.Logic.{∥∥₁_map, ∥∥₁_map₂}
use Rattle.std.proofs.lemmas.Bool.{and_from}
use Rattle.std.proofs.lemmas.List.{append-nil, take-take, take-append-drop}
use Rattle.std.proofs.lemmas.Option.{slice_get_within, slice_get-get_or, get_or_from_slice_get}
use Rattle.std.proofs.lemmas.Slice.Eq.{bytes_eq-Decides}
use Rattle.lemma_checker.specs.declared.literal.Literal.{Literal}
use Rattle.lemma_checker.specs.Clauses.{set_of}
use Rattle.lemma_checker.specs.Chains.{chain_result, AreDerived, ReachesEmpty}
use Rattle.lemma_checker.proofs.ListLemmas.{get_kept, get_right}
use Rattle.gate_graph.specs.declared.circuits.Circuit.{Circuit}
use Rattle.gate_graph.proofs.GraphLemmas.{latches_within}
use Rattle.unroll_cnf.specs.declared.latch_literal.LatchLiteral.{LatchLiteral}
use Rattle.unroll_cnf.specs.Latches.{AreApart, IsOfLatches, weight}
use Rattle.cert_text.specs.Lines.{chain_of, due_after}
use Rattle.cert_text.specs.Reading.{State, HeaderDue, BoundDue, CountDue, ClausesDue, ChainsDue, Ended, Goes, Gives, next_of, Accepted, Link, Parts, Resolves, IsCertificate, query_clauses, closed}
use Rattle.cert_text.specs.Text.{clause_line, chain_line, query_lines, head_lines, cert_text}
use Rattle.cert_text.specs.Laws.{IsSmall, IsProof}
use Rattle.cert_text.proofs.ReadLemmas.{due_go, header_due, keep_due, bound_go, bound_within, count_go, clause_go, chain_go, close_go, closed_more, closed_last}
use Rattle.cert_text.proofs.WrittenLines.{AreLow, are_lines, is_line, are_lines-append, lines_written, tail_written, named_number, named_line, clause_written, clause_is_line, chain_written, chain_is_line, due_no_chain, due_is_line}

-- from this state the lines lead to the acceptance of the parts, whatever number the first has
pub record Takes (c : Circuit) (s : State) (lines : List (List ℕ)) (p : Parts) : Type 0 where
  pub all : (n : ℕ) → Gives c s lines [] n (Accepted p)

take_line : (c : Circuit) (s t : State) (line : List ℕ) (lines : List (List ℕ)) (p : Parts) → Goes (next_of c s line) t → Takes c t lines p → Takes c s (line ∷ lines) p
take_line c s t line lines p goes rest = record { all = λ n. inr (t, (goes, rest.all (n + 1))) }

same_bytes : (line : List ℕ) → bytes_eq line line ≡ true
same_bytes line = (bytes_eq-Decides line line).1 refl

-- the clauses of the set
pub record AreFine (n : ℕ) (set : List (List LatchLiteral)) : Type 0 where
  pub low : All (AreLow n) set
  pub apart : All AreApart set

fine_first : (n : ℕ) (d : List LatchLiteral) (ds : List (List LatchLiteral)) → AreFine n (d ∷ ds) → AreLow n d × AreApart d
fine_first n d ds fine = (fine.low 0 d (omega arith), fine.apart 0 d (omega arith))

fine_rest : (n : ℕ) (d : List LatchLiteral) (ds : List (List LatchLiteral)) → AreFine n (d ∷ ds) → AreFine n ds
fine_rest n d ds fine = record { low = λ i x lt. fine.low (suc i) x (omega arith); apart = λ i x lt. fine.apart (suc i) x (omega arith) }

take_set : (c : Circuit) (k n : ℕ) (set ds : List (List LatchLiteral)) (lines : List (List ℕ)) (p : Parts) → length c.latches.items ≡ n → n < 2 ^ 32 → AreFine n ds
    → Takes c (ClausesDue k (set ++ ds) 0) lines p → Takes c (ClausesDue k set (length ds)) (map clause_line ds ++ lines) p
take_set c k n set [] lines p long small fine rest = subst (λ (z : List (List LatchLiteral)). Takes c (ClausesDue k z 0) lines p) (append-nil set) rest
take_set c k n set (d ∷ ds) lines p long small fine rest =
    let first : AreLow n d × AreApart d = fine_first n d ds fine in
    let later : Takes c (ClausesDue k ((set ++ d ∷ []) ++ ds) 0) lines p = subst (λ (z : List (List LatchLiteral)). Takes c (ClausesDue k z 0) lines p) (sym (append_assoc set (d ∷ []) ds)) rest in
    take_line c (ClausesDue k set (suc (length ds))) (ClausesDue k (set ++ d ∷ []) (length ds)) (clause_line d) (map clause_line ds ++ lines) p
    (clause_go c k set (length ds) n (clause_line d) d long (clause_written n d small first.0 first.1))
    (take_set c k n (set ++ d ∷ []) ds lines p long small (fine_rest n d ds fine) later)

-- the chains of a query
derived_front : (clauses added : List (List Literal)) (before after : List Link) → AreDerived clauses added (before ++ after) → AreDerived clauses (take (length before) added) before
derived_front clauses added before after d =
    let m : ℕ = length before in
    let enough : m ≤ length added = omega (arith, d.lengths, length-append before after) in
    record {
      lengths = omega (arith, length-take-le m added enough);
      each = λ i clause ids pivots at_added at_chain.
          let within : i < m = slice_get_within before i (ids, pivots) at_chain in
          let whole : take m added ++ drop m added ≡ added = take-append-drop m added in
          let here : slice_get added i ≡ Some clause = subst (λ (z : List (List Literal)). slice_get z i ≡ Some clause) whole (get_kept (take m added) (drop m added) i clause at_added) in
          let given : chain_result (clauses ++ take i added) ids pivots ≡ Some (set_of clause) = d.each i clause ids pivots here (get_kept before after i (ids, pivots) at_chain) in
          subst (λ (z : List (List Literal)). chain_result (clauses ++ z) ids pivots ≡ Some (set_of clause)) (sym (take-take i m added (omega arith))) given;
    }

resolves_next : (clauses added : List (List Literal)) (before after : List Link) (chain : Link) → AreDerived clauses added (before ++ chain ∷ after) → Resolves clauses before chain
resolves_next clauses added before after chain d =
    let m : ℕ = length before in
    let within : m < length added = omega (arith, d.lengths, length-append before (chain ∷ after)) in
    let zero_right : m + 0 ≡ m = omega arith in
    let at_chain : slice_get (before ++ chain ∷ after) m ≡ Some chain = subst (λ i. slice_get (before ++ chain ∷ after) i ≡ Some chain) zero_right (get_right before (chain ∷ after) 0) in
    record {
      added = take m added;
      derived = derived_front clauses added before (chain ∷ after) d;
      clause = get_or added m [];
      result = d.each m (get_or added m []) chain.0 chain.1 (slice_get-get_or added m [] within) at_chain;
    }

some_ids : (clauses : List (List Literal)) (ids pivots : List ℕ) (set : ℕ → Bool) → chain_result clauses ids pivots ≡ Some set → 0 < length ids
some_ids clauses [] pivots set h = absurd (let no : ⊥ = cc in no)
some_ids clauses (i ∷ ids) pivots set h = omega arith

take_chains : (c : Circuit) (k : ℕ) (set : List (List LatchLiteral)) (done : List (List Link)) (added : List (List Literal)) (before after : List Link) (lines : List (List ℕ)) (p : Parts)
    → AreDerived (query_clauses c k set (length done)) added (before ++ after) → All IsSmall after
    → Takes c (ChainsDue k set done (before ++ after)) lines p → Takes c (ChainsDue k set done before) (map chain_line after ++ lines) p
take_chains c k set done added before [] lines p d small rest = subst (λ (z : List Link). Takes c (ChainsDue k set done z) lines p) (append-nil before) rest
take_chains c k set done added before (chain ∷ after) lines p d small rest =
    let clauses : List (List Literal) = query_clauses c k set (length done) in
    let onward : (before ++ chain ∷ []) ++ after ≡ before ++ chain ∷ after = append_assoc before (chain ∷ []) after in
    let resolves : Resolves clauses before chain = resolves_next clauses added before after chain d in
    let some : 0 < length chain.0 = some_ids (clauses ++ resolves.added) chain.0 chain.1 (set_of resolves.clause) resolves.result in
    let is : chain_of (chain_line chain) ≡ Some chain = chain_written chain (small 0 chain (omega arith)) some in
    take_line c (ChainsDue k set done before) (ChainsDue k set done (before ++ chain ∷ [])) (chain_line chain) (map chain_line after ++ lines) p
    (chain_go c k set done before (chain_line chain) chain is resolves)
    (take_chains c k set done added (before ++ chain ∷ []) after lines p
    (subst (λ (z : List Link). AreDerived clauses added z) (sym onward) d)
    (λ i x lt. small (suc i) x (omega arith))
    (subst (λ (z : List Link). Takes c (ChainsDue k set done z) lines p) (sym onward) rest))

take_query : (c : Circuit) (k : ℕ) (set : List (List LatchLiteral)) (done : List (List Link)) (chains : List Link) (lines : List (List ℕ)) (p : Parts)
    → ReachesEmpty (query_clauses c k set (length done)) chains → All IsSmall chains
    → ∥ Takes c (closed k set done chains) lines p ∥₁ → ∥ Takes c (ChainsDue k set done []) (map chain_line chains ++ due_after k (length done) ∷ lines) p ∥₁
take_query c k set done chains lines p reaches small rest = ∥∥₁_map₂ reaches rest (λ e later.
    take_chains c k set done e.added [] chains (due_after k (length done) ∷ lines) p e.derived small
    (take_line c (ChainsDue k set done chains) (closed k set done chains) (due_after k (length done)) lines p
    (close_go c k set done chains (due_after k (length done)) (due_no_chain k (length done)) (same_bytes (due_after k (length done))) reaches)
    later))

-- the queries that are left, one at least
query_at : (done queries all : List (List Link)) (chains : List Link) → done ++ chains ∷ queries ≡ all → slice_get all (length done) ≡ Some chains
query_at done queries all chains whole =
    let zero_right : length done + 0 ≡ length done = omega arith in
    subst (λ (z : List (List Link)). slice_get z (length done) ≡ Some chains) whole (subst (λ i. slice_get (done ++ chains ∷ queries) i ≡ Some chains) zero_right (get_right done (chains ∷ queries) 0))

query_small : (c : Circuit) (p : Parts) (done queries : List (List Link)) (chains : List Link) → IsProof c p → done ++ chains ∷ queries ≡ p.queries → All IsSmall chains
query_small c p done queries chains proof all =
    let within : length done < length p.queries = omega (arith, ap length all, length-append done (chains ∷ queries)) in
    subst (All IsSmall) (get_or_from_slice_get p.queries (length done) chains [] (query_at done queries p.queries chains all)) (proof.small (length done) [] within)

take_queries : (c : Circuit) (p : Parts) (done queries : List (List Link)) (chains : List Link) → IsProof c p → done ++ chains ∷ queries ≡ p.queries
    → ∥ Takes c (ChainsDue p.k p.set done []) (query_lines p.k (length done) (chains ∷ queries)) p ∥₁
take_queries c p done [] chains proof all =
    let counted : length p.queries ≡ p.k + 2 = proof.counted in
    let last : p.k < length done = omega (arith, ap length all, length-append done (chains ∷ [])) in
    let ended : ∥ Takes c (Ended p.k p.set p.queries) [] p ∥₁ = ∣ record { all = λ n. refl } ∣₁ in
    let same : Ended p.k p.set p.queries ≡ closed p.k p.set done chains = ap (Ended p.k p.set) (sym all) ∙ sym (closed_last p.k p.set done chains last) in
    take_query c p.k p.set done chains [] p (proof.refuted (length done) chains (query_at done [] p.queries chains all)) (query_small c p done [] chains proof all)
    (subst (λ (t : State). ∥ Takes c t [] p ∥₁) same ended)
take_queries c p done (next ∷ queries) chains proof all =
    let counted : length p.queries ≡ p.k + 2 = proof.counted in
    let within : length done ≤ p.k = omega (arith, ap length all, length-append done (chains ∷ next ∷ queries)) in
    let onward : (done ++ chains ∷ []) ++ next ∷ queries ≡ p.queries = append_assoc done (chains ∷ []) (next ∷ queries) ∙ all in
    let more : length (done ++ chains ∷ []) ≡ length done + 1 = length-append done (chains ∷ []) in
    let later : ∥ Takes c (ChainsDue p.k p.set (done ++ chains ∷ []) []) (query_lines p.k (length (done ++ chains ∷ [])) (next ∷ queries)) p ∥₁ = take_queries c p (done ++ chains ∷ []) queries next proof onward in
    take_query c p.k p.set done chains (query_lines p.k (length done + 1) (next ∷ queries)) p (proof.refuted (length done) chains (query_at done (next ∷ queries) p.queries chains all)) (query_small c p done (next ∷ queries) chains proof all)
    (subst (λ (t : State). ∥ Takes c t (query_lines p.k (length done + 1) (next ∷ queries)) p ∥₁) (sym (closed_more p.k p.set done chains within))
    (subst (λ i. ∥ Takes c (ChainsDue p.k p.set (done ++ chains ∷ []) []) (query_lines p.k i (next ∷ queries)) p ∥₁) more later))

-- the lines before the chains
latches_few : (c : Circuit) → length c.latches.items < 2 ^ 32
latches_few c = omega (arith, latches_within c.graph, c.latched, c.few)

all_low : (n : ℕ) (d : List LatchLiteral) → IsOfLatches n d → AreLow n d
all_low n d of = λ j l lt. of.each j (get_or d j l) (slice_get-get_or d j l lt)

fine_set : (c : Circuit) (p : Parts) → IsProof c p → AreFine (length c.latches.items) p.set
fine_set c p proof = record {
  low = λ i d lt. all_low (length c.latches.items) (get_or p.set i d) (proof.askable.of.each i (get_or p.set i d) (slice_get-get_or p.set i d lt));
  apart = proof.apart;
}

pub weight_long : (set : List (List LatchLiteral)) → length set ≤ weight set
weight_long [] = omega arith
weight_long (d ∷ ds) = omega (arith, weight_long ds)

take_head : (c : Circuit) (p : Parts) (lines : List (List ℕ)) → IsProof c p → Takes c (ChainsDue p.k p.set [] []) lines p → Takes c HeaderDue (head_lines p.k p.set ++ lines) p
take_head c p lines proof rest =
    let n : ℕ = length c.latches.items in
    let small : p.k < 2 ^ 32 = omega (arith, proof.few) in
    let counted : length p.set < 2 ^ 32 = omega (arith, weight_long p.set, proof.askable.small) in
    let keep : Takes c (ClausesDue p.k p.set 0) (codes "q keep" ∷ lines) p = take_line c (ClausesDue p.k p.set 0) (ChainsDue p.k p.set [] []) (codes "q keep") lines p (due_go c (ClausesDue p.k p.set 0) (ChainsDue p.k p.set [] []) (codes "q keep") (codes "q keep") (keep_due c p.k p.set) (same_bytes (codes "q keep"))) rest in
    let set : Takes c (ClausesDue p.k [] (length p.set)) (map clause_line p.set ++ codes "q keep" ∷ lines) p = take_set c p.k n [] p.set (codes "q keep" ∷ lines) p refl (latches_few c) (fine_set c p proof) keep in
    let regrouped : Takes c (ClausesDue p.k [] (length p.set)) ((map clause_line p.set ++ codes "q keep" ∷ []) ++ lines) p = subst (λ (z : List (List ℕ)). Takes c (ClausesDue p.k [] (length p.set)) z p) (sym (append_assoc (map clause_line p.set) (codes "q keep" ∷ []) lines)) set in
    take_line c HeaderDue BoundDue (codes "cert 1") _ p (due_go c HeaderDue BoundDue (codes "cert 1") (codes "cert 1") (header_due c) (same_bytes (codes "cert 1")))
    (take_line c BoundDue (CountDue p.k) (codes "k " ++ decimal p.k) _ p (bound_go c (codes "k " ++ decimal p.k) p.k (named_number (codes "k") p.k refl small) (bound_within p.k (omega (arith, proof.some)) proof.few))
    (take_line c (CountDue p.k) (ClausesDue p.k [] (length p.set)) (codes "keep " ++ decimal (length p.set)) _ p (count_go c p.k (codes "keep " ++ decimal (length p.set)) (length p.set) (named_number (codes "keep") (length p.set) refl counted))
    regrouped))

-- no line has a line feed
clauses_are_lines : (n : ℕ) (set : List (List LatchLiteral)) → n < 2 ^ 32 → AreFine n set → are_lines (map clause_line set) ≡ true
clauses_are_lines n [] small fine = refl
clauses_are_lines n (d ∷ ds) small fine =
    and_from (is_line (clause_line d)) (are_lines (map clause_line ds)) (clause_is_line n d small (fine_first n d ds fine).0) (clauses_are_lines n ds small (fine_rest n d ds fine))

chains_are_lines : (chains : List Link) → All IsSmall chains → are_lines (map chain_line chains) ≡ true
chains_are_lines [] small = refl
chains_are_lines (chain ∷ chains) small =
    and_from (is_line (chain_line chain)) (are_lines (map chain_line chains)) (chain_is_line chain (small 0 chain (omega arith))) (chains_are_lines chains (λ i x lt. small (suc i) x (omega arith)))

queries_are_lines : (k j : ℕ) (queries : List (List Link)) → k < 2 ^ 32 → All (All IsSmall) queries → are_lines (query_lines k j queries) ≡ true
queries_are_lines k j [] few small = refl
queries_are_lines k j (chains ∷ queries) few small =
    are_lines-append (map chain_line chains) (due_after k j ∷ query_lines k (j + 1) queries) (chains_are_lines chains (small 0 chains (omega arith)))
    (and_from (is_line (due_after k j)) (are_lines (query_lines k (j + 1) queries)) (due_is_line k j few) (queries_are_lines k (j + 1) queries few (λ i x lt. small (suc i) x (omega arith))))

head_are_lines : (c : Circuit) (p : Parts) → IsProof c p → are_lines (head_lines p.k p.set) ≡ true
head_are_lines c p proof =
    let small : p.k < 2 ^ 32 = omega (arith, proof.few) in
    let counted : length p.set < 2 ^ 32 = omega (arith, weight_long p.set, proof.askable.small) in
    let set : are_lines (map clause_line p.set ++ codes "q keep" ∷ []) ≡ true = are_lines-append (map clause_line p.set) (codes "q keep" ∷ []) (clauses_are_lines (length c.latches.items) p.set (latches_few c) (fine_set c p proof)) refl in
    and_from (is_line (codes "k " ++ decimal p.k)) _ (named_line (codes "k") p.k refl small)
    (and_from (is_line (codes "keep " ++ decimal (length p.set))) _ (named_line (codes "keep") (length p.set) refl counted) set)

-- what was written is accepted
pub written_accepted : (c : Circuit) (p : Parts) → IsProof c p → ∥ IsCertificate c (cert_text p) p ∥₁
unfolding cert_text
written_accepted c p proof =
    let lines : List (List ℕ) = head_lines p.k p.set ++ query_lines p.k 0 p.queries in
    let few : p.k < 2 ^ 32 = omega (arith, proof.few) in
    let are : are_lines lines ≡ true = are_lines-append (head_lines p.k p.set) (query_lines p.k 0 p.queries) (head_are_lines c p proof) (queries_are_lines p.k 0 p.queries few proof.small) in
    ∥∥₁_map (from_first c p p.queries proof refl) (λ t. rw (lines_written lines are, tail_written lines are) ((take_head c p (query_lines p.k 0 p.queries) proof t).all 1))
  where
    from_first : (c : Circuit) (p : Parts) (queries : List (List Link)) → IsProof c p → queries ≡ p.queries → ∥ Takes c (ChainsDue p.k p.set [] []) (query_lines p.k 0 queries) p ∥₁
    from_first c p [] proof all = let counted : length p.queries ≡ p.k + 2 = proof.counted in absurd (omega (arith, ap length all))
    from_first c p (chains ∷ queries) proof all = take_queries c p [] queries chains proof all
