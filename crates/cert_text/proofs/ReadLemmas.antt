-- Reading step by step.
use Rattle.std.proofs.Common.{◌≡◌, ℕ, suc, ◌+◌, ◌-◌, ◌<◌, ◌≤◌, ◌==◌, nat_lt, nat_le, Bool, true, false, ◌&&◌, Option, Some, None, Result, Ok, Err, List, [], ◌∷◌, ◌++◌, length, take, drop, get_or, refl, sym, ◌∙◌, ap, subst, arith, inl, inr, ◌⊎◌, map, codes, true≢false, length-append, length-take-le, length-drop}
use Rattle.std.specs.List.{position, slice_split}
use Rattle.std.specs.Str.{bytes_eq}
use Rattle.gate_graph.specs.declared.circuits.Circuit.{Circuit}
use Rattle.unroll_cnf.specs.declared.limits.TheConstants.{MOST_EDGES}
use Rattle.cert_text.specs.declared.fault.CertCode.{CertCode}
use Rattle.cert_text.specs.declared.fault.CertCode.TheVariants as code
use Rattle.cert_text.specs.declared.fault.CertFault.{CertFault}
use Rattle.cert_text.specs.declared.fault.CertFault.TheVariants.{NoMemory, At}
use Rattle.cert_text.specs.Lines.{lines_of, tail_of, words_of, number_after}
use Rattle.cert_text.specs.Reading.{State, HeaderDue, BoundDue, CountDue, ClausesDue, ChainsDue, Ended, Next, Wrong, Go, IfResolves, IfDone, Goes, Faults, Answer, Accepted, Refused, next_of, at_end, Gives}
use Rattle.cert_text.specs.Steps.{TakesLine, ending, GivesFrom, Leads, Reads, IsOpen, IsDue, IsClosingFault, IsFault}
use Rattle.std.proofs.lemmas.Bool.{lt-ltb, le-leb, ltb-true, leb-true, cases_Bool, and_parts}
use Rattle.std.proofs.lemmas.List.{map_push, length-map}
use Rattle.unroll_cnf.specs.Queries.{base_clauses, step_clauses}
use Rattle.std.specs.Result.{IfOk, IfErr}
use Rattle.std.specs.declared.vec.Vec.{Vec}
use Rattle.std.specs.declared.alloc.Global.{Global}
use Rattle.lemma_checker.specs.declared.chain.Chain.{Chain}
use Rattle.lemma_checker.specs.declared.lemmas.Lemmas.{Lemmas}
use Rattle.lemma_checker.specs.Checker.{link}
use Rattle.std.proofs.lemmas.Grind.{not_there}
use Rattle.lemma_checker.specs.declared.literal.Literal.{Literal}
use Rattle.lemma_checker.specs.Clauses.{set_of}
use Rattle.lemma_checker.specs.Chains.{chain_result, has_empty, AreDerived, ReachesEmpty}
use Rattle.lemma_checker.proofs.SameSets.{result_same, added_same, behind_same, empty_same}
use Rattle.lemma_checker.proofs.ListLemmas.{get_push}
use Rattle.unroll_cnf.specs.declared.latch_literal.LatchLiteral.{LatchLiteral}
use Rattle.unroll_cnf.specs.Latches.{IsOfLatches, AreOfLatches, weight}
use Rattle.cert_text.specs.Lines.{clause_of, chain_of, due_after}
use Rattle.cert_text.specs.Reading.{Link, Parts, Resolves, query_clauses, closed, chain_next}
use Rattle.cert_text.proofs.CutLemmas.{next-taken, next-none, pieces-some}

is_feed : ℕ → Bool
is_feed byte = byte == 10

-- a line is taken
front_lines : (line : List ℕ) (pieces : List (List ℕ)) → 0 < length pieces → take (length (line ∷ pieces) - 1) (line ∷ pieces) ≡ line ∷ take (length pieces - 1) pieces
front_lines line [] some = absurd (omega arith)
front_lines line (p ∷ ps) some = let e : length (line ∷ p ∷ ps) - 1 ≡ suc (length (p ∷ ps) - 1) = omega arith in rw e refl

last_piece : (line : List ℕ) (pieces : List (List ℕ)) → 0 < length pieces → get_or (line ∷ pieces) (length (line ∷ pieces) - 1) [] ≡ get_or pieces (length pieces - 1) []
last_piece line [] some = absurd (omega arith)
last_piece line (p ∷ ps) some = let e : length (line ∷ p ∷ ps) - 1 ≡ suc (length (p ∷ ps) - 1) = omega arith in rw e refl

pub takes : (text : List ℕ) (place : ℕ) → position (λ byte. byte == 10) text ≡ Some place → place < length text → TakesLine text (take place text) (take (length text - (place + 1)) (drop (place + 1) text))
takes text place found lt =
    let later : List ℕ = take (length text - (place + 1)) (drop (place + 1) text) in
    let cut : slice_split (λ byte. byte == 10) text ≡ take place text ∷ slice_split (λ byte. byte == 10) later = next-taken (λ byte. byte == 10) text place found in
    let some : 0 < length (slice_split (λ byte. byte == 10) later) = pieces-some (λ byte. byte == 10) later in
    record {
      lines = ap (λ (ps : List (List ℕ)). take (length ps - 1) ps) cut ∙ front_lines (take place text) (slice_split (λ byte. byte == 10) later) some;
      tail = ap (λ (ps : List (List ℕ)). get_or ps (length ps - 1) []) cut ∙ last_piece (take place text) (slice_split (λ byte. byte == 10) later) some;
      long = omega (arith, length-take-le place text (omega arith), length-take-le (length text - (place + 1)) (drop (place + 1) text) (omega (arith, length-drop (place + 1) text)));
    }

pub takes_none : (text : List ℕ) → position (λ byte. byte == 10) text ≡ None → (lines_of text ≡ []) × (tail_of text ≡ text)
takes_none text none =
    let cut : slice_split (λ byte. byte == 10) text ≡ text ∷ [] = next-none (λ byte. byte == 10) text none in
    (ap (λ (ps : List (List ℕ)). take (length ps - 1) ps) cut, ap (λ (ps : List (List ℕ)). get_or ps (length ps - 1) []) cut)

-- one line
pub step_go : (c : Circuit) (s t : State) (text line later : List ℕ) (n m : ℕ) → TakesLine text line later → m ≡ n + 1 → Goes (next_of c s line) t → Leads c s text n t later m
step_go c s t text line later n m takes_it next goes = record {
  go = λ a g. rw (takes_it.lines, takes_it.tail) (inr (t, (goes, subst (λ i. Gives c t (lines_of later) (tail_of later) i a) next g)));
}

pub step_fault : (c : Circuit) (s : State) (text line later : List ℕ) (n : ℕ) (found : CertCode) → TakesLine text line later → Faults (next_of c s line) found → GivesFrom c s text n (Refused found n)
step_fault c s text line later n found takes_it faults = rw (takes_it.lines, takes_it.tail) (inl (found, (faults, refl)))

end_line : (s : State) (b : ℕ) (bs : List ℕ) (n : ℕ) → at_end s (b ∷ bs) n ≡ Refused code.CertLine n
end_line HeaderDue b bs n = refl
end_line BoundDue b bs n = refl
end_line (CountDue k) b bs n = refl
end_line (ClausesDue k set m) b bs n = refl
end_line (ChainsDue k set done chains) b bs n = refl
end_line (Ended k set done) b bs n = refl

end_open : (s : State) (text : List ℕ) (n : ℕ) → IsOpen s → at_end s text n ≡ Refused (ending text) n
end_open s [] n is_open = is_open n
end_open s (b ∷ bs) n is_open = end_line s b bs n

pub step_end : (c : Circuit) (s : State) (text : List ℕ) (n : ℕ) → IsOpen s → (lines_of text ≡ []) × (tail_of text ≡ text) → GivesFrom c s text n (Refused (ending text) n)
step_end c s text n is_open none = rw (none.0, none.1) (end_open s text n is_open)

-- one part behind another
pub leads_none : (c : Circuit) (s : State) (text : List ℕ) (n : ℕ) → Leads c s text n s text n
leads_none c s text n = record { go = λ a g. g }

pub leads_more : (c : Circuit) (s t u : State) (x y z : List ℕ) (n m k : ℕ) → Leads c s x n t y m → Leads c t y m u z k → Leads c s x n u z k
leads_more c s t u x y z n m k p q = record { go = λ a g. p.go a (q.go a g) }

pub reads_after : {A : Type 0} (c : Circuit) (s t : State) (x y z : List ℕ) (n m k : ℕ) (r : Result A CertFault) (to : A → State) → Leads c s x n t y m → Reads c t y m r to z k → Reads c s x n r to z k
reads_after c s t x y z n m k (Ok v) to p q = leads_more c s t (to v) x y z n m k p q
reads_after c s t x y z n m k (Err NoMemory) to p q = tt
reads_after c s t x y z n m k (Err (At found line)) to p q = p.go (Refused found line) q

-- a line that is due
pub due_go : (c : Circuit) (s t : State) (due line : List ℕ) → IsDue c s due t → bytes_eq line due ≡ true → Goes (next_of c s line) t
due_go c s t due line d same = rw (d.next line, same) refl

pub due_fault : (c : Circuit) (s t : State) (due line : List ℕ) → IsDue c s due t → bytes_eq line due ≡ false → Faults (next_of c s line) code.CertLine
due_fault c s t due line d other = rw (d.next line, other) refl

-- the line of k
pub bound_go : (c : Circuit) (line : List ℕ) (k : ℕ) → number_after (codes "k") (words_of line) ≡ Some k → (nat_lt 0 k && nat_le k MOST_EDGES) ≡ true → Goes (next_of c BoundDue line) (CountDue k)
unfolding next_of
bound_go c line k e within = rw (e, within) refl

pub bound_other : (c : Circuit) (line : List ℕ) (k : ℕ) → number_after (codes "k") (words_of line) ≡ Some k → (nat_lt 0 k && nat_le k MOST_EDGES) ≡ false → Faults (next_of c BoundDue line) code.CertLine
unfolding next_of
bound_other c line k e past = rw (e, past) refl

pub bound_none : (c : Circuit) (line : List ℕ) → number_after (codes "k") (words_of line) ≡ None → Faults (next_of c BoundDue line) code.CertLine
unfolding next_of
bound_none c line e = rw e refl

-- the line of the set's size
pub count_go : (c : Circuit) (k : ℕ) (line : List ℕ) (n : ℕ) → number_after (codes "keep") (words_of line) ≡ Some n → Goes (next_of c (CountDue k) line) (ClausesDue k [] n)
unfolding next_of
count_go c k line n e = rw e refl

pub count_none : (c : Circuit) (k : ℕ) (line : List ℕ) → number_after (codes "keep") (words_of line) ≡ None → Faults (next_of c (CountDue k) line) code.CertLine
unfolding next_of
count_none c k line e = rw e refl

-- the line of a clause
pub clause_go : (c : Circuit) (k : ℕ) (set : List (List LatchLiteral)) (n latches : ℕ) (line : List ℕ) (d : List LatchLiteral) → length c.latches.items ≡ latches → clause_of latches line ≡ Some d → Goes (next_of c (ClausesDue k set (suc n)) line) (ClausesDue k (set ++ d ∷ []) n)
unfolding next_of
clause_go c k set n latches line d long e = rw (long, e) refl

clause_none : (c : Circuit) (k : ℕ) (set : List (List LatchLiteral)) (n latches : ℕ) (line : List ℕ) → length c.latches.items ≡ latches → clause_of latches line ≡ None → Faults (next_of c (ClausesDue k set (suc n)) line) code.CertLine
unfolding next_of
clause_none c k set n latches line long e = rw (long, e) refl

pub set_step : (c : Circuit) (s : State) (k : ℕ) (set new : List (List LatchLiteral)) (count latches : ℕ) (x y z line : List ℕ) (n m j : ℕ) (d : List LatchLiteral) → length c.latches.items ≡ latches → clause_of latches line ≡ Some d → TakesLine y line z → j ≡ m + 1 → new ≡ set ++ d ∷ [] → length set < count
    → Leads c s x n (ClausesDue k set (count - length set)) y m → Leads c s x n (ClausesDue k new (count - length new)) z j
set_step c s k set new count latches x y z line n m j d long e takes_it next pushed less p =
    let left : count - length set ≡ suc (count - length new) = omega (arith, ap length pushed, length-append set (d ∷ [])) in
    let before : Leads c s x n (ClausesDue k set (suc (count - length new))) y m = subst (λ i. Leads c s x n (ClausesDue k set i) y m) left p in
    let goes : Goes (next_of c (ClausesDue k set (suc (count - length new))) line) (ClausesDue k new (count - length new)) = subst (λ (t : List (List LatchLiteral)). Goes (next_of c (ClausesDue k set (suc (count - length new))) line) (ClausesDue k t (count - length new))) (sym pushed) (clause_go c k set (count - length new) latches line d long e) in
    leads_more c s (ClausesDue k set (suc (count - length new))) (ClausesDue k new (count - length new)) x y z n m j before (step_go c (ClausesDue k set (suc (count - length new))) (ClausesDue k new (count - length new)) y line z m j takes_it next goes)

pub set_fault : (c : Circuit) (s : State) (k : ℕ) (set : List (List LatchLiteral)) (count latches : ℕ) (x y z line : List ℕ) (n m : ℕ) → length c.latches.items ≡ latches → clause_of latches line ≡ None → TakesLine y line z → length set < count
    → Leads c s x n (ClausesDue k set (count - length set)) y m → GivesFrom c s x n (Refused code.CertLine m)
set_fault c s k set count latches x y z line n m long e takes_it less p =
    let left : count - length set ≡ suc (count - length set - 1) = omega arith in
    p.go (Refused code.CertLine m) (step_fault c (ClausesDue k set (count - length set)) y line z m code.CertLine takes_it (subst (λ i. Faults (next_of c (ClausesDue k set i) line) code.CertLine) (sym left) (clause_none c k set (count - length set - 1) latches line long e)))

pub set_end : (c : Circuit) (s : State) (k : ℕ) (set : List (List LatchLiteral)) (count : ℕ) (x y : List ℕ) (n m : ℕ) → (lines_of y ≡ []) × (tail_of y ≡ y) → Leads c s x n (ClausesDue k set (count - length set)) y m → GivesFrom c s x n (Refused (ending y) m)
set_end c s k set count x y n m none p = p.go (Refused (ending y) m) (step_end c (ClausesDue k set (count - length set)) y m (λ i. refl) none)

pub set_done : (c : Circuit) (s : State) (k : ℕ) (set : List (List LatchLiteral)) (count : ℕ) (x y : List ℕ) (n m : ℕ) → count ≤ length set → Leads c s x n (ClausesDue k set (count - length set)) y m → Leads c s x n (ClausesDue k set 0) y m
set_done c s k set count x y n m le p = let none : count - length set ≡ 0 = omega arith in subst (λ i. Leads c s x n (ClausesDue k set i) y m) none p

pub weight_push : (set : List (List LatchLiteral)) (d : List LatchLiteral) → weight (set ++ d ∷ []) ≡ weight set + (1 + length d)
weight_push [] d = omega arith
weight_push (z ∷ set) d = omega (arith, weight_push set d)

pub of_push : (n : ℕ) (set : List (List LatchLiteral)) (d : List LatchLiteral) → AreOfLatches n set → IsOfLatches n d → AreOfLatches n (set ++ d ∷ [])
of_push n set d a of = record { each = λ i e is. elim (get_push set d i e is) [ inl old ↦ a.each i e old | inr p ↦ subst (IsOfLatches n) (sym p.1) of ] }

-- the lines of chains
chain_named : (c : Circuit) (k : ℕ) (set : List (List LatchLiteral)) (done : List (List Link)) (chains : List Link) (line : List ℕ) (o : Option Link) → chain_of line ≡ o → next_of c (ChainsDue k set done chains) line ≡ chain_next c k set done chains line o
unfolding next_of
chain_named c k set done chains line o e = ap (chain_next c k set done chains line) e

pub chain_go : (c : Circuit) (k : ℕ) (set : List (List LatchLiteral)) (done : List (List Link)) (chains : List Link) (line : List ℕ) (chain : Link) → chain_of line ≡ Some chain → Resolves (query_clauses c k set (length done)) chains chain → Goes (next_of c (ChainsDue k set done chains) line) (ChainsDue k set done (chains ++ chain ∷ []))
chain_go c k set done chains line chain e r = rw (chain_named c k set done chains line (Some chain) e) (r, refl)

pub chain_fault : (c : Circuit) (k : ℕ) (set : List (List LatchLiteral)) (done : List (List Link)) (chains : List Link) (line : List ℕ) (chain : Link) → chain_of line ≡ Some chain → (Resolves (query_clauses c k set (length done)) chains chain → ⊥) → Faults (next_of c (ChainsDue k set done chains) line) code.BadStep
chain_fault c k set done chains line chain e r = rw (chain_named c k set done chains line (Some chain) e) (r, refl)

pub close_go : (c : Circuit) (k : ℕ) (set : List (List LatchLiteral)) (done : List (List Link)) (chains : List Link) (line : List ℕ) → chain_of line ≡ None → bytes_eq line (due_after k (length done)) ≡ true → ReachesEmpty (query_clauses c k set (length done)) chains → Goes (next_of c (ChainsDue k set done chains) line) (closed k set done chains)
close_go c k set done chains line e due r = rw (chain_named c k set done chains line None e, due) (r, refl)

pub close_other : (c : Circuit) (k : ℕ) (set : List (List LatchLiteral)) (done : List (List Link)) (chains : List Link) (line : List ℕ) → chain_of line ≡ None → bytes_eq line (due_after k (length done)) ≡ false → Faults (next_of c (ChainsDue k set done chains) line) code.CertLine
close_other c k set done chains line e due = rw (chain_named c k set done chains line None e, due) refl

pub close_short : (c : Circuit) (k : ℕ) (set : List (List LatchLiteral)) (done : List (List Link)) (chains : List Link) (line : List ℕ) → chain_of line ≡ None → bytes_eq line (due_after k (length done)) ≡ true → (ReachesEmpty (query_clauses c k set (length done)) chains → ⊥) → Faults (next_of c (ChainsDue k set done chains) line) code.CertShort
close_short c k set done chains line e due r = rw (chain_named c k set done chains line None e, due) (r, refl)

-- what the checker of chains answers
pub resolves_not : (clauses added : List (List Literal)) (chains : List Link) (chain : Link) → AreDerived clauses added chains → chain_result (clauses ++ added) chain.0 chain.1 ≡ None → Resolves clauses chains chain → ⊥
resolves_not clauses added chains chain derived none r =
    let same : chain_result (clauses ++ r.added) chain.0 chain.1 ≡ chain_result (clauses ++ added) chain.0 chain.1 = result_same (clauses ++ r.added) (clauses ++ added) chain.0 chain.1 (behind_same clauses r.added added (added_same clauses r.added added chains r.derived derived)) in
    let no : ◌≡◌ {A = Option (ℕ → Bool)} (Some (set_of r.clause)) None = sym r.result ∙ (same ∙ none) in
    let bottom : ⊥ = cc in bottom

pub done_not : (clauses added : List (List Literal)) (chains : List Link) → AreDerived clauses added chains → has_empty (clauses ++ added) ≡ false → ReachesEmpty clauses chains → ⊥
done_not clauses added chains derived none r =
    not_there r (λ e. true≢false (sym e.empty ∙ (empty_same (clauses ++ e.added) (clauses ++ added) (behind_same clauses e.added added (added_same clauses e.added added chains e.derived derived)) ∙ none)))

pub bound_within : (k : ℕ) → 0 < k → k ≤ MOST_EDGES → (nat_lt 0 k && nat_le k MOST_EDGES) ≡ true
bound_within k p q =
    let low : nat_lt 0 k ≡ true = lt-ltb 0 k p in
    let high : nat_le k MOST_EDGES ≡ true = le-leb k MOST_EDGES q in
    rw (low, high) refl

pub bound_past : (k : ℕ) → ((0 < k) × (MOST_EDGES < k)) ⊎ (k ≤ 0) → (nat_lt 0 k && nat_le k MOST_EDGES) ≡ false
bound_past k h = elim (cases_Bool (nat_lt 0 k && nat_le k MOST_EDGES)) [
  | inl t ↦
      let low : 0 < k = ltb-true 0 k (and_parts (nat_lt 0 k) (nat_le k MOST_EDGES) t).0 in
      let high : k ≤ MOST_EDGES = leb-true k MOST_EDGES (and_parts (nat_lt 0 k) (nat_le k MOST_EDGES) t).1 in
      absurd (elim h [ inl p ↦ let past : MOST_EDGES < k = p.1 in omega arith | inr p ↦ omega arith ])
  | inr f ↦ f
]

-- the loop over the lines of chains
pub chain_step : (c : Circuit) (k : ℕ) (set : List (List LatchLiteral)) (done : List (List Link)) (clauses added : List (List Literal)) (clause : List Literal) (old new : List Chain) (chain : Chain) (x y z line : List ℕ) (n m j : ℕ)
    → clauses ≡ query_clauses c k set (length done) → AreDerived clauses added (map link old) → chain_result (clauses ++ added) chain.ids.items chain.pivots.items ≡ Some (set_of clause) → new ≡ old ++ chain ∷ []
    → chain_of line ≡ Some (link chain) → TakesLine y line z → j ≡ m + 1 → Leads c (ChainsDue k set done []) x n (ChainsDue k set done (map link old)) y m → Leads c (ChainsDue k set done []) x n (ChainsDue k set done (map link new)) z j
chain_step c k set done clauses added clause old new chain x y z line n m j query derived result pushed is takes_it next p =
    let r : Resolves clauses (map link old) (link chain) = record { added = added; derived = derived; clause = clause; result = result } in
    let q : Resolves (query_clauses c k set (length done)) (map link old) (link chain) = subst (λ (z : List (List Literal)). Resolves z (map link old) (link chain)) query r in
    let more : map link new ≡ map link old ++ link chain ∷ [] = ap (map link) pushed ∙ map_push link old chain in
    let goes : Goes (next_of c (ChainsDue k set done (map link old)) line) (ChainsDue k set done (map link new)) = subst (λ (t : List Link). Goes (next_of c (ChainsDue k set done (map link old)) line) (ChainsDue k set done t)) (sym more) (chain_go c k set done (map link old) line (link chain) is q) in
    leads_more c (ChainsDue k set done []) (ChainsDue k set done (map link old)) (ChainsDue k set done (map link new)) x y z n m j p (step_go c (ChainsDue k set done (map link old)) (ChainsDue k set done (map link new)) y line z m j takes_it next goes)

pub chain_bad : (c : Circuit) (k : ℕ) (set : List (List LatchLiteral)) (done : List (List Link)) (clauses added : List (List Literal)) (old : List Chain) (chain : Chain) (x y z line : List ℕ) (n m : ℕ)
    → clauses ≡ query_clauses c k set (length done) → AreDerived clauses added (map link old) → chain_result (clauses ++ added) chain.ids.items chain.pivots.items ≡ None
    → chain_of line ≡ Some (link chain) → TakesLine y line z → Leads c (ChainsDue k set done []) x n (ChainsDue k set done (map link old)) y m → GivesFrom c (ChainsDue k set done []) x n (Refused code.BadStep m)
chain_bad c k set done clauses added old chain x y z line n m query derived result is takes_it p =
    let r : Resolves clauses (map link old) (link chain) → ⊥ = resolves_not clauses added (map link old) (link chain) derived result in
    let q : Resolves (query_clauses c k set (length done)) (map link old) (link chain) → ⊥ = subst (λ (z : List (List Literal)). Resolves z (map link old) (link chain) → ⊥) query r in
    p.go (Refused code.BadStep m) (step_fault c (ChainsDue k set done (map link old)) y line z m code.BadStep takes_it (chain_fault c k set done (map link old) line (link chain) is q))

pub close_reads : (c : Circuit) (k : ℕ) (set : List (List LatchLiteral)) (done : List (List Link)) (lemmas : Lemmas) (due x y z line : List ℕ) (n m j : ℕ) (r : Result (Vec Chain Global) CertFault)
    → lemmas.formula.clauses ≡ query_clauses c k set (length done) → AreDerived lemmas.formula.clauses lemmas.added (map link lemmas.chains.items) → due ≡ due_after k (length done)
    → chain_of line ≡ None → TakesLine y line z → j ≡ m + 1 → Leads c (ChainsDue k set done []) x n (ChainsDue k set done (map link lemmas.chains.items)) y m
    → IfOk r (λ chains. (bytes_eq line due ≡ true) × (chains ≡ lemmas.chains) × ReachesEmpty lemmas.formula.clauses (map link chains.items)) → IfErr r (λ fault. IsClosingFault lemmas line due m fault)
    → Reads c (ChainsDue k set done []) x n r (λ chains. closed k set done (map link chains.items)) z j
close_reads c k set done lemmas due x y z line n m j (Ok v) query derived due_is is takes_it next p ok err =
    let here : bytes_eq line (due_after k (length done)) ≡ true = ap (bytes_eq line) (sym due_is) ∙ ok.0 in
    let reaches : ReachesEmpty (query_clauses c k set (length done)) (map link lemmas.chains.items) = subst (λ (w : Vec Chain Global). ReachesEmpty (query_clauses c k set (length done)) (map link w.items)) ok.1 (subst (λ (z : List (List Literal)). ReachesEmpty z (map link v.items)) query ok.2) in
    subst (λ (w : Vec Chain Global). Leads c (ChainsDue k set done []) x n (closed k set done (map link w.items)) z j) (sym ok.1)
    (leads_more c (ChainsDue k set done []) (ChainsDue k set done (map link lemmas.chains.items)) (closed k set done (map link lemmas.chains.items)) x y z n m j p
    (step_go c (ChainsDue k set done (map link lemmas.chains.items)) (closed k set done (map link lemmas.chains.items)) y line z m j takes_it next (close_go c k set done (map link lemmas.chains.items) line is here reaches)))
close_reads c k set done lemmas due x y z line n m j (Err NoMemory) query derived due_is is takes_it next p ok err = tt
close_reads c k set done lemmas due x y z line n m j (Err (At found at_line)) query derived due_is is takes_it next p ok err = elim err [
  | inl other ↦
      let there : bytes_eq line (due_after k (length done)) ≡ false = ap (bytes_eq line) (sym due_is) ∙ other.0 in
      let what : found ≡ code.CertLine = fault_code found code.CertLine at_line m other.1 in
      let where_at : at_line ≡ m = fault_line found code.CertLine at_line m other.1 in
      rw (what, where_at) (p.go (Refused code.CertLine m) (step_fault c (ChainsDue k set done (map link lemmas.chains.items)) y line z m code.CertLine takes_it (close_other c k set done (map link lemmas.chains.items) line is there)))
  | inr short ↦
      let here : bytes_eq line (due_after k (length done)) ≡ true = ap (bytes_eq line) (sym due_is) ∙ short.0 in
      let not_done : ReachesEmpty (query_clauses c k set (length done)) (map link lemmas.chains.items) → ⊥ = subst (λ (z : List (List Literal)). ReachesEmpty z (map link lemmas.chains.items) → ⊥) query (done_not lemmas.formula.clauses lemmas.added (map link lemmas.chains.items) derived short.1) in
      let what : found ≡ code.CertShort = fault_code found code.CertShort at_line m short.2 in
      let where_at : at_line ≡ m = fault_line found code.CertShort at_line m short.2 in
      rw (what, where_at) (p.go (Refused code.CertShort m) (step_fault c (ChainsDue k set done (map link lemmas.chains.items)) y line z m code.CertShort takes_it (close_short c k set done (map link lemmas.chains.items) line is here not_done)))
]
  where
    fault_code : (a b : CertCode) (i j : ℕ) → At a i ≡ At b j → a ≡ b
    fault_code a b i j e = cc

    fault_line : (a b : CertCode) (i j : ℕ) → At a i ≡ At b j → i ≡ j
    fault_line a b i j e = cc

-- a fault behind a part that was read
pub fault_after : (c : Circuit) (s t : State) (x y : List ℕ) (n m : ℕ) (fault : CertFault) → Leads c s x n t y m → IsFault c t y m fault → IsFault c s x n fault
fault_after c s t x y n m NoMemory p q = tt
fault_after c s t x y n m (At found line) p q = p.go (Refused found line) q

-- the first line, and the line of the first query
pub header_due : (c : Circuit) → IsDue c HeaderDue (codes "cert 1") BoundDue
unfolding next_of
header_due c = record { next = λ line. refl; open_yet = λ n. refl }

pub keep_due : (c : Circuit) (k : ℕ) (set : List (List LatchLiteral)) → IsDue c (ClausesDue k set 0) (codes "q keep") (ChainsDue k set [] [])
unfolding next_of
keep_due c k set = record { next = λ line. refl; open_yet = λ n. refl }

-- behind the chains of a query
pub closed_more : (k : ℕ) (set : List (List LatchLiteral)) (done : List (List Link)) (chains : List Link) → length done ≤ k → closed k set done chains ≡ ChainsDue k set (done ++ chains ∷ []) []
closed_more k set done chains le = let test : nat_le (length done) k ≡ true = le-leb (length done) k le in rw test refl

not_le : (i k : ℕ) → k < i → nat_le i k ≡ false
not_le i k lt = elim (cases_Bool (nat_le i k)) [ inl t ↦ absurd (let le : i ≤ k = leb-true i k t in omega arith) | inr f ↦ f ]

not_lt : (i k : ℕ) → k ≤ i → nat_lt i k ≡ false
not_lt i k le = elim (cases_Bool (nat_lt i k)) [ inl t ↦ absurd (let lt : i < k = ltb-true i k t in omega arith) | inr f ↦ f ]

pub closed_last : (k : ℕ) (set : List (List LatchLiteral)) (done : List (List Link)) (chains : List Link) → k < length done → closed k set done chains ≡ Ended k set (done ++ chains ∷ [])
closed_last k set done chains lt = let test : nat_le (length done) k ≡ false = not_le (length done) k lt in rw test refl

pub keep_closed : (c : Circuit) (s : State) (k : ℕ) (set : List (List LatchLiteral)) (keep : List Link) (x y : List ℕ) (n m : ℕ) → Leads c s x n (closed k set [] keep) y m → Leads c s x n (ChainsDue k set (keep ∷ []) []) y m
keep_closed c s k set keep x y n m p = subst (λ (t : State). Leads c s x n t y m) (closed_more k set [] keep (omega arith)) p

pub base_query_is : {V : Type 0} (f : V → List Link) (c : Circuit) (k i : ℕ) (set : List (List LatchLiteral)) (keep : List Link) (old : List V) (clauses : List (List Literal)) → length old ≡ i → i < k → clauses ≡ base_clauses c (i + 1) → clauses ≡ query_clauses c k set (length (keep ∷ map f old))
base_query_is f c k i set keep old clauses long lt is =
    let at : length (map f old) ≡ i = length-map old f ∙ long in
    let test : nat_lt i k ≡ true = lt-ltb i k lt in
    rw (at, test) is

pub base_due_is : {V : Type 0} (f : V → List Link) (k i : ℕ) (keep : List Link) (old : List V) (due line : List ℕ) → length old ≡ i → due ≡ line → line ≡ due_after k (i + 1) → due ≡ due_after k (length (keep ∷ map f old))
base_due_is f k i keep old due line long same is =
    let at : i + 1 ≡ length (keep ∷ map f old) = omega (arith, length-map old f, long) in
    same ∙ (is ∙ ap (due_after k) at)

pub base_step : {V : Type 0} (f : V → List Link) (c : Circuit) (s : State) (k i : ℕ) (set : List (List LatchLiteral)) (keep : List Link) (old new : List V) (v : V) (x y z : List ℕ) (n m j : ℕ) → new ≡ old ++ v ∷ [] → length old ≡ i → i < k
    → Leads c s x n (ChainsDue k set (keep ∷ map f old) []) y m → Leads c (ChainsDue k set (keep ∷ map f old) []) y m (closed k set (keep ∷ map f old) (f v)) z j → Leads c s x n (ChainsDue k set (keep ∷ map f new) []) z j
base_step f c s k i set keep old new v x y z n m j pushed long lt p q =
    let within : length (keep ∷ map f old) ≤ k = omega (arith, length-map old f, long) in
    let all : map f new ≡ map f old ++ f v ∷ [] = ap (map f) pushed ∙ map_push f old v in
    let r : Leads c s x n (ChainsDue k set ((keep ∷ map f old) ++ f v ∷ []) []) z j = subst (λ (t : State). Leads c s x n t z j) (closed_more k set (keep ∷ map f old) (f v) within) (leads_more c s (ChainsDue k set (keep ∷ map f old) []) (closed k set (keep ∷ map f old) (f v)) x y z n m j p q) in
    subst (λ (w : List (List Link)). Leads c s x n (ChainsDue k set (keep ∷ w) []) z j) (sym all) r

pub step_query_is : (c : Circuit) (k : ℕ) (set : List (List LatchLiteral)) (done : List (List Link)) (clauses : List (List Literal)) → length done ≡ k + 1 → clauses ≡ step_clauses c set k → clauses ≡ query_clauses c k set (length done)
step_query_is c k set done clauses long is =
    let at : suc k ≡ length done = omega (arith, long) in
    let test : nat_lt k k ≡ false = not_lt k k (omega arith) in
    let there : clauses ≡ query_clauses c k set (suc k) = rw test is in
    subst (λ i. clauses ≡ query_clauses c k set i) at there

pub step_due_is : (k : ℕ) (done : List (List Link)) (due line : List ℕ) → length done ≡ k + 1 → due ≡ line → line ≡ due_after k (k + 1) → due ≡ due_after k (length done)
step_due_is k done due line long same is = same ∙ (is ∙ ap (due_after k) (sym long))

pub step_closed : (c : Circuit) (s : State) (k : ℕ) (set : List (List LatchLiteral)) (done : List (List Link)) (step : List Link) (x y : List ℕ) (n m : ℕ) → length done ≡ k + 1 → Leads c s x n (closed k set done step) y m → Leads c s x n (Ended k set (done ++ step ∷ [])) y m
step_closed c s k set done step x y n m long p = subst (λ (t : State). Leads c s x n t y m) (closed_last k set done step (omega (arith, long))) p

-- behind the last line
pub end_line_fault : (c : Circuit) (p : Parts) (text line later : List ℕ) (n : ℕ) → TakesLine text line later → GivesFrom c (Ended p.k p.set p.queries) text n (Refused code.CertLine n)
unfolding next_of
end_line_fault c p text line later n takes_it = step_fault c (Ended p.k p.set p.queries) text line later n code.CertLine takes_it refl

pub end_tail_fault : (c : Circuit) (p : Parts) (text : List ℕ) (n : ℕ) → (lines_of text ≡ []) × (tail_of text ≡ text) → (text ≡ [] → ⊥) → GivesFrom c (Ended p.k p.set p.queries) text n (Refused code.CertLine n)
end_tail_fault c p text n none more = rw (none.0, none.1) (goes_on text more)
  where
    goes_on : (rest : List ℕ) → (rest ≡ [] → ⊥) → at_end (Ended p.k p.set p.queries) rest n ≡ Refused code.CertLine n
    goes_on [] h = absurd (h refl)
    goes_on (b ∷ bs) h = refl

pub end_accepts : (c : Circuit) (p : Parts) (text : List ℕ) (n : ℕ) → (lines_of text ≡ []) × (tail_of text ≡ text) → text ≡ [] → GivesFrom c (Ended p.k p.set p.queries) text n (Accepted p)
end_accepts c p text n none empty = rw (none.0, none.1, empty) refl

-- one answer
fault_once : (next : Next) (a b : CertCode) → Faults next a → Faults next b → a ≡ b
fault_once Wrong a b p q = p ∙ sym q
fault_once (Go s) a b p q = absurd p
fault_once (IfResolves clauses chains chain s) a b p q = p.1 ∙ sym q.1
fault_once (IfDone clauses chains s) a b p q = p.1 ∙ sym q.1

goes_once : (next : Next) (t u : State) → Goes next t → Goes next u → t ≡ u
goes_once Wrong t u p q = absurd p
goes_once (Go s) t u p q = sym p ∙ q
goes_once (IfResolves clauses chains chain s) t u p q = sym p.1 ∙ q.1
goes_once (IfDone clauses chains s) t u p q = sym p.1 ∙ q.1

not_both : (next : Next) (a : CertCode) (t : State) → Faults next a → Goes next t → ⊥
not_both Wrong a t p q = q
not_both (Go s) a t p q = p
not_both (IfResolves clauses chains chain s) a t p q = p.0 q.0
not_both (IfDone clauses chains s) a t p q = p.0 q.0

pub gives_once : (c : Circuit) (lines : List (List ℕ)) (s : State) (tail : List ℕ) (n : ℕ) (a b : Answer) → Gives c s lines tail n a → Gives c s lines tail n b → a ≡ b
gives_once c [] s tail n a b p q = sym p ∙ q
gives_once c (line ∷ lines) s tail n a b (inl p) (inl q) = sym p.1.1 ∙ (ap (λ (f : CertCode). Refused f n) (fault_once (next_of c s line) p.0 q.0 p.1.0 q.1.0) ∙ q.1.1)
gives_once c (line ∷ lines) s tail n a b (inl p) (inr q) = absurd (not_both (next_of c s line) p.0 q.0 p.1.0 q.1.0)
gives_once c (line ∷ lines) s tail n a b (inr p) (inl q) = absurd (not_both (next_of c s line) q.0 p.0 q.1.0 p.1.0)
gives_once c (line ∷ lines) s tail n a b (inr p) (inr q) =
    gives_once c lines p.0 tail (n + 1) a b p.1.1 (subst (λ (t : State). Gives c t lines tail (n + 1) b) (goes_once (next_of c s line) q.0 p.0 q.1.0 p.1.0) q.1.1)
