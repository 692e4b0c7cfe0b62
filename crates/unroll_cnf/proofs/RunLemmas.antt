-- Runs of many edges: from an assignment to the run that it stands for, and back.
use Rattle.std.proofs.Common.{◌≡◌, ℕ, zero, suc, ◌+◌, ◌*◌, ◌/◌, ◌<◌, ◌≤◌, Bool, true, false, not, List, [], ◌∷◌, ◌++◌, length, take, slice_get, get_or, Some, refl, ap, sym, ◌∙◌, subst, inl, inr, arith, add-one, length-append}
use Rattle.std.proofs.lemmas.Bool.{cases_eq}
use Rattle.std.proofs.lemmas.Option.{slice_get_within, slice_get-get_or, get_or_from_slice_get}
use Rattle.std.proofs.lemmas.List.{take_more, take-append-le, take_all, get_or_append_left, get_or_push}
use Rattle.lemma_checker.specs.declared.literal.Literal.{Literal}
use Rattle.lemma_checker.specs.Clauses.{literal_true}
use Rattle.gate_graph.specs.declared.nodes.Node.TheVariants as node
use Rattle.gate_graph.specs.declared.parts.Latch.{Latch}
use Rattle.gate_graph.specs.declared.circuits.Circuit.{Circuit}
use Rattle.gate_graph.specs.Gates.{wire_value}
use Rattle.gate_graph.specs.Values.{at, value}
use Rattle.gate_graph.specs.Latches.{StartsAs}
use Rattle.gate_graph.specs.Runs.{next_state, is_bad, state_after, IsStart}
use Rattle.gate_graph.proofs.GraphLemmas.{latch_within}
use Rattle.unroll_cnf.specs.Runs.{state_at, bad_at}
use Rattle.unroll_cnf.specs.Queries.{literal_at, offset, denied, no_latch, edge_clauses, link_clauses, run_clauses, good_clauses, latch_places}
use Rattle.unroll_cnf.specs.Meaning.{frame, StandsFor, Follows, first_state, inputs_at, run_inputs}
use Rattle.unroll_cnf.proofs.EachLemmas.{Each, IsTrueIn, each_nil, each_one, each_append, each_left, each_right}
use Rattle.unroll_cnf.proofs.LiteralLemmas.{literal_value, denied_value, one_true, true_one, not_false, false_not}
use Rattle.unroll_cnf.proofs.PlaceLemmas.{latch_node, length-latch_places}
use Rattle.unroll_cnf.proofs.FrameLemmas.{RespectsIn, LinksIn, ReadsIn, Starts, edge_to, edge_from, link_to, link_from, agrees_in, respects_in, wire_same, first_entry, input_entry, next_of, next_entry, latch_value_is}
use Rattle.unroll_cnf.proofs.ConeLemmas.{AreClosed}

-- the values of edges 0 to j obey the gates of their cones, and each latch of a cone goes to its edge
pub record MovesIn (c : Circuit) (cones : ℕ → ℕ → Bool) (v : ℕ → Bool) (j : ℕ) : Type 0 where
  pub gates : (t : ℕ) → t ≤ j → RespectsIn (cones t) (frame c v t) c.graph
  pub links : (t : ℕ) → t < j → LinksIn c (cones (t + 1)) (frame c v t) (frame c v (t + 1))

moves_more : (c : Circuit) (cones : ℕ → ℕ → Bool) (v : ℕ → Bool) (j : ℕ) → MovesIn c cones v j → LinksIn c (cones (j + 1)) (frame c v j) (frame c v (j + 1)) → RespectsIn (cones (j + 1)) (frame c v (j + 1)) c.graph → MovesIn c cones v (suc j)
moves_more c cones v j m link gate = record {
  gates = λ t le. elim (cases_eq t (j + 1)) [ inl e ↦ subst (λ k. RespectsIn (cones k) (frame c v k) c.graph) (sym e) gate | inr ne ↦ m.gates t (omega arith) ];
  links = λ t lt. elim (cases_eq t j) [ inl e ↦ subst (λ k. LinksIn c (cones (k + 1)) (frame c v k) (frame c v (k + 1))) (sym e) link | inr ne ↦ m.links t (omega arith) ];
}

pub moves_to : (c : Circuit) (cones : ℕ → ℕ → Bool) (v : ℕ → Bool) (j : ℕ) → Each (IsTrueIn v) (run_clauses c cones j) → MovesIn c cones v j
moves_to c cones v zero e = record {
  gates = λ t le. let first : 0 ≡ t = omega arith in subst (λ k. RespectsIn (cones k) (frame c v k) c.graph) first (edge_to c (cones 0) v 0 e);
  links = λ t lt. absurd (omega arith);
}
moves_to c cones v (suc j) e =
    let links : List (List Literal) = link_clauses c (cones (j + 1)) j in
    let edges : List (List Literal) = edge_clauses c (cones (j + 1)) (j + 1) in
    let later : Each (IsTrueIn v) (links ++ edges) = each_right (IsTrueIn v) (run_clauses c cones j) (links ++ edges) e in
    moves_more c cones v j (moves_to c cones v j (each_left (IsTrueIn v) (run_clauses c cones j) (links ++ edges) e))
    (link_to c (cones (j + 1)) v j (each_left (IsTrueIn v) links edges later))
    (edge_to c (cones (j + 1)) v (j + 1) (each_right (IsTrueIn v) links edges later))

pub moves_from : (c : Circuit) (cones : ℕ → ℕ → Bool) (v : ℕ → Bool) (j : ℕ) → MovesIn c cones v j → Each (IsTrueIn v) (run_clauses c cones j)
moves_from c cones v zero m = edge_from c (cones 0) v 0 (m.gates 0 (omega arith))
moves_from c cones v (suc j) m =
    let links : List (List Literal) = link_clauses c (cones (j + 1)) j in
    let edges : List (List Literal) = edge_clauses c (cones (j + 1)) (j + 1) in
    each_append (IsTrueIn v) (run_clauses c cones j) (links ++ edges)
    (moves_from c cones v j (record { gates = λ t le. m.gates t (omega arith); links = λ t lt. m.links t (omega arith) }))
    (each_append (IsTrueIn v) links edges
    (link_from c (cones (j + 1)) v j (m.links j (omega arith)))
    (edge_from c (cones (j + 1)) v (j + 1) (m.gates (j + 1) (omega arith))))

-- one more edge
pub state_push : (c : Circuit) (s : List Bool) (xs : List (List Bool)) (x : List Bool) → state_after c s (xs ++ x ∷ []) ≡ next_state c (state_after c s xs) x
state_push c s [] x = refl
state_push c s (y ∷ ys) x = state_push c (next_state c s y) ys x

pub state_next : (c : Circuit) (s : List Bool) (xs : List (List Bool)) (t : ℕ) (x : List Bool) → slice_get xs t ≡ Some x → state_at c s xs (t + 1) ≡ next_state c (state_at c s xs t) x
unfolding state_at
state_next c s xs t x is =
    let lt : t < length xs = slice_get_within xs t x is in
    let same : get_or xs t x ≡ x = get_or_from_slice_get xs t x x is in
    ap (state_after c s) (take_more xs t x lt ∙ ap (λ (y : List Bool). take t xs ++ y ∷ []) same) ∙ state_push c s (take t xs) x

-- the inputs that an assignment gives
pub length-run_inputs : (c : Circuit) (v : ℕ → Bool) (m : ℕ) → length (run_inputs c v m) ≡ m
length-run_inputs c v zero = refl
length-run_inputs c v (suc m) = omega (arith, length-run_inputs c v m, length-append (run_inputs c v m) (inputs_at c v m ∷ []))

pub take-run_inputs : (c : Circuit) (v : ℕ → Bool) (m t : ℕ) → t ≤ m → take t (run_inputs c v m) ≡ run_inputs c v t
take-run_inputs c v zero t le = let e : 0 ≡ t = omega arith in subst (λ k. take k (run_inputs c v 0) ≡ run_inputs c v k) e refl
take-run_inputs c v (suc m) t le = elim (cases_eq t (suc m)) [
  | inl e ↦
      let long : length (run_inputs c v (suc m)) ≤ t = omega (arith, length-run_inputs c v (suc m)) in
      take_all t (run_inputs c v (suc m)) long ∙ ap (run_inputs c v) (sym e)
  | inr ne ↦
      let short : t ≤ length (run_inputs c v m) = omega (arith, length-run_inputs c v m) in
      take-append-le t (run_inputs c v m) (inputs_at c v m ∷ []) short ∙ take-run_inputs c v m t (omega arith)
]

pub get_or-run_inputs : (c : Circuit) (v : ℕ → Bool) (m t : ℕ) (d : List Bool) → t < m → get_or (run_inputs c v m) t d ≡ inputs_at c v t
get_or-run_inputs c v zero t d lt = absurd (omega arith)
get_or-run_inputs c v (suc m) t d lt = elim (cases_eq t m) [
  | inl e ↦
      let long : length (run_inputs c v m) ≡ t = omega (arith, length-run_inputs c v m) in
      get_or_push (run_inputs c v m) (inputs_at c v m) d t long ∙ ap (inputs_at c v) (sym e)
  | inr ne ↦
      let short : t < length (run_inputs c v m) = omega (arith, length-run_inputs c v m) in
      get_or_append_left (run_inputs c v m) (inputs_at c v m ∷ []) d t short ∙ get_or-run_inputs c v m t d (omega arith)
]

-- each latch node is of one of the circuit's latches
pub latch_there : (c : Circuit) (i n : ℕ) → slice_get c.graph i ≡ Some (node.Latch n) → slice_get c.latches.items n ≡ Some (get_or c.latches.items n no_latch)
latch_there c i n h = slice_get-get_or c.latches.items n no_latch (omega (arith, latch_within c.graph i n 0 0 c.counted h, c.latched))

-- the latches of each edge's cone have the values of the run's state, and the inputs those of its inputs
read_in : (c : Circuit) (set v : ℕ → Bool) (t : ℕ) (s : List Bool) → ((i n : ℕ) → slice_get c.graph i ≡ Some (node.Latch n) → set i ≡ true → at s n ≡ frame c v t i) → ReadsIn set s (inputs_at c v t) (frame c v t) c.graph
read_in c set v t s states = record { latch = λ i n h m. sym (states i n h m); input = λ i n h m. sym (input_entry c v t i n h) }

pub states : (c : Circuit) (cones : ℕ → ℕ → Bool) (v : ℕ → Bool) (j : ℕ) → AreClosed c cones j → MovesIn c cones v j → (t : ℕ) → t ≤ j → (i n : ℕ) → slice_get c.graph i ≡ Some (node.Latch n) → cones t i ≡ true → at (state_after c (first_state c v) (run_inputs c v t)) n ≡ frame c v t i
states c cones v j closed m zero le i n h marked = first_entry c v i n h
states c cones v j closed m (suc t) le i n h marked =
    let s : List Bool = state_after c (first_state c v) (run_inputs c v t) in
    let l : Latch = get_or c.latches.items n no_latch in
    let there : slice_get c.latches.items n ≡ Some l = latch_there c i n h in
    let later : cones (t + 1) i ≡ true = subst (λ k. cones k i ≡ true) (sym (add-one t)) marked in
    let of : l.next.0 < 2 * length c.graph = next_of c n l there in
    let node_of : slice_get c.graph (l.next.0 / 2) ≡ Some (get_or c.graph (l.next.0 / 2) node.Zero) = slice_get-get_or c.graph (l.next.0 / 2) node.Zero (omega arith) in
    let same : frame c v t (l.next.0 / 2) ≡ value s (inputs_at c v t) c.graph (l.next.0 / 2) = agrees_in c (cones t) s (inputs_at c v t) (frame c v t) (closed.wires t (omega arith)) (m.gates t (omega arith)) (read_in c (cones t) v t s (states c cones v j closed m t (omega arith))) (l.next.0 / 2) _ node_of (closed.nexts t (omega arith) i n l h there later) in
    let link : frame c v (t + 1) i ≡ wire_value (frame c v t) l.next = (m.links t (omega arith)).link i n l h there later in
    ap (λ (z : List Bool). at z n) (state_push c (first_state c v) (run_inputs c v t) (inputs_at c v t))
    ∙ (next_entry c s (inputs_at c v t) n l there
    ∙ (sym (wire_same (frame c v t) (value s (inputs_at c v t) c.graph) l.next same)
    ∙ (sym link ∙ ap (λ k. frame c v k i) (add-one t))))

-- an assignment stands for the run that it gives
pub stands_for : (c : Circuit) (v : ℕ → Bool) (m : ℕ) → StandsFor c v (first_state c v) (run_inputs c v m)
stands_for c v m = record {
  latches = λ i n h. sym (first_entry c v i n h);
  inputs = λ t x is i n h.
      let lt : t < m = omega (arith, slice_get_within (run_inputs c v m) t x is, length-run_inputs c v m) in
      let input : inputs_at c v t ≡ x = sym (get_or-run_inputs c v m t x lt) ∙ get_or_from_slice_get (run_inputs c v m) t x x is in
      sym (input_entry c v t i n h) ∙ ap (λ (z : List Bool). at z n) input;
}

-- and follows it where its edges are linked
pub follows_run : (c : Circuit) (cones : ℕ → ℕ → Bool) (v : ℕ → Bool) (j m : ℕ) → AreClosed c cones j → MovesIn c cones v j → m ≤ j + 1 → Follows c cones v (first_state c v) (run_inputs c v m)
unfolding state_at
follows_run c cones v j m closed moves le = record {
  node = λ t x is i n h marked.
      let lt : t < m = omega (arith, slice_get_within (run_inputs c v m) t x is, length-run_inputs c v m) in
      let input : inputs_at c v t ≡ x = sym (get_or-run_inputs c v m t x lt) ∙ get_or_from_slice_get (run_inputs c v m) t x x is in
      let front : take t (run_inputs c v m) ≡ run_inputs c v t = take-run_inputs c v m t (omega arith) in
      let s : List Bool = state_after c (first_state c v) (run_inputs c v t) in
      let here : frame c v t i ≡ value s (inputs_at c v t) c.graph i = agrees_in c (cones t) s (inputs_at c v t) (frame c v t) (closed.wires t (omega arith)) (moves.gates t (omega arith)) (read_in c (cones t) v t s (states c cones v j closed moves t (omega arith))) i n h marked in
      here ∙ (ap (λ (z : List (List Bool)). value (state_after c (first_state c v) z) (inputs_at c v t) c.graph i) (sym front)
      ∙ ap (λ (z : List Bool). value (state_after c (first_state c v) (take t (run_inputs c v m))) z c.graph i) input);
}

-- and one that stands for a run has linked edges
pub get_there : (xs : List (List Bool)) (t : ℕ) → t < length xs → slice_get xs t ≡ Some (get_or xs t [])
get_there xs t lt = slice_get-get_or xs t [] lt

pub moves_of : (c : Circuit) (cones : ℕ → ℕ → Bool) (v : ℕ → Bool) (j : ℕ) (s : List Bool) (xs : List (List Bool)) → AreClosed c cones j → Follows c cones v s xs → length xs ≡ j + 1 → MovesIn c cones v j
moves_of c cones v j s xs closed f long = record {
  gates = λ t le. respects_in c (cones t) (state_at c s xs t) (get_or xs t []) (frame c v t) (closed.wires t le) (λ i n h marked. f.node t (get_or xs t []) (get_there xs t (omega arith)) i n h marked);
  links = λ t lt. record {
    link = λ i n l h is marked.
        let here : slice_get xs t ≡ Some (get_or xs t []) = get_there xs t (omega arith) in
        let later : slice_get xs (t + 1) ≡ Some (get_or xs (t + 1) []) = get_there xs (t + 1) (omega arith) in
        let of : l.next.0 < 2 * length c.graph = next_of c n l is in
        let node_of : slice_get c.graph (l.next.0 / 2) ≡ Some (get_or c.graph (l.next.0 / 2) node.Zero) = slice_get-get_or c.graph (l.next.0 / 2) node.Zero (omega arith) in
        let same : frame c v t (l.next.0 / 2) ≡ value (state_at c s xs t) (get_or xs t []) c.graph (l.next.0 / 2) = f.node t (get_or xs t []) here (l.next.0 / 2) _ node_of (closed.nexts t lt i n l h is marked) in
        f.node (t + 1) (get_or xs (t + 1) []) later i (node.Latch n) h marked
        ∙ (latch_value_is c (state_at c s xs (t + 1)) (get_or xs (t + 1) []) i n h
        ∙ (ap (λ (z : List Bool). at z n) (state_next c s xs t (get_or xs t []) here)
        ∙ (next_entry c (state_at c s xs t) (get_or xs t []) n l is
        ∙ sym (wire_same (frame c v t) (value (state_at c s xs t) (get_or xs t []) c.graph) l.next same))));
  };
}

-- whether an edge is bad
pub bad_value : (c : Circuit) (cones : ℕ → ℕ → Bool) (v : ℕ → Bool) (s : List Bool) (xs : List (List Bool)) (t : ℕ) → Follows c cones v s xs → cones t (c.bad.0 / 2) ≡ true → t < length xs → literal_true v (literal_at (offset c t) c.bad).0 ≡ bad_at c s xs t
unfolding bad_at is_bad
bad_value c cones v s xs t f marked lt =
    let of : c.bad.0 < 2 * length c.graph = c.bad_of in
    let node_of : slice_get c.graph (c.bad.0 / 2) ≡ Some (get_or c.graph (c.bad.0 / 2) node.Zero) = slice_get-get_or c.graph (c.bad.0 / 2) node.Zero (omega arith) in
    literal_value v (offset c t) c.bad ∙ wire_same (frame c v t) (value (state_at c s xs t) (get_or xs t []) c.graph) c.bad (f.node t (get_or xs t []) (get_there xs t lt) (c.bad.0 / 2) _ node_of marked)

pub bad_to : (c : Circuit) (cones : ℕ → ℕ → Bool) (v : ℕ → Bool) (s : List Bool) (xs : List (List Bool)) (t : ℕ) → Follows c cones v s xs → cones t (c.bad.0 / 2) ≡ true → t < length xs → Each (IsTrueIn v) ((literal_at (offset c t) c.bad ∷ []) ∷ []) → bad_at c s xs t ≡ true
bad_to c cones v s xs t f marked lt e = sym (bad_value c cones v s xs t f marked lt) ∙ one_true (literal_true v (literal_at (offset c t) c.bad).0) (e.each 0 _ refl)

pub bad_from : (c : Circuit) (cones : ℕ → ℕ → Bool) (v : ℕ → Bool) (s : List Bool) (xs : List (List Bool)) (t : ℕ) → Follows c cones v s xs → cones t (c.bad.0 / 2) ≡ true → t < length xs → bad_at c s xs t ≡ true → Each (IsTrueIn v) ((literal_at (offset c t) c.bad ∷ []) ∷ [])
bad_from c cones v s xs t f marked lt h = each_one (IsTrueIn v) (literal_at (offset c t) c.bad ∷ []) (true_one (literal_true v (literal_at (offset c t) c.bad).0) (bad_value c cones v s xs t f marked lt ∙ h))

good_to_one : (c : Circuit) (cones : ℕ → ℕ → Bool) (v : ℕ → Bool) (s : List Bool) (xs : List (List Bool)) (t : ℕ) → Follows c cones v s xs → cones t (c.bad.0 / 2) ≡ true → t < length xs → Each (IsTrueIn v) ((denied (literal_at (offset c t) c.bad) ∷ []) ∷ []) → bad_at c s xs t ≡ false
good_to_one c cones v s xs t f marked lt e =
    let denies : not (literal_true v (literal_at (offset c t) c.bad).0) ≡ true = sym (denied_value v (literal_at (offset c t) c.bad)) ∙ one_true (literal_true v (denied (literal_at (offset c t) c.bad)).0) (e.each 0 _ refl) in
    sym (bad_value c cones v s xs t f marked lt) ∙ not_false (literal_true v (literal_at (offset c t) c.bad).0) denies

pub good_to : (c : Circuit) (cones : ℕ → ℕ → Bool) (v : ℕ → Bool) (s : List Bool) (xs : List (List Bool)) (k : ℕ) → Follows c cones v s xs → ((t : ℕ) → cones t (c.bad.0 / 2) ≡ true) → k ≤ length xs → Each (IsTrueIn v) (good_clauses c k) → (t : ℕ) → t < k → bad_at c s xs t ≡ false
good_to c cones v s xs zero f marked le e t lt = absurd (omega arith)
good_to c cones v s xs (suc k) f marked le e t lt = elim (cases_eq t k) [
  | inl q ↦ subst (λ i. bad_at c s xs i ≡ false) (sym q) (good_to_one c cones v s xs k f (marked k) (omega arith) (each_right (IsTrueIn v) (good_clauses c k) ((denied (literal_at (offset c k) c.bad) ∷ []) ∷ []) e))
  | inr ne ↦ good_to c cones v s xs k f marked (omega arith) (each_left (IsTrueIn v) (good_clauses c k) ((denied (literal_at (offset c k) c.bad) ∷ []) ∷ []) e) t (omega arith)
]

pub good_from : (c : Circuit) (cones : ℕ → ℕ → Bool) (v : ℕ → Bool) (s : List Bool) (xs : List (List Bool)) (k : ℕ) → Follows c cones v s xs → ((t : ℕ) → cones t (c.bad.0 / 2) ≡ true) → k ≤ length xs → ((t : ℕ) → t < k → bad_at c s xs t ≡ false) → Each (IsTrueIn v) (good_clauses c k)
good_from c cones v s xs zero f marked le h = each_nil (IsTrueIn v)
good_from c cones v s xs (suc k) f marked le h =
    let value : not (literal_true v (literal_at (offset c k) c.bad).0) ≡ true = false_not (literal_true v (literal_at (offset c k) c.bad).0) (bad_value c cones v s xs k f (marked k) (omega arith) ∙ h k (omega arith)) in
    each_append (IsTrueIn v) (good_clauses c k) ((denied (literal_at (offset c k) c.bad) ∷ []) ∷ [])
    (good_from c cones v s xs k f marked (omega arith) (λ t lt. h t (omega arith)))
    (each_one (IsTrueIn v) (denied (literal_at (offset c k) c.bad) ∷ []) (true_one (literal_true v (denied (literal_at (offset c k) c.bad)).0) (denied_value v (literal_at (offset c k) c.bad) ∙ value)))

-- the start
pub start_to : (c : Circuit) (v : ℕ → Bool) → Starts c (frame c v 0) → IsStart c (first_state c v)
start_to c v s = record {
  each = λ n l is.
      let lt : n < length (latch_places 0 c.graph) = omega (arith, slice_get_within c.latches.items n l is, length-latch_places 0 c.graph, c.latched) in
      let p : ℕ = get_or (latch_places 0 c.graph) n 0 in
      let here : slice_get c.graph p ≡ Some (node.Latch n) = latch_node c.graph n p c.counted (slice_get-get_or (latch_places 0 c.graph) n 0 lt) in
      subst (λ (b : Bool). StartsAs l.start b) (sym (first_entry c v p n here)) (s.first p n l here is);
}

pub start_from : (c : Circuit) (v : ℕ → Bool) (s : List Bool) (xs : List (List Bool)) → StandsFor c v s xs → IsStart c s → Starts c (frame c v 0)
start_from c v s xs st starts = record {
  first = λ i n l h is. subst (λ (b : Bool). StartsAs l.start b) (sym (st.latches i n h)) (starts.each n l is);
}
