-- Clauses of sets hold no literal twice, and are written literal by literal.
use Rattle.std.proofs.Common.{◌≡◌, ◌≢◌, ℕ, zero, suc, ◌+◌, ◌*◌, ◌^◌, ◌<◌, Bool, true, false, cond, List, [], ◌∷◌, ◌++◌, length, map, take, drop, slice_get, get_or, Some, refl, ap, sym, ◌∙◌, subst, arith, append_assoc, true≢false}
use Rattle.std.specs.List.{list_any}
use Rattle.std.proofs.lemmas.Bool.{ne_eqb, or_left, or_right}
use Rattle.std.proofs.lemmas.List.{drop_more}
use Rattle.std.proofs.lemmas.Option.{slice_get_within, slice_get-get_or, get_or_from_slice_get}
use Rattle.lemma_checker.specs.declared.literal.Literal.{Literal}
use Rattle.lemma_checker.specs.Clauses.{has, AreDistinct}
use Rattle.gate_graph.specs.declared.nodes.Node.TheVariants as node
use Rattle.gate_graph.specs.declared.circuits.Circuit.{Circuit}
use Rattle.unroll_cnf.specs.declared.latch_literal.LatchLiteral.{LatchLiteral}
use Rattle.unroll_cnf.specs.Latches.{AreApart, not_live, is_not_live, weakened, IsOfLatches}
use Rattle.unroll_cnf.specs.Queries.{plain, signed, latch_places, latch_literal, set_clause, broken_clauses, all_broken, some_of}
use Rattle.unroll_cnf.proofs.LiteralLemmas.{opposite_even}
use Rattle.unroll_cnf.proofs.PlaceLemmas.{latch_node, length-latch_places}
use Rattle.unroll_cnf.proofs.SetLemmas.{weakened_latches}

-- an element of the front of a list
taken : {X : Type 0} (xs : List X) (i j : ℕ) (x : X) → slice_get (take i xs) j ≡ Some x → (j < i) × (slice_get xs j ≡ Some x)
taken xs zero j x h = absurd (let e : ⊥ = cc in e)
taken [] (suc i) j x h = absurd (let e : ⊥ = cc in e)
taken (y ∷ xs) (suc i) zero x h = (omega arith, h)
taken (y ∷ xs) (suc i) (suc j) x h = let r : (j < i) × (slice_get xs j ≡ Some x) = taken xs i j x h in (omega (arith, r.0), r.1)

none_there : (l : ℕ) (xs : List Literal) → ((j : ℕ) (x : Literal) → slice_get xs j ≡ Some x → x.0 ≢ l) → has l xs ≡ false
none_there l [] h = refl
none_there l (x ∷ xs) h = rw (ne_eqb x.0 l (h 0 x refl)) (none_there l xs (λ j y is. h (suc j) y is))

pub distinct_from : (c : List Literal) → ((i j : ℕ) (x y : Literal) → i < j → slice_get c i ≡ Some x → slice_get c j ≡ Some y → x.0 ≢ y.0) → AreDistinct c
distinct_from c h = record {
  once = λ j y is. none_there y.0 (take j c) (λ i x there. let r : (i < j) × (slice_get c i ≡ Some x) = taken c j i x there in h i j x y r.0 r.1 is);
}

-- an element of a mapped list
pub record IsMapped {X : Type 0} (f : X → Literal) (xs : List X) (i : ℕ) (y : Literal) : Type 0 where
  pub from : X
  pub there : slice_get xs i ≡ Some from
  pub is : f from ≡ y

mapped : {X : Type 0} (f : X → Literal) (xs : List X) (i : ℕ) (y : Literal) → slice_get (map f xs) i ≡ Some y → IsMapped f xs i y
mapped f [] i y h = absurd (let e : ⊥ = cc in e)
mapped f (x ∷ xs) zero y h = record { from = x; there = refl; is = cc }
mapped f (x ∷ xs) (suc i) y h = let r : IsMapped f xs i y = mapped f xs i y h in record { from = r.from; there = r.there; is = r.is }

-- the weakened clause
pub weakened_same : (d : List LatchLiteral) → list_any is_not_live d ≡ true → weakened d ≡ d
unfolding weakened
weakened_same d h = rw h refl

pub weakened_more : (d : List LatchLiteral) → list_any is_not_live d ≡ false → weakened d ≡ not_live ∷ d
unfolding weakened
weakened_more d h = rw h refl

any_there : (d : List LatchLiteral) (j : ℕ) → slice_get d j ≡ Some not_live → list_any is_not_live d ≡ true
any_there [] j h = absurd (let e : ⊥ = cc in e)
any_there (l ∷ d) zero h = let e : l ≡ not_live = cc in or_left (is_not_live l) (list_any is_not_live d) (ap is_not_live e)
any_there (l ∷ d) (suc j) h = or_right (is_not_live l) (list_any is_not_live d) (any_there d j h)

apart_by : (d : List LatchLiteral) (b : Bool) → list_any is_not_live d ≡ b → AreApart d → AreApart (cond b d (not_live ∷ d))
apart_by d true h a = a
apart_by d false h a = record { once = each d h a }
  where
    each : (d : List LatchLiteral) → list_any is_not_live d ≡ false → AreApart d → (i j : ℕ) (l : LatchLiteral) → i < j → slice_get (not_live ∷ d) i ≡ Some l → slice_get (not_live ∷ d) j ≡ Some l → ⊥
    each d h a zero zero l lt p q = omega arith
    each d h a zero (suc j) l lt p q =
        let e : not_live ≡ l = cc in
        true≢false (sym (any_there d j (q ∙ ap Some (sym e))) ∙ h)
    each d h a (suc i) zero l lt p q = omega arith
    each d h a (suc i) (suc j) l lt p q = a.once i j l (omega arith) p q

pub weakened_apart : (d : List LatchLiteral) → AreApart d → AreApart (weakened d)
unfolding weakened
weakened_apart d a = apart_by d (list_any is_not_live d) refl a

-- the places of latches
pub place_within : (c : Circuit) (n : ℕ) → n < length c.latches.items → n < length (latch_places 0 c.graph)
place_within c n lt = omega (arith, length-latch_places 0 c.graph, c.latched)

place_node : (c : Circuit) (n : ℕ) → n < length c.latches.items → slice_get c.graph (get_or (latch_places 0 c.graph) n 0) ≡ Some (node.Latch n)
place_node c n lt = latch_node c.graph n (get_or (latch_places 0 c.graph) n 0) c.counted (slice_get-get_or (latch_places 0 c.graph) n 0 (place_within c n lt))

pub place_below : (c : Circuit) (n : ℕ) → n < length c.latches.items → get_or (latch_places 0 c.graph) n 0 < length c.graph
place_below c n lt = slice_get_within c.graph (get_or (latch_places 0 c.graph) n 0) (node.Latch n) (place_node c n lt)

pub place_small : (c : Circuit) (n : ℕ) → n < length c.latches.items → get_or (latch_places 0 c.graph) n 0 < 2 ^ 20
place_small c n lt = omega (arith, place_below c n lt, c.few)

place_one : (c : Circuit) (n m : ℕ) → n < length c.latches.items → m < length c.latches.items → get_or (latch_places 0 c.graph) n 0 ≡ get_or (latch_places 0 c.graph) m 0 → n ≡ m
place_one c n m p q e =
    let first : slice_get c.graph (get_or (latch_places 0 c.graph) m 0) ≡ Some (node.Latch n) = subst (λ k. slice_get c.graph k ≡ Some (node.Latch n)) e (place_node c n p) in
    let second : slice_get c.graph (get_or (latch_places 0 c.graph) m 0) ≡ Some (node.Latch m) = place_node c m q in
    cc

-- a signed variable has one number
signed_number : (b : Bool) (n : ℕ) → (signed b (plain n)).0 ≡ 2 * n + cond b 1 0
signed_number true n = opposite_even n
signed_number false n = omega arith

sign_one : (a b : Bool) (n m : ℕ) → 2 * n + cond a 1 0 ≡ 2 * m + cond b 1 0 → (n ≡ m) × (a ≡ b)
sign_one true true n m e = (omega arith, refl)
sign_one true false n m e = absurd (omega arith)
sign_one false true n m e = absurd (omega arith)
sign_one false false n m e = (omega arith, refl)

same_literal : (l m : LatchLiteral) → l.latch ≡ m.latch → l.negated ≡ m.negated → l ≡ m
same_literal l m p q = ap (λ (n : ℕ). record { latch = n; negated = l.negated }) p ∙ ap (λ (b : Bool). record { latch = m.latch; negated = b }) q

literal_one : (c : Circuit) (k : ℕ) (l m : LatchLiteral) → l.latch < length c.latches.items → m.latch < length c.latches.items → (latch_literal c k l).0 ≡ (latch_literal c k m).0 → l ≡ m
unfolding latch_literal
literal_one c k l m p q e =
    let here : ℕ = get_or (latch_places 0 c.graph) l.latch 0 in
    let there : ℕ = get_or (latch_places 0 c.graph) m.latch 0 in
    let parts : (here + k ≡ there + k) × (l.negated ≡ m.negated) = sign_one l.negated m.negated (here + k) (there + k) (sym (signed_number l.negated (here + k)) ∙ (e ∙ signed_number m.negated (there + k))) in
    same_literal l m (place_one c l.latch m.latch p q (omega (arith, parts.0))) parts.1

pub set_clause_distinct : (c : Circuit) (k : ℕ) (d : List LatchLiteral) → AreApart d → IsOfLatches (length c.latches.items) d → AreDistinct (set_clause c k d)
set_clause_distinct c k d a of =
    let wide : IsOfLatches (length c.latches.items) (weakened d) = weakened_latches c d of in
    let apart : AreApart (weakened d) = weakened_apart d a in
    distinct_from (set_clause c k d) (λ i j x y lt p q e.
    let r : IsMapped (latch_literal c k) (weakened d) i x = mapped (latch_literal c k) (weakened d) i x p in
    let s : IsMapped (latch_literal c k) (weakened d) j y = mapped (latch_literal c k) (weakened d) j y q in
    let same : r.from ≡ s.from = literal_one c k r.from s.from (wide.each i r.from r.there) (wide.each j s.from s.there) (ap (λ (z : Literal). z.0) r.is ∙ (e ∙ ap (λ (z : Literal). z.0) (sym s.is))) in
    apart.once i j r.from lt r.there (s.there ∙ ap Some (sym same)))

-- one variable a clause
some_number : (y : ℕ) (set : List (List LatchLiteral)) (j : ℕ) (x : Literal) → slice_get (some_of y set) j ≡ Some x → x.0 ≡ 2 * (y + j)
some_number y [] j x h = absurd (let e : ⊥ = cc in e)
some_number y (d ∷ ds) zero x h = let e : plain y ≡ x = cc in omega (arith, ap (λ (z : Literal). z.0) e)
some_number y (d ∷ ds) (suc j) x h = omega (arith, some_number (y + 1) ds j x h)

pub some_distinct : (y : ℕ) (set : List (List LatchLiteral)) → AreDistinct (some_of y set)
some_distinct y set = distinct_from (some_of y set) (λ i j a b lt p q e. omega (arith, some_number y set i a p, some_number y set j b q, e))

pub more_some : (y i : ℕ) (set : List (List LatchLiteral)) (old new all : List Literal) → i < length set → new ≡ old ++ plain (y + i) ∷ [] → old ++ some_of (y + i) (drop i set) ≡ all → new ++ some_of (y + (i + 1)) (drop (i + 1) set) ≡ all
more_some y i set old new all lt pushed so_far =
    let place : y + (i + 1) ≡ y + i + 1 = omega arith in
    ap (λ k. new ++ some_of k (drop (i + 1) set)) place
    ∙ (ap (λ (z : List Literal). z ++ some_of (y + i + 1) (drop (i + 1) set)) pushed
    ∙ (append_assoc old (plain (y + i) ∷ []) (some_of (y + i + 1) (drop (i + 1) set))
    ∙ (ap (λ (z : List (List LatchLiteral)). old ++ some_of (y + i) z) (sym (drop_more set i [] lt)) ∙ so_far)))

pub more_broken : (c : Circuit) (k y i : ℕ) (set : List (List LatchLiteral)) (d : List LatchLiteral) (old new all : List (List Literal)) → slice_get set i ≡ Some d → new ≡ old ++ broken_clauses c k (y + i) d → old ++ all_broken c k (y + i) (drop i set) ≡ all → new ++ all_broken c k (y + (i + 1)) (drop (i + 1) set) ≡ all
more_broken c k y i set d old new all is pushed so_far =
    let lt : i < length set = slice_get_within set i d is in
    let place : y + (i + 1) ≡ y + i + 1 = omega arith in
    let rest : drop i set ≡ d ∷ drop (i + 1) set = drop_more set i d lt ∙ ap (λ (z : List LatchLiteral). z ∷ drop (i + 1) set) (get_or_from_slice_get set i d d is) in
    ap (λ m. new ++ all_broken c k m (drop (i + 1) set)) place
    ∙ (ap (λ (z : List (List Literal)). z ++ all_broken c k (y + i + 1) (drop (i + 1) set)) pushed
    ∙ (append_assoc old (broken_clauses c k (y + i) d) (all_broken c k (y + i + 1) (drop (i + 1) set))
    ∙ (ap (λ (z : List (List LatchLiteral)). old ++ all_broken c k (y + i) z) (sym rest) ∙ so_far)))
