-- Clauses that are pushed node by node, and clauses without a literal twice.
use Rattle.std.proofs.Common.{◌≡◌, ◌≢◌, ℕ, zero, suc, ◌+◌, ◌<◌, ◌≤◌, Bool, false, ◌||◌, eqb, List, [], ◌∷◌, ◌++◌, length, take, drop, slice_get, Some, refl, ap, sym, ◌∙◌, subst, add-one, append_assoc}
use Rattle.std.proofs.lemmas.Bool.{ne_eqb}
use Rattle.std.proofs.lemmas.List.{drop_more, drop_all, append-nil}
use Rattle.std.proofs.lemmas.Option.{get_or_from_slice_get, slice_get_within}
use Rattle.lemma_checker.specs.declared.literal.Literal.{Literal}
use Rattle.lemma_checker.specs.Clauses.{has, AreDistinct}
use Rattle.gate_graph.specs.declared.nodes.Node.{Node}
use Rattle.gate_graph.specs.declared.circuits.Circuit.{Circuit}
use Rattle.unroll_cnf.specs.Queries.{by_node, edge_clauses, link_clauses, run_clauses}

-- one node's clauses more
pub pushed_node : (f : ℕ → Node → List (List Literal)) (i : ℕ) (ns : List Node) (n : Node) (old new all : List (List Literal)) → slice_get ns i ≡ Some n → new ≡ old ++ f i n → old ++ by_node f i (drop i ns) ≡ all → new ++ by_node f (i + 1) (drop (i + 1) ns) ≡ all
pushed_node f i ns n old new all is pushed so_far =
    let lt : i < length ns = slice_get_within ns i n is in
    let rest : drop i ns ≡ n ∷ drop (i + 1) ns = drop_more ns i n lt ∙ ap (λ (m : Node). m ∷ drop (i + 1) ns) (get_or_from_slice_get ns i n n is) in
    ap (λ (z : List (List Literal)). z ++ by_node f (i + 1) (drop (i + 1) ns)) pushed
    ∙ (append_assoc old (f i n) (by_node f (i + 1) (drop (i + 1) ns))
    ∙ (ap (λ (z : List Node). old ++ by_node f i z) (sym rest) ∙ so_far))

pub pushed_all : (f : ℕ → Node → List (List Literal)) (i : ℕ) (ns : List Node) (old all : List (List Literal)) → length ns ≤ i → old ++ by_node f i (drop i ns) ≡ all → old ≡ all
pushed_all f i ns old all le so_far = sym (append-nil old) ∙ (ap (λ (z : List Node). old ++ by_node f i z) (sym (drop_all i ns le)) ∙ so_far)

-- one edge more
pub pushed_edge : (c : Circuit) (cones : ℕ → ℕ → Bool) (t : ℕ) (set : ℕ → Bool) (first old linked new : List (List Literal)) → set ≡ cones (t + 1) → old ≡ first ++ run_clauses c cones t → linked ≡ old ++ link_clauses c set t → new ≡ linked ++ edge_clauses c set (t + 1) → new ≡ first ++ run_clauses c cones (t + 1)
pushed_edge c cones t set first old linked new e a b d =
    let links : List (List Literal) = link_clauses c (cones (t + 1)) t in
    let edges : List (List Literal) = edge_clauses c (cones (t + 1)) (t + 1) in
    let b' : linked ≡ old ++ links = b ∙ ap (λ (r : ℕ → Bool). old ++ link_clauses c r t) e in
    let d' : new ≡ linked ++ edges = d ∙ ap (λ (r : ℕ → Bool). linked ++ edge_clauses c r (t + 1)) e in
    d' ∙ (ap (λ (z : List (List Literal)). z ++ edges) (b' ∙ ap (λ (z : List (List Literal)). z ++ links) a)
    ∙ (ap (λ (z : List (List Literal)). z ++ edges) (append_assoc first (run_clauses c cones t) links)
    ∙ (append_assoc first (run_clauses c cones t ++ links) edges
    ∙ (ap (λ (z : List (List Literal)). first ++ z) (append_assoc (run_clauses c cones t) links edges)
    ∙ ap (λ k. first ++ run_clauses c cones k) (sym (add-one t))))))

-- a clause of one, two or three literals
pub distinct_one : (a : Literal) → AreDistinct (a ∷ [])
distinct_one a = record { once = each a }
  where
    each : (a : Literal) (i : ℕ) (x : Literal) → slice_get (a ∷ []) i ≡ Some x → has x.0 (take i (a ∷ [])) ≡ false
    each a zero x is = refl
    each a (suc i) x is = absurd (let e : ⊥ = cc in e)

pub distinct_two : (a b : Literal) → a.0 ≢ b.0 → AreDistinct (a ∷ b ∷ [])
distinct_two a b ab = record { once = each a b ab }
  where
    each : (a b : Literal) → a.0 ≢ b.0 → (i : ℕ) (x : Literal) → slice_get (a ∷ b ∷ []) i ≡ Some x → has x.0 (take i (a ∷ b ∷ [])) ≡ false
    each a b ab zero x is = refl
    each a b ab (suc zero) x is = let e : b ≡ x = cc in subst (λ (y : Literal). (eqb a.0 y.0 || false) ≡ false) e (rw (ne_eqb a.0 b.0 ab) refl)
    each a b ab (suc (suc i)) x is = absurd (let e : ⊥ = cc in e)

pub distinct_three : (a b c : Literal) → a.0 ≢ b.0 → a.0 ≢ c.0 → b.0 ≢ c.0 → AreDistinct (a ∷ b ∷ c ∷ [])
distinct_three a b c ab ac bc = record { once = each a b c ab ac bc }
  where
    each : (a b c : Literal) → a.0 ≢ b.0 → a.0 ≢ c.0 → b.0 ≢ c.0 → (i : ℕ) (x : Literal) → slice_get (a ∷ b ∷ c ∷ []) i ≡ Some x → has x.0 (take i (a ∷ b ∷ c ∷ [])) ≡ false
    each a b c ab ac bc zero x is = refl
    each a b c ab ac bc (suc zero) x is = let e : b ≡ x = cc in subst (λ (y : Literal). (eqb a.0 y.0 || false) ≡ false) e (rw (ne_eqb a.0 b.0 ab) refl)
    each a b c ab ac bc (suc (suc zero)) x is = let e : c ≡ x = cc in subst (λ (y : Literal). (eqb a.0 y.0 || (eqb b.0 y.0 || false)) ≡ false) e (rw (ne_eqb a.0 c.0 ac, ne_eqb b.0 c.0 bc) refl)
    each a b c ab ac bc (suc (suc (suc i))) x is = absurd (let e : ⊥ = cc in e)
