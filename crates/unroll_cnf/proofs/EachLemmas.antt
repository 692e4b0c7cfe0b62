-- What holds of each clause of a list, and of the clauses of each node.
use Rattle.std.proofs.Common.{◌≡◌, ℕ, zero, suc, ◌+◌, ◌*◌, ◌≤◌, Bool, true, List, [], ◌∷◌, ◌++◌, length, map, slice_get, Some, refl, ap, ◌∙◌, subst, arith, length-append}
use Rattle.std.specs.Option.{option_map}
use Rattle.std.proofs.lemmas.Option.{slice_get-map}
use Rattle.lemma_checker.specs.declared.literal.Literal.{Literal}
use Rattle.lemma_checker.specs.Clauses.{clause_true, Solves}
use Rattle.gate_graph.specs.declared.nodes.Node.{Node}
use Rattle.unroll_cnf.specs.Queries.{by_node}

pub record Each (P : List Literal → Type 0) (clauses : List (List Literal)) : Type 0 where
  pub each : (i : ℕ) (c : List Literal) → slice_get clauses i ≡ Some c → P c

-- the clause is true
abbrev pub IsTrueIn : (ℕ → Bool) → List Literal → Type 0
IsTrueIn v c = clause_true v c ≡ true

pub each_from_solves : (v : ℕ → Bool) (clauses : List (List Literal)) → Solves v clauses → Each (IsTrueIn v) clauses
each_from_solves v clauses s = record { each = λ i c is. s.each i c is }

pub solves_from_each : (v : ℕ → Bool) (clauses : List (List Literal)) → Each (IsTrueIn v) clauses → Solves v clauses
solves_from_each v clauses e = record { each = λ i c is. e.each i c is }

pub each_nil : (P : List Literal → Type 0) → Each P []
each_nil P = record { each = λ i c is. absurd (let e : ⊥ = cc in e) }

each_at : (P : List Literal → Type 0) (c : List Literal) (cs : List (List Literal)) → P c → Each P cs → (i : ℕ) (d : List Literal) → slice_get (c ∷ cs) i ≡ Some d → P d
each_at P c cs h t zero d is = let e : c ≡ d = cc in subst P e h
each_at P c cs h t (suc i) d is = t.each i d is

pub each_cons : (P : List Literal → Type 0) (c : List Literal) (cs : List (List Literal)) → P c → Each P cs → Each P (c ∷ cs)
each_cons P c cs h t = record { each = each_at P c cs h t }

pub each_one : (P : List Literal → Type 0) (c : List Literal) → P c → Each P (c ∷ [])
each_one P c h = each_cons P c [] h (each_nil P)

pub each_tail : (P : List Literal → Type 0) (c : List Literal) (cs : List (List Literal)) → Each P (c ∷ cs) → Each P cs
each_tail P c cs e = record { each = λ i d is. e.each (suc i) d is }

pub each_append : (P : List Literal → Type 0) (xs ys : List (List Literal)) → Each P xs → Each P ys → Each P (xs ++ ys)
each_append P [] ys a b = b
each_append P (x ∷ xs) ys a b = each_cons P x (xs ++ ys) (a.each 0 x refl) (each_append P xs ys (each_tail P x xs a) b)

pub each_left : (P : List Literal → Type 0) (xs ys : List (List Literal)) → Each P (xs ++ ys) → Each P xs
each_left P [] ys e = each_nil P
each_left P (x ∷ xs) ys e = each_cons P x xs (e.each 0 x refl) (each_left P xs ys (each_tail P x (xs ++ ys) e))

pub each_right : (P : List Literal → Type 0) (xs ys : List (List Literal)) → Each P (xs ++ ys) → Each P ys
each_right P [] ys e = e
each_right P (x ∷ xs) ys e = each_right P xs ys (each_tail P x (xs ++ ys) e)

pub each_map : {X : Type 0} (P : List Literal → Type 0) (f : X → List Literal) (xs : List X) → ((i : ℕ) (x : X) → slice_get xs i ≡ Some x → P (f x)) → Each P (map f xs)
each_map P f [] h = each_nil P
each_map P f (x ∷ xs) h = each_cons P (f x) (map f xs) (h 0 x refl) (each_map P f xs (λ i y is. h (suc i) y is))

pub map_each : {X : Type 0} (P : List Literal → Type 0) (f : X → List Literal) (xs : List X) → Each P (map f xs) → (i : ℕ) (x : X) → slice_get xs i ≡ Some x → P (f x)
map_each P f xs e i x is = e.each i (f x) (slice_get-map f xs i ∙ ap (option_map f) is)

-- the clauses of one node among those of all
node_part_from : (P : List Literal → Type 0) (f : ℕ → Node → List (List Literal)) (i : ℕ) (ns : List Node) → Each P (by_node f i ns) → (j : ℕ) (n : Node) → slice_get ns j ≡ Some n → Each P (f (i + j) n)
node_part_from P f i [] e j n h = absurd (let e : ⊥ = cc in e)
node_part_from P f i (m ∷ ns) e zero n h =
    let same : m ≡ n = cc in
    let place : i ≡ i + 0 = omega arith in
    subst (λ k. Each P (f k n)) place (subst (λ x. Each P (f i x)) same (each_left P (f i m) (by_node f (i + 1) ns) e))
node_part_from P f i (m ∷ ns) e (suc j) n h =
    let place : (i + 1) + j ≡ i + suc j = omega arith in
    subst (λ k. Each P (f k n)) place (node_part_from P f (i + 1) ns (each_right P (f i m) (by_node f (i + 1) ns) e) j n h)

pub node_part : (P : List Literal → Type 0) (f : ℕ → Node → List (List Literal)) (ns : List Node) → Each P (by_node f 0 ns) → (j : ℕ) (n : Node) → slice_get ns j ≡ Some n → Each P (f j n)
node_part P f ns e j n h = let place : 0 + j ≡ j = omega arith in subst (λ k. Each P (f k n)) place (node_part_from P f 0 ns e j n h)

node_all_from : (P : List Literal → Type 0) (f : ℕ → Node → List (List Literal)) (i : ℕ) (ns : List Node) → ((j : ℕ) (n : Node) → slice_get ns j ≡ Some n → Each P (f (i + j) n)) → Each P (by_node f i ns)
node_all_from P f i [] a = each_nil P
node_all_from P f i (m ∷ ns) a =
    let place : i + 0 ≡ i = omega arith in
    each_append P (f i m) (by_node f (i + 1) ns)
    (subst (λ k. Each P (f k m)) place (a 0 m refl))
    (node_all_from P f (i + 1) ns (λ j n h. let later : i + suc j ≡ (i + 1) + j = omega arith in subst (λ k. Each P (f k n)) later (a (suc j) n h)))

pub node_all : (P : List Literal → Type 0) (f : ℕ → Node → List (List Literal)) (ns : List Node) → ((j : ℕ) (n : Node) → slice_get ns j ≡ Some n → Each P (f j n)) → Each P (by_node f 0 ns)
node_all P f ns a = node_all_from P f 0 ns (λ j n h. let place : j ≡ 0 + j = omega arith in subst (λ k. Each P (f k n)) place (a j n h))

-- how many clauses all nodes have
pub node_count : (f : ℕ → Node → List (List Literal)) (b : ℕ) → ((i : ℕ) (n : Node) → length (f i n) ≤ b) → (i : ℕ) (ns : List Node) → length (by_node f i ns) ≤ b * length ns
node_count f b few i [] = omega arith
node_count f b few i (n ∷ ns) = omega (arith, length-append (f i n) (by_node f (i + 1) ns), few i n, node_count f b few (i + 1) ns)
