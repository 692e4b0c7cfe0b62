-- What chains give depends on the clauses as sets of literals alone.
use Rattle.std.proofs.Common.{◌≡◌, ℕ, zero, suc, ◌+◌, ◌≤◌, ◌<◌, ◌==◌, Bool, true, false, cond, eqb, eq-eqb, ne_eqb, List, [], ◌∷◌, ◌++◌, length, map, take, get_or, Option, Some, None, slice_get, refl, sym, ap, ◌∙◌, subst, arith}
use Rattle.std.specs.Option.{option_map, option_and_then}
use Rattle.std.proofs.lemmas.Option.{slice_get-map, same_Some, slice_get-get_or}
use Rattle.std.proofs.lemmas.List.{map-append, map_push, take_more, take_all}
use Rattle.lemma_checker.specs.declared.literal.Literal.{Literal}
use Rattle.lemma_checker.specs.Clauses.{has, set_of}
use Rattle.lemma_checker.specs.Chains.{clashes, resolved, resolve_with, numbered, chain_from, chain_result, has_empty, AreDerived}
use Rattle.lemma_checker.specs.Laws.{AreSameSets}

-- one step by the set of the clause
by_set : ℕ → (ℕ → Bool) → Option (ℕ → Bool) → Option (ℕ → Bool)
by_set p f None = None
by_set p f (Some g) = cond (clashes p f g) (Some (resolved p f g)) None

step_by_set : (p : ℕ) (f : ℕ → Bool) (c : Option (List Literal)) → resolve_with p f c ≡ by_set p f (option_map set_of c)
unfolding resolve_with by_set
step_by_set p f None = refl
step_by_set p f (Some c) = refl

numbered_set : (some others : List (List Literal)) (i : ℕ) → AreSameSets some others → option_map set_of (numbered some i) ≡ option_map set_of (numbered others i)
numbered_set some others zero same = refl
numbered_set some others (suc i) same = sym (slice_get-map set_of some i) ∙ (ap (λ (sets : List (ℕ → Bool)). slice_get sets i) same ∙ slice_get-map set_of others i)

step_same : (p : ℕ) (f : ℕ → Bool) (some others : List (List Literal)) (i : ℕ) → AreSameSets some others → resolve_with p f (numbered some i) ≡ resolve_with p f (numbered others i)
step_same p f some others i same = step_by_set p f (numbered some i) ∙ (ap (by_set p f) (numbered_set some others i same) ∙ sym (step_by_set p f (numbered others i)))

then_same : {A B : Type 0} (f g : A → Option B) (o : Option A) → ((x : A) → f x ≡ g x) → option_and_then f o ≡ option_and_then g o
then_same f g None same = refl
then_same f g (Some x) same = same x

from_same : (some others : List (List Literal)) (f : ℕ → Bool) (ids pivots : List ℕ) → AreSameSets some others → chain_from some f ids pivots ≡ chain_from others f ids pivots
from_same some others f [] [] same = refl
from_same some others f [] (p ∷ ps) same = refl
from_same some others f (i ∷ is) [] same = refl
from_same some others f (i ∷ is) (p ∷ ps) same =
    ap (option_and_then (λ g. chain_from some g is ps)) (step_same p f some others i same)
    ∙ then_same (λ g. chain_from some g is ps) (λ g. chain_from others g is ps) (resolve_with p f (numbered others i)) (λ g. from_same some others g is ps same)

first_by_set : (clauses : List (List Literal)) (is ps : List ℕ) (c : Option (List Literal)) → option_and_then (λ d. chain_from clauses (set_of d) is ps) c ≡ option_and_then (λ g. chain_from clauses g is ps) (option_map set_of c)
first_by_set clauses is ps None = refl
first_by_set clauses is ps (Some c) = refl

pub result_same : (some others : List (List Literal)) (ids pivots : List ℕ) → AreSameSets some others → chain_result some ids pivots ≡ chain_result others ids pivots
result_same some others [] pivots same = refl
result_same some others (i ∷ is) pivots same =
    first_by_set some is pivots (numbered some i)
    ∙ (ap (option_and_then (λ g. chain_from some g is pivots)) (numbered_set some others i same)
    ∙ (then_same (λ g. chain_from some g is pivots) (λ g. chain_from others g is pivots) (option_map set_of (numbered others i)) (λ g. from_same some others g is pivots same)
    ∙ sym (first_by_set others is pivots (numbered others i))))

-- behind the same clauses
pub behind_same : (clauses some others : List (List Literal)) → AreSameSets some others → AreSameSets (clauses ++ some) (clauses ++ others)
behind_same clauses some others same = map-append set_of clauses some ∙ (ap (λ (sets : List (ℕ → Bool)). map set_of clauses ++ sets) same ∙ sym (map-append set_of clauses others))

pub push_same : (some others : List (List Literal)) (c d : List Literal) → AreSameSets some others → set_of c ≡ set_of d → AreSameSets (some ++ c ∷ []) (others ++ d ∷ [])
push_same some others c d same last = map_push set_of some c ∙ (ap (λ (sets : List (ℕ → Bool)). sets ++ set_of c ∷ []) same ∙ (ap (λ (s : ℕ → Bool). map set_of others ++ s ∷ []) last ∙ sym (map_push set_of others d)))

-- the clauses that chains add
front_same : (clauses a b : List (List Literal)) (chains : List (List ℕ × List ℕ)) (n : ℕ) → AreDerived clauses a chains → AreDerived clauses b chains → n ≤ length chains → AreSameSets (take n a) (take n b)
front_same clauses a b chains zero p q le = refl
front_same clauses a b chains (suc n) p q le =
    let lt_a : n < length a = omega (arith, p.lengths) in
    let lt_b : n < length b = omega (arith, q.lengths) in
    let lt : n < length chains = omega arith in
    let c : List Literal = get_or a n [] in
    let d : List Literal = get_or b n [] in
    let chain : List ℕ × List ℕ = get_or chains n ([], []) in
    let before : AreSameSets (take n a) (take n b) = front_same clauses a b chains n p q (omega arith) in
    let first : chain_result (clauses ++ take n a) chain.0 chain.1 ≡ Some (set_of c) = p.each n c chain.0 chain.1 (slice_get-get_or a n [] lt_a) (slice_get-get_or chains n ([], []) lt) in
    let second : chain_result (clauses ++ take n b) chain.0 chain.1 ≡ Some (set_of d) = q.each n d chain.0 chain.1 (slice_get-get_or b n [] lt_b) (slice_get-get_or chains n ([], []) lt) in
    let same : set_of c ≡ set_of d = same_Some (set_of c) (set_of d) (sym first ∙ (result_same (clauses ++ take n a) (clauses ++ take n b) chain.0 chain.1 (behind_same clauses (take n a) (take n b) before) ∙ second)) in
    let e : n + 1 ≡ suc n = omega arith in
    subst (λ k. AreSameSets (take k a) (take k b)) e
    (ap (map set_of) (take_more a n [] lt_a) ∙ (push_same (take n a) (take n b) c d before same ∙ sym (ap (map set_of) (take_more b n [] lt_b))))

pub added_same : (clauses a b : List (List Literal)) (chains : List (List ℕ × List ℕ)) → AreDerived clauses a chains → AreDerived clauses b chains → AreSameSets a b
added_same clauses a b chains p q =
    sym (ap (map set_of) (take_all (length chains) a (omega (arith, p.lengths)))) ∙ (front_same clauses a b chains (length chains) p q (omega arith) ∙ ap (map set_of) (take_all (length chains) b (omega (arith, q.lengths))))

-- whether a clause is empty
not_empty : (x : Literal) (xs : List Literal) → (length (x ∷ xs) == 0) ≡ false
not_empty x xs = ne_eqb (length (x ∷ xs)) 0 (omega arith)

has_first : (x : Literal) (xs : List Literal) → has x.0 (x ∷ xs) ≡ true
has_first x xs = let e : eqb x.0 x.0 ≡ true = eq-eqb x.0 x.0 refl in rw e refl

empty_set : (c d : List Literal) → set_of c ≡ set_of d → (length c == 0) ≡ (length d == 0)
empty_set [] [] e = refl
empty_set (x ∷ xs) (y ∷ ys) e = not_empty x xs ∙ sym (not_empty y ys)
empty_set [] (y ∷ ys) e = absurd (let no : false ≡ true = ap (λ (s : ℕ → Bool). s y.0) e ∙ has_first y ys in cc)
empty_set (x ∷ xs) [] e = absurd (let no : false ≡ true = sym (ap (λ (s : ℕ → Bool). s x.0) e) ∙ has_first x xs in cc)

pub empty_same : (some others : List (List Literal)) → AreSameSets some others → has_empty some ≡ has_empty others
empty_same [] [] same = refl
empty_same [] (d ∷ ds) same = absurd (let e : ⊥ = cc in e)
empty_same (c ∷ cs) [] same = absurd (let e : ⊥ = cc in e)
empty_same (c ∷ cs) (d ∷ ds) same =
    let first : set_of c ≡ set_of d = cc in
    let rest : map set_of cs ≡ map set_of ds = cc in
    rw (empty_set c d first, empty_same cs ds rest) refl
