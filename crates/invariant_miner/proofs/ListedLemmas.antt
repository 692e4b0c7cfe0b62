-- Adding clauses one after the other.
use Rattle.std.proofs.Common.{◌≡◌, ℕ, zero, suc, ◌+◌, ◌-◌, ◌<◌, ◌≤◌, Bool, List, [], ◌∷◌, ◌++◌, length, drop, get_or, cond, refl, ap, ◌∙◌, sym, subst, arith}
use Rattle.std.specs.List.{All, flat_map, range_with_len}
use Rattle.std.specs.List.Sorted.{IsStrictlyIncreasing}
use Rattle.std.proofs.lemmas.List.{drop_more, drop_all, get_or-drop, get_or_default, length-drop}
use Rattle.unroll_cnf.specs.declared.latch_literal.LatchLiteral.{LatchLiteral}
use Rattle.invariant_miner.specs.Candidates.{is_there, with_new, pair_clauses, control_clauses}

-- some clauses, then others
pub new_append : (list xs ys : List (List LatchLiteral)) → with_new (with_new list xs) ys ≡ with_new list (xs ++ ys)
new_append list [] ys = refl
new_append list (x ∷ xs) ys = new_append (cond (is_there x list) list (list ++ x ∷ [])) xs ys

-- a loop that adds the clauses of each element of a list: what is done, with the rest
pub new_more : {X : Type 0} (f : X → List (List LatchLiteral)) (xs : List X) (i : ℕ) (d : X) (list : List (List LatchLiteral)) → i < length xs → with_new (with_new list (f (get_or xs i d))) (flat_map f (drop (i + 1) xs)) ≡ with_new list (flat_map f (drop i xs))
new_more f xs i d list lt = new_append list (f (get_or xs i d)) (flat_map f (drop (i + 1) xs)) ∙ rw (drop_more xs i d lt) refl

pub new_all : {X : Type 0} (f : X → List (List LatchLiteral)) (xs : List X) (i : ℕ) (list : List (List LatchLiteral)) → length xs ≤ i → with_new list (flat_map f (drop i xs)) ≡ list
new_all f xs i list le = rw (drop_all i xs le) refl

-- the same for numbers from m on
pub range_more : (f : ℕ → List (List LatchLiteral)) (m n : ℕ) (list : List (List LatchLiteral)) → m < n → with_new (with_new list (f m)) (flat_map f (range_with_len (m + 1) (n - (m + 1)))) ≡ with_new list (flat_map f (range_with_len m (n - m)))
range_more f m n list lt = let e : n - m ≡ suc (n - (m + 1)) = omega arith in new_append list (f m) (flat_map f (range_with_len (m + 1) (n - (m + 1)))) ∙ rw e refl

pub range_all : (f : ℕ → List (List LatchLiteral)) (m n : ℕ) (list : List (List LatchLiteral)) → n ≤ m → with_new list (flat_map f (range_with_len m (n - m))) ≡ list
range_all f m n list le = let e : n - m ≡ 0 = omega arith in rw e refl

-- the same for pairs of control latches
pub control_more : (all : (List Bool → Bool) → Bool) (control : List ℕ) (i d : ℕ) (list : List (List LatchLiteral)) → i < length control → with_new (with_new list (flat_map (pair_clauses all (get_or control i d)) (drop (i + 1) control))) (control_clauses all (drop (i + 1) control)) ≡ with_new list (control_clauses all (drop i control))
control_more all control i d list lt = new_append list (flat_map (pair_clauses all (get_or control i d)) (drop (i + 1) control)) (control_clauses all (drop (i + 1) control)) ∙ rw (drop_more control i d lt) refl

pub control_all : (all : (List Bool → Bool) → Bool) (control : List ℕ) (i : ℕ) (list : List (List LatchLiteral)) → length control ≤ i → with_new list (control_clauses all (drop i control)) ≡ list
control_all all control i list le = rw (drop_all i control le) refl

pub two_new : (list a b : List (List LatchLiteral)) → with_new (with_new list a) b ≡ with_new list (a ++ b)
two_new list a b = new_append list a b

pub four_new : (list a b c d : List (List LatchLiteral)) → with_new (with_new (with_new (with_new list a) b) c) d ≡ with_new list (a ++ (b ++ (c ++ d)))
four_new list a b c d = new_append (with_new (with_new list a) b) c d ∙ (new_append (with_new list a) b (c ++ d) ∙ new_append list a (b ++ (c ++ d)))

-- in a rising list, later elements are greater
pub rising : (xs : List ℕ) (i k : ℕ) → IsStrictlyIncreasing xs → i + k + 1 < length xs → get_or xs i 0 < get_or xs (i + k + 1) 0
rising xs i zero r lt = let e : i + zero + 1 ≡ i + 1 = omega arith in subst (λ (j : ℕ). get_or xs i 0 < get_or xs j 0) (sym e) (r i (omega arith))
rising xs i (suc k) r lt =
    let before : get_or xs i 0 < get_or xs (i + k + 1) 0 = rising xs i k r (omega arith) in
    let step : get_or xs (i + k + 1) 0 < get_or xs (i + k + 1 + 1) 0 = r (i + k + 1) (omega arith) in
    let e : i + suc k + 1 ≡ i + k + 1 + 1 = omega arith in
    subst (λ (j : ℕ). get_or xs i 0 < get_or xs j 0) (sym e) (omega (arith, before, step))

pub later_greater : (xs : List ℕ) (i : ℕ) → IsStrictlyIncreasing xs → All (λ b. get_or xs i 0 < b) (drop (i + 1) xs)
later_greater xs i r k d lt =
    let within : i + k + 1 < length xs = omega (arith, length-drop (i + 1) xs) in
    let e : i + 1 + k ≡ i + k + 1 = omega arith in
    let there : get_or (drop (i + 1) xs) k d ≡ get_or xs (i + k + 1) 0 = get_or-drop (i + 1) xs k d ∙ (ap (λ (j : ℕ). get_or xs j d) e ∙ get_or_default xs (i + k + 1) d 0 within) in
    subst (λ (b : ℕ). get_or xs i 0 < b) (sym there) (rising xs i k r within)
