-- The clauses of each latch are new to those of the latches before it.
use Rattle.std.proofs.Common.{◌≡◌, ℕ, zero, suc, ◌+◌, ◌-◌, ◌<◌, ◌≤◌, Bool, true, false, ◌&&◌, ◌||◌, eqb, cond, List, [], ◌∷◌, ◌++◌, Option, Some, None, IfSome, refl, ap, ◌∙◌, sym, subst, arith}
use Rattle.std.specs.List.{flat_map, range_with_len}
use Rattle.std.proofs.lemmas.Bool.{ne_eqb}
use Rattle.std.proofs.lemmas.List.{append_assoc}
use Rattle.unroll_cnf.specs.declared.latch_literal.LatchLiteral.{LatchLiteral}
use Rattle.unroll_cnf.specs.Latches.{IsOfLatches, AreOfLatches}
use Rattle.invariant_miner.specs.Candidates.{plain, negated, has_literal, same_literals, is_there, with_new, holds_in_all, constant_clauses, are_equal, are_opposite, least_from, relation_with, relation_clauses, latch_clauses}
use Rattle.invariant_miner.proofs.ColumnLemmas.{least_within}
use Rattle.invariant_miner.proofs.ListedLemmas.{new_append}
use Rattle.invariant_miner.proofs.AskableLemmas.{of_append, of_none, latch_small}

and_none : (b : Bool) → (b && false) ≡ false
and_none true = refl
and_none false = refl

rest_of : (n : ℕ) (l : LatchLiteral) (e : List LatchLiteral) → IsOfLatches n (l ∷ e) → IsOfLatches n e
rest_of n l e of = record { each = λ j m is. of.each (suc j) m is }

rest_all : (n : ℕ) (e : List LatchLiteral) (list : List (List LatchLiteral)) → AreOfLatches n (e ∷ list) → AreOfLatches n list
rest_all n e list of = record { each = λ i d is. of.each (suc i) d is }

-- a clause of the latches below n has no literal of latch n
has_none : (n : ℕ) (x : LatchLiteral) (e : List LatchLiteral) → n ≤ x.latch → IsOfLatches n e → has_literal e x ≡ false
has_none n x [] le of = refl
has_none n x (l ∷ e) le of =
    let less : l.latch < n = of.each 0 l refl in
    let away : eqb x.latch l.latch ≡ false = ne_eqb x.latch l.latch (λ same. omega (arith, less, le, same)) in
    rw away (has_none n x e le (rest_of n l e of))

-- so it is no clause with such a literal
pub one_not_there : (n : ℕ) (x : LatchLiteral) (list : List (List LatchLiteral)) → n ≤ x.latch → AreOfLatches n list → is_there (x ∷ []) list ≡ false
unfolding is_there same_literals
one_not_there n x [] le of = refl
one_not_there n x (e ∷ list) le of = rw (has_none n x e le (of.each 0 e refl)) (one_not_there n x list le (rest_all n e list of))

pub two_not_there : (n : ℕ) (y x : LatchLiteral) (list : List (List LatchLiteral)) → n ≤ x.latch → AreOfLatches n list → is_there (y ∷ x ∷ []) list ≡ false
unfolding is_there same_literals
two_not_there n y x [] le of = refl
two_not_there n y x (e ∷ list) le of = rw (has_none n x e le (of.each 0 e refl), and_none (has_literal e y)) (two_not_there n y x list le (rest_all n e list of))

-- nor is a clause of two latches one of one latch, or one with another sign of the first
not_single : (y x c : LatchLiteral) → y.latch < c.latch → same_literals (y ∷ x ∷ []) (c ∷ []) ≡ false
unfolding same_literals
not_single y x c lt = let away : eqb y.latch c.latch ≡ false = ne_eqb y.latch c.latch (λ same. omega (arith, lt, same)) in rw away refl

not_other_sign : (k n : ℕ) (x z : LatchLiteral) → k < z.latch → same_literals (negated k ∷ x ∷ []) (plain k ∷ z ∷ []) ≡ false
unfolding same_literals
not_other_sign k n x z lt = let away : eqb k z.latch ≡ false = ne_eqb k z.latch (λ same. omega (arith, lt, same)) in rw (and_none (eqb k k), away) refl

there_push : (d e : List LatchLiteral) (list : List (List LatchLiteral)) → is_there d list ≡ false → same_literals d e ≡ false → is_there d (list ++ e ∷ []) ≡ false
unfolding is_there
there_push d e [] h f = rw f refl
there_push d e (z ∷ list) h f = by_test d e list (same_literals d z) h (λ r. there_push d e list r f)
  where
    by_test : (d e : List LatchLiteral) (list : List (List LatchLiteral)) (b : Bool) → (b || is_there d list) ≡ false → (is_there d list ≡ false → is_there d (list ++ e ∷ []) ≡ false) → (b || is_there d (list ++ e ∷ [])) ≡ false
    by_test d e list true h more = absurd (let r : ⊥ = cc in r)
    by_test d e list false h more = more h

-- so each is added
add_new : (list : List (List LatchLiteral)) (d : List LatchLiteral) → is_there d list ≡ false → with_new list (d ∷ []) ≡ list ++ d ∷ []
add_new list d h = rw h refl

append_none : (list : List (List LatchLiteral)) → list ≡ list ++ []
append_none [] = refl
append_none (d ∷ list) = ap (λ (z : List (List LatchLiteral)). d ∷ z) (append_none list)

constant_by : (n : ℕ) (list : List (List LatchLiteral)) (a b : Bool) → AreOfLatches n list → with_new list (cond a ((plain n ∷ []) ∷ []) (cond b ((negated n ∷ []) ∷ []) [])) ≡ list ++ cond a ((plain n ∷ []) ∷ []) (cond b ((negated n ∷ []) ∷ []) [])
constant_by n list true b of = add_new list (plain n ∷ []) (one_not_there n (plain n) list (omega arith) of)
constant_by n list false true of = add_new list (negated n ∷ []) (one_not_there n (negated n) list (omega arith) of)
constant_by n list false false of = append_none list

-- a clause of latch n and a lower one isn't there, where a clause of latch n alone may be
not_there_after : (n : ℕ) (list : List (List LatchLiteral)) (a b : Bool) (y x : LatchLiteral) → AreOfLatches n list → y.latch < n → n ≤ x.latch → is_there (y ∷ x ∷ []) (list ++ cond a ((plain n ∷ []) ∷ []) (cond b ((negated n ∷ []) ∷ []) [])) ≡ false
not_there_after n list true b y x of lt le = there_push (y ∷ x ∷ []) (plain n ∷ []) list (two_not_there n y x list le of) (not_single y x (plain n) lt)
not_there_after n list false true y x of lt le = there_push (y ∷ x ∷ []) (negated n ∷ []) list (two_not_there n y x list le of) (not_single y x (negated n) lt)
not_there_after n list false false y x of lt le = subst (λ (z : List (List LatchLiteral)). is_there (y ∷ x ∷ []) z ≡ false) (append_none list) (two_not_there n y x list le of)

two_new : (list : List (List LatchLiteral)) (d e : List LatchLiteral) → is_there d list ≡ false → is_there e (list ++ d ∷ []) ≡ false → with_new list (d ∷ e ∷ []) ≡ list ++ (d ∷ e ∷ [])
two_new list d e p q = ap (λ (b : Bool). with_new (cond b list (list ++ d ∷ [])) (e ∷ [])) p ∙ (add_new (list ++ d ∷ []) e q ∙ append_assoc list (d ∷ []) (e ∷ []))

relation_by : (n : ℕ) (list : List (List LatchLiteral)) (p q : Option ℕ) → ((y x : LatchLiteral) → y.latch < n → n ≤ x.latch → is_there (y ∷ x ∷ []) list ≡ false) → IfSome p (λ k. k < n) → IfSome q (λ k. k < n) → with_new list (relation_with p q n) ≡ list ++ relation_with p q n
relation_by n list (Some k) q h f g = two_new list (plain k ∷ negated n ∷ []) (negated k ∷ plain n ∷ []) (h (plain k) (negated n) f (omega arith)) (there_push (negated k ∷ plain n ∷ []) (plain k ∷ negated n ∷ []) list (h (negated k) (plain n) f (omega arith)) (not_other_sign k n (plain n) (negated n) f))
relation_by n list None (Some k) h f g = two_new list (plain k ∷ plain n ∷ []) (negated k ∷ negated n ∷ []) (h (plain k) (plain n) g (omega arith)) (there_push (negated k ∷ negated n ∷ []) (plain k ∷ plain n ∷ []) list (h (negated k) (negated n) g (omega arith)) (not_other_sign k n (negated n) (plain n) g))
relation_by n list None None h f g = append_none list

latch_new : (all : (List Bool → Bool) → Bool) (n : ℕ) (list : List (List LatchLiteral)) → AreOfLatches n list → with_new list (latch_clauses all n) ≡ list ++ latch_clauses all n
unfolding latch_clauses relation_clauses
latch_new all n list of =
    let p : Option ℕ = least_from (are_equal all n) 1 (n - 1) in
    let q : Option ℕ = least_from (are_opposite all n) 1 (n - 1) in
    sym (new_append list (constant_clauses all n) (relation_with p q n))
    ∙ (ap (λ (z : List (List LatchLiteral)). with_new z (relation_with p q n)) (constant_by n list (holds_in_all all (plain n)) (holds_in_all all (negated n)) of)
    ∙ (relation_by n (list ++ constant_clauses all n) p q (λ y x lt le. not_there_after n list (holds_in_all all (plain n)) (holds_in_all all (negated n)) y x of lt le) (least_within (are_equal all n) n p refl) (least_within (are_opposite all n) n q refl)
    ∙ append_assoc list (constant_clauses all n) (relation_with p q n)))

of_more : (n : ℕ) (list : List (List LatchLiteral)) → AreOfLatches n list → AreOfLatches (n + 1) list
of_more n list of = record { each = λ i d is. record { each = λ j l at. let less : l.latch < n = (of.each i d is).each j l at in omega (arith, less) } }

range_new : (all : (List Bool → Bool) → Bool) (m count : ℕ) (list : List (List LatchLiteral)) → AreOfLatches m list → with_new list (flat_map (latch_clauses all) (range_with_len m count)) ≡ list ++ flat_map (latch_clauses all) (range_with_len m count)
range_new all m zero list of = append_none list
range_new all m (suc count) list of =
    let rest : List (List LatchLiteral) = flat_map (latch_clauses all) (range_with_len (m + 1) count) in
    let more : AreOfLatches (m + 1) (list ++ latch_clauses all m) = of_append (m + 1) list (latch_clauses all m) (of_more m list of) (latch_small all (m + 1) m (omega arith)).of in
    sym (new_append list (latch_clauses all m) rest)
    ∙ (ap (λ (z : List (List LatchLiteral)). with_new z rest) (latch_new all m list of)
    ∙ (range_new all (m + 1) count (list ++ latch_clauses all m) more
    ∙ append_assoc list (latch_clauses all m) rest))

pub latches_new : (all : (List Bool → Bool) → Bool) (count : ℕ) → with_new [] (flat_map (latch_clauses all) (range_with_len 1 count)) ≡ flat_map (latch_clauses all) (range_with_len 1 count)
latches_new all count = range_new all 1 count [] (of_none 1)

-- a loop that appends the clauses of each latch
pub appended_more : (f : ℕ → List (List LatchLiteral)) (m n : ℕ) (list new : List (List LatchLiteral)) → m < n → new ≡ list ++ f m → new ++ flat_map f (range_with_len (m + 1) (n - (m + 1))) ≡ list ++ flat_map f (range_with_len m (n - m))
appended_more f m n list new lt e =
    let next : n - m ≡ suc (n - (m + 1)) = omega arith in
    ap (λ (z : List (List LatchLiteral)). z ++ flat_map f (range_with_len (m + 1) (n - (m + 1)))) e
    ∙ (append_assoc list (f m) (flat_map f (range_with_len (m + 1) (n - (m + 1)))) ∙ ap (λ (k : ℕ). list ++ flat_map f (range_with_len m k)) (sym next))

pub appended_all : (f : ℕ → List (List LatchLiteral)) (m n : ℕ) (list : List (List LatchLiteral)) → n ≤ m → list ≡ list ++ flat_map f (range_with_len m (n - m))
appended_all f m n list le = let none : n - m ≡ 0 = omega arith in append_none list ∙ ap (λ (k : ℕ). list ++ flat_map f (range_with_len m k)) (sym none)
