-- The tests of literals' ranges and what they say.
use Rattle.std.proofs.Common.{◌≡◌, ℕ, zero, suc, ◌+◌, ◌*◌, ◌<◌, ◌≤◌, true, eqb, List, [], ◌∷◌, Some, slice_get, refl, sym, subst, inl, inr, true≢false, eq-eqb}
use Rattle.std.specs.List.{list_all}
use Rattle.std.specs.Prelude.{nat_le, nat_lt}
use Rattle.std.proofs.lemmas.Bool.{or_cases, or_left, or_right, and_parts, and_from, eqb-true, ltb-true, lt-ltb, leb-true, le-leb}
use Rattle.lemma_checker.specs.declared.literal.Literal.{Literal}
use Rattle.lemma_checker.specs.Clauses.{has, IsOver, AreOver, in_range}

range_from : (vars : ℕ) (x : Literal) → in_range vars x ≡ true → (2 ≤ x.0) × (x.0 < 2 * vars + 2)
range_from vars x h =
    let parts : (nat_le 2 x.0 ≡ true) × (nat_lt x.0 (2 * vars + 2) ≡ true) = and_parts _ _ h in
    (leb-true _ _ parts.0, ltb-true _ _ parts.1)

over_from : (vars : ℕ) (c : List Literal) → list_all (in_range vars) c ≡ true → (l : ℕ) → has l c ≡ true → (2 ≤ l) × (l < 2 * vars + 2)
over_from vars [] h l there = absurd (true≢false (sym there))
over_from vars (x ∷ xs) h l there =
    let parts : (in_range vars x ≡ true) × (list_all (in_range vars) xs ≡ true) = and_parts (in_range vars x) (list_all (in_range vars) xs) h in
    elim (or_cases (eqb x.0 l) (has l xs) there) [
      | inl here ↦ subst (λ (k : ℕ). (2 ≤ k) × (k < 2 * vars + 2)) (eqb-true x.0 l here) (range_from vars x parts.0)
      | inr later ↦ over_from vars xs parts.1 l later
    ]

test_from : (vars : ℕ) (c : List Literal) → IsOver vars c → list_all (in_range vars) c ≡ true
test_from vars [] o = refl
test_from vars (x ∷ xs) o =
    let here : has x.0 (x ∷ xs) ≡ true = or_left (eqb x.0 x.0) (has x.0 xs) (eq-eqb x.0 x.0 refl) in
    and_from (in_range vars x) (list_all (in_range vars) xs)
    (and_from (nat_le 2 x.0) (nat_lt x.0 (2 * vars + 2)) (le-leb _ _ (o.low x.0 here)) (lt-ltb _ _ (o.high x.0 here)))
    (test_from vars xs (record {
      low = λ l h. o.low l (or_right (eqb x.0 l) (has l xs) h);
      high = λ l h. o.high l (or_right (eqb x.0 l) (has l xs) h);
    }))

pub all_over : (vars : ℕ) (cs : List (List Literal)) → list_all (λ c. list_all (in_range vars) c) cs ≡ true → AreOver vars cs
all_over vars [] h = record { each = λ i c is. absurd (cc) }
all_over vars (d ∷ ds) h =
    let parts : (list_all (in_range vars) d ≡ true) × (list_all (λ c. list_all (in_range vars) c) ds ≡ true) = and_parts (list_all (in_range vars) d) (list_all (λ c. list_all (in_range vars) c) ds) h in
    let rest : AreOver vars ds = all_over vars ds parts.1 in
    record { each = each_of vars d ds (record { low = λ l t. (over_from vars d parts.0 l t).0; high = λ l t. (over_from vars d parts.0 l t).1 }) rest }
  where
    each_of : (vars : ℕ) (d : List Literal) (ds : List (List Literal)) → IsOver vars d → AreOver vars ds → (i : ℕ) (c : List Literal) → slice_get (d ∷ ds) i ≡ Some c → IsOver vars c
    each_of vars d ds o r zero c is = let e : d ≡ c = cc in subst (IsOver vars) e o
    each_of vars d ds o r (suc i) c is = r.each i c is

pub over_all : (vars : ℕ) (cs : List (List Literal)) → AreOver vars cs → list_all (λ c. list_all (in_range vars) c) cs ≡ true
over_all vars [] o = refl
over_all vars (d ∷ ds) o = and_from (list_all (in_range vars) d) (list_all (λ c. list_all (in_range vars) c) ds) (test_from vars d (o.each 0 d refl)) (over_all vars ds (record { each = λ i c is. o.each (suc i) c is }))
