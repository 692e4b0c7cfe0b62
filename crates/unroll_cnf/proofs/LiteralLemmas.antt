-- The values of literals.
use Rattle.std.proofs.Common.{◌≡◌, ℕ, ◌+◌, ◌*◌, ◌/◌, ◌%◌, ◌⊎◌, Bool, true, false, not, ◌&&◌, ◌||◌, cond, refl, ap, sym, ◌∙◌, inl, inr, arith, true≢false}
use Rattle.std.proofs.lemmas.Bool.{cases_eq}
use Rattle.lemma_checker.specs.declared.literal.Literal.{Literal}
use Rattle.lemma_checker.specs.Clauses.{opposite, literal_true}
use Rattle.gate_graph.specs.declared.wires.Wire.{Wire}
use Rattle.gate_graph.specs.Gates.{wire_value}
use Rattle.unroll_cnf.specs.Queries.{plain, negated, denied, signed, literal_at}
use Rattle.unroll_cnf.specs.Meaning.{shifted}

pub even_value : (v : ℕ → Bool) (l n : ℕ) → l ≡ 2 * n → literal_true v l ≡ v n
unfolding literal_true
even_value v l n e =
    let even : l % 2 ≡ 0 = omega arith in
    let half : l / 2 ≡ n = omega arith in
    rw (even, half) refl

pub odd_value : (v : ℕ → Bool) (l n : ℕ) → l ≡ 2 * n + 1 → literal_true v l ≡ not (v n)
unfolding literal_true
odd_value v l n e =
    let odd : l % 2 ≡ 1 = omega arith in
    let half : l / 2 ≡ n = omega arith in
    rw (odd, half) refl

pub plain_value : (v : ℕ → Bool) (n : ℕ) → literal_true v (plain n).0 ≡ v n
plain_value v n = even_value v (2 * n) n refl

pub negated_value : (v : ℕ → Bool) (n : ℕ) → literal_true v (negated n).0 ≡ not (v n)
negated_value v n = odd_value v (2 * n + 1) n refl

pub not_not : (b : Bool) → not (not b) ≡ b
not_not true = refl
not_not false = refl

pub opposite_even : (n : ℕ) → opposite (2 * n) ≡ 2 * n + 1
unfolding opposite
opposite_even n = omega arith

pub opposite_odd : (n : ℕ) → opposite (2 * n + 1) ≡ 2 * n
unfolding opposite
opposite_odd n = omega arith

-- a literal is a variable or its negation
pub sign_of : (l : ℕ) → (l ≡ 2 * (l / 2)) ⊎ (l ≡ 2 * (l / 2) + 1)
sign_of l = elim (cases_eq (l % 2) 0) [ inl p ↦ inl (omega arith) | inr p ↦ inr (omega arith) ]

pub opposite_variable : (l : ℕ) → opposite l / 2 ≡ l / 2
unfolding opposite
opposite_variable l = omega arith

pub opposite_other : (l : ℕ) → opposite l ≡ l → ⊥
unfolding opposite
opposite_other l e = omega arith

pub denied_value : (v : ℕ → Bool) (l : Literal) → literal_true v (denied l).0 ≡ not (literal_true v l.0)
denied_value v l = elim (sign_of l.0) [
  | inl even ↦
      let there : opposite l.0 ≡ 2 * (l.0 / 2) + 1 = ap opposite even ∙ opposite_even (l.0 / 2) in
      odd_value v (opposite l.0) (l.0 / 2) there ∙ ap not (sym (even_value v l.0 (l.0 / 2) even))
  | inr odd ↦
      let there : opposite l.0 ≡ 2 * (l.0 / 2) = ap opposite odd ∙ opposite_odd (l.0 / 2) in
      even_value v (opposite l.0) (l.0 / 2) there ∙ (sym (not_not (v (l.0 / 2))) ∙ ap not (sym (odd_value v l.0 (l.0 / 2) odd)))
]

pub signed_value : (v : ℕ → Bool) (b : Bool) (l : Literal) → literal_true v (signed b l).0 ≡ cond b (not (literal_true v l.0)) (literal_true v l.0)
signed_value v true l = denied_value v l
signed_value v false l = refl

pub literal_value : (v : ℕ → Bool) (k : ℕ) (w : Wire) → literal_true v (literal_at k w).0 ≡ wire_value (shifted v k) w
unfolding literal_true wire_value
literal_value v k w =
    let parity : (w.0 + 2 * k) % 2 ≡ w.0 % 2 = omega arith in
    let half : (w.0 + 2 * k) / 2 ≡ w.0 / 2 + k = omega arith in
    rw (parity, half) refl

-- small clauses and what they say
pub one_true : (a : Bool) → (a || false) ≡ true → a ≡ true
one_true true h = refl
one_true false h = h

pub true_one : (a : Bool) → a ≡ true → (a || false) ≡ true
true_one a h = rw h refl

pub not_false : (a : Bool) → not a ≡ true → a ≡ false
not_false true h = sym h
not_false false h = refl

pub false_not : (a : Bool) → a ≡ false → not a ≡ true
false_not a h = rw h refl

pub same_by_clauses : (x y : Bool) → (not x || (y || false)) ≡ true → (x || (not y || false)) ≡ true → x ≡ y
same_by_clauses true true p q = refl
same_by_clauses true false p q = sym p
same_by_clauses false true p q = q
same_by_clauses false false p q = refl

pub clauses_by_same : (x y : Bool) → x ≡ y → ((not x || (y || false)) ≡ true) × ((x || (not y || false)) ≡ true)
clauses_by_same true true e = (refl, refl)
clauses_by_same true false e = absurd (true≢false e)
clauses_by_same false true e = absurd (true≢false (sym e))
clauses_by_same false false e = (refl, refl)

pub and_by_clauses : (x a b : Bool) → (not x || (a || false)) ≡ true → (not x || (b || false)) ≡ true → (x || (not a || (not b || false))) ≡ true → x ≡ (a && b)
and_by_clauses true true true p q r = refl
and_by_clauses true true false p q r = sym q
and_by_clauses true false b p q r = sym p
and_by_clauses false true true p q r = r
and_by_clauses false true false p q r = refl
and_by_clauses false false b p q r = refl

pub clauses_by_and : (x a b : Bool) → x ≡ (a && b) → ((not x || (a || false)) ≡ true) × ((not x || (b || false)) ≡ true) × ((x || (not a || (not b || false))) ≡ true)
clauses_by_and true true true e = (refl, refl, refl)
clauses_by_and true true false e = absurd (true≢false e)
clauses_by_and true false b e = absurd (true≢false e)
clauses_by_and false true true e = absurd (true≢false (sym e))
clauses_by_and false true false e = (refl, refl, refl)
clauses_by_and false false true e = (refl, refl, refl)
clauses_by_and false false false e = (refl, refl, refl)

-- of two literals one is true
pub not_both : (x y : Bool) → (not x || (not y || false)) ≡ true → x ≡ true → y ≡ false
not_both true true p e = sym p
not_both true false p e = refl
not_both false y p e = absurd (true≢false (sym e))
