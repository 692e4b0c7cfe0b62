-- Numbers place by place.
use Rattle.std.proofs.Common.{◌≡◌, ℕ, ◌+◌, ◌*◌, ◌/◌, ◌%◌, ◌<◌, ◌≤◌, ◌==◌, Bool, true, false, not, ◌&&◌, if◌then◌else◌, cond, List, length, drop, get_or, refl, ◌∙◌, ap, arith, inl, inr, eq-eqb, ne_eqb}
use Rattle.std.proofs.lemmas.Bool.{cases_Bool, eqb-true, eqb-false}
use Rattle.gate_graph.specs.declared.wires.Wire.{Wire}
use Rattle.gate_graph.specs.Gates.{wire_value}
use Rattle.bit_base.specs.Numbers.{number_of}
use Rattle.word_gates.specs.Words.{values}
use Rattle.word_gates.proofs.WordLemmas.{no_wire, values_drop, values_end}

-- a number is n where its first place is that of n, and the rest is the rest of n
odd_place : (m n : ℕ) → (1 + 2 * m == n) ≡ ((n % 2 == 1) && (m == n / 2))
odd_place m n = elim (cases_Bool (n % 2 == 1)) [
  | inl t ↦ elim (cases_Bool (m == n / 2)) [
    | inl s ↦ let e : 1 + 2 * m ≡ n = omega (arith, eqb-true (n % 2) 1 t, eqb-true m (n / 2) s) in rw (t, s, eq-eqb (1 + 2 * m) n e) refl
    | inr s ↦ let other : m ≡ n / 2 → ⊥ = eqb-false m (n / 2) s in let ne : 1 + 2 * m ≡ n → ⊥ = λ h. other (omega arith) in rw (t, s, ne_eqb (1 + 2 * m) n ne) refl
  ]
  | inr t ↦ let other : n % 2 ≡ 1 → ⊥ = eqb-false (n % 2) 1 t in let ne : 1 + 2 * m ≡ n → ⊥ = λ h. other (omega arith) in rw (t, ne_eqb (1 + 2 * m) n ne) refl
]

even_place : (m n : ℕ) → (0 + 2 * m == n) ≡ (not (n % 2 == 1) && (m == n / 2))
even_place m n = elim (cases_Bool (n % 2 == 1)) [
  | inl t ↦ let odd : n % 2 ≡ 1 = eqb-true (n % 2) 1 t in let ne : 0 + 2 * m ≡ n → ⊥ = λ h. omega arith in rw (t, ne_eqb (0 + 2 * m) n ne) refl
  | inr t ↦
      let other : n % 2 ≡ 1 → ⊥ = eqb-false (n % 2) 1 t in
      elim (cases_Bool (m == n / 2)) [
        | inl s ↦ let e : 0 + 2 * m ≡ n = omega (arith, eqb-true m (n / 2) s) in rw (t, s, eq-eqb (0 + 2 * m) n e) refl
        | inr s ↦ let apart : m ≡ n / 2 → ⊥ = eqb-false m (n / 2) s in let ne : 0 + 2 * m ≡ n → ⊥ = λ h. apart (omega arith) in rw (t, s, ne_eqb (0 + 2 * m) n ne) refl
      ]
]

place_is : (b found : Bool) (m n : ℕ) → (found && (cond b 1 0 + 2 * m == n)) ≡ ((found && (if n % 2 == 1 then b else not b)) && (m == n / 2))
place_is true found m n = rw (odd_place m n) (by found (n % 2 == 1))
  where
    by : (found odd : Bool) → (found && (odd && (m == n / 2))) ≡ ((found && (if odd then true else false)) && (m == n / 2))
    by true true = refl
    by true false = refl
    by false odd = refl
place_is false found m n = rw (even_place m n) (by found (n % 2 == 1))
  where
    by : (found odd : Bool) → (found && (not odd && (m == n / 2))) ≡ ((found && (if odd then false else true)) && (m == n / 2))
    by true true = refl
    by true false = refl
    by false odd = refl

pub number_more : (v : ℕ → Bool) (a : List Wire) (i n : ℕ) (found : Bool) → i < length a
    → (found && (number_of (values v (drop i a)) == n)) ≡ ((found && (if n % 2 == 1 then wire_value v (get_or a i no_wire) else not (wire_value v (get_or a i no_wire)))) && (number_of (values v (drop (i + 1) a)) == n / 2))
number_more v a i n found lt = rw (values_drop v a i lt) (place_is (wire_value v (get_or a i no_wire)) found (number_of (values v (drop (i + 1) a))) n)

zero_either : (n : ℕ) → (0 == n) ≡ (n == 0)
zero_either n = elim (cases_Bool (n == 0)) [
  | inl t ↦ let e : 0 ≡ n = omega (arith, eqb-true n 0 t) in rw (t, eq-eqb 0 n e) refl
  | inr t ↦ let other : n ≡ 0 → ⊥ = eqb-false n 0 t in let ne : 0 ≡ n → ⊥ = λ h. other (omega arith) in rw (t, ne_eqb 0 n ne) refl
]

and_either : (a b : Bool) → (a && b) ≡ (b && a)
and_either true true = refl
and_either true false = refl
and_either false true = refl
and_either false false = refl

pub number_end : (v : ℕ → Bool) (a : List Wire) (i n : ℕ) (found : Bool) → length a ≤ i → (found && (number_of (values v (drop i a)) == n)) ≡ ((n == 0) && found)
number_end v a i n found le =
    let none : number_of (values v (drop i a)) ≡ 0 = ap number_of (values_end v a i le) in
    ap (λ m. found && (m == n)) none ∙ (ap (λ t. found && t) (zero_either n) ∙ and_either found (n == 0))
