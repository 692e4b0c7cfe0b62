-- Operators place by place, from a place on.
use Rattle.std.proofs.Common.{◌≡◌, ℕ, ◌+◌, ◌<◌, ◌≤◌, Bool, true, false, List, [], ◌∷◌, length, map, drop, get_or, arith, refl, ap}
use Rattle.bit_base.specs.Operators.{each_place, picked}
use Rattle.gate_graph.specs.declared.wires.Wire.{Wire}
use Rattle.gate_graph.specs.Gates.{wire_value}
use Rattle.std.specs.Prelude.{if◌then◌else◌}
use Rattle.word_gates.specs.Words.{values}
use Rattle.word_gates.specs.Places.{chained}
use Rattle.word_gates.proofs.WordLemmas.{no_wire, values_drop, values_end}

-- what two words give from place i on
abbrev pub places_from : (Bool → Bool → Bool) → (ℕ → Bool) → List Wire → List Wire → ℕ → List Bool
places_from f v a b i = each_place f (values v (drop i a)) (values v (drop i b))

pub places_more : (f : Bool → Bool → Bool) (v : ℕ → Bool) (a b : List Wire) (i : ℕ) → i < length a → i < length b
    → places_from f v a b i ≡ f (wire_value v (get_or a i no_wire)) (wire_value v (get_or b i no_wire)) ∷ places_from f v a b (i + 1)
places_more f v a b i p q = rw (values_drop v a i p, values_drop v b i q) refl

pub places_end : (f : Bool → Bool → Bool) (v : ℕ → Bool) (a b : List Wire) (i : ℕ) → length a ≤ i → places_from f v a b i ≡ []
places_end f v a b i p = rw (values_end v a i p) refl

-- a bit with each of a word's from place i on
abbrev pub chained_from : (Bool → Bool → Bool) → (ℕ → Bool) → List Wire → ℕ → Bool → Bool
chained_from f v a i x = chained f x (values v (drop i a))

pub chained_more : (f : Bool → Bool → Bool) (v : ℕ → Bool) (a : List Wire) (i : ℕ) (x : Bool) → i < length a
    → chained_from f v a i x ≡ chained_from f v a (i + 1) (f x (wire_value v (get_or a i no_wire)))
chained_more f v a i x p = rw (values_drop v a i p) refl

pub chained_end : (f : Bool → Bool → Bool) (v : ℕ → Bool) (a : List Wire) (i : ℕ) (x : Bool) → length a ≤ i → chained_from f v a i x ≡ x
chained_end f v a i x p = rw (values_end v a i p) refl

-- one of two words by a bit, place by place
pub between_is : (x : Bool) (xs ys : List Bool) → length xs ≡ length ys → each_place (λ a b. if x then a else b) xs ys ≡ (if x then xs else ys)
between_is true [] [] h = refl
between_is false [] [] h = refl
between_is true [] (y ∷ ys) h = absurd (omega arith)
between_is false [] (y ∷ ys) h = absurd (omega arith)
between_is true (x ∷ xs) [] h = absurd (omega arith)
between_is false (x ∷ xs) [] h = absurd (omega arith)
between_is true (x ∷ xs) (y ∷ ys) h = ap (λ l. x ∷ l) (between_is true xs ys (omega arith))
between_is false (x ∷ xs) (y ∷ ys) h = ap (λ l. y ∷ l) (between_is false xs ys (omega arith))

-- each bit of a word by a test, from place i on
abbrev pub mapped_from : (Bool → Bool) → (ℕ → Bool) → List Wire → ℕ → List Bool
mapped_from f v a i = map f (values v (drop i a))

pub mapped_more : (f : Bool → Bool) (v : ℕ → Bool) (a : List Wire) (i : ℕ) → i < length a
    → mapped_from f v a i ≡ f (wire_value v (get_or a i no_wire)) ∷ mapped_from f v a (i + 1)
mapped_more f v a i p = rw (values_drop v a i p) refl

pub mapped_end : (f : Bool → Bool) (v : ℕ → Bool) (a : List Wire) (i : ℕ) → length a ≤ i → mapped_from f v a i ≡ []
mapped_end f v a i p = rw (values_end v a i p) refl

-- what is picked from place i on
abbrev pub picked_from : (ℕ → Bool) → List Wire → List Wire → List Wire → ℕ → List Bool
picked_from v a b c i = picked (values v (drop i a)) (values v (drop i b)) (values v (drop i c))

pub picked_more : (v : ℕ → Bool) (a b c : List Wire) (i : ℕ) → i < length a → i < length b → i < length c
    → picked_from v a b c i ≡ (if wire_value v (get_or c i no_wire) then wire_value v (get_or a i no_wire) else wire_value v (get_or b i no_wire)) ∷ picked_from v a b c (i + 1)
picked_more v a b c i p q r = rw (values_drop v a i p, values_drop v b i q, values_drop v c i r) refl

pub picked_end : (v : ℕ → Bool) (a b c : List Wire) (i : ℕ) → length a ≤ i → picked_from v a b c i ≡ []
picked_end v a b c i p = rw (values_end v a i p) refl
