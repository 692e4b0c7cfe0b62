-- Words of wires without gates.
use Rattle.std.proofs.Common.{◌≡◌, ℕ, zero, suc, ◌+◌, ◌-◌, ◌/◌, ◌%◌, ◌==◌, ◌<◌, ◌≤◌, Bool, true, false, if◌then◌else◌, List, [], ◌∷◌, ◌++◌, length, take, get_or, map, ◌^◌, refl, sym, ap, ◌∙◌, arith, append_assoc, inl, inr}
use Rattle.std.proofs.lemmas.List.{append-nil, map-append, length-map, length-append}
use Rattle.std.proofs.lemmas.Bool.{cases_Bool}
use Rattle.bit_base.specs.Numbers.{number_of, low_bits}
use Rattle.bit_base.proofs.Numbers.{number_of-append, number_of-below, low_bits-number_of}
use Rattle.gate_graph.specs.declared.wires.Wire.{Wire}
use Rattle.gate_graph.specs.declared.nodes.Node.{Node}
use Rattle.gate_graph.specs.Gates.{wire_value, IsOf, AreOf, Means}
use Rattle.word_gates.specs.Words.{values, Shows}
use Rattle.word_gates.proofs.WordLemmas.{no_wire, are_of_cons, are_of_none, are_of_append}
use Rattle.std.specs.Prelude.{replicate, ◌||◌}
use Rattle.bit_base.specs.Operators.{or_of}
use Rattle.extra_gates.specs.Graphs.{placed}

pub placed-push : (wires : List Wire) (width place left : ℕ) (one none : Wire) (all : List Wire) → place < width → wires ++ placed (width - place) left one none ≡ all
    → (wires ++ (if left % 2 == 1 then one else none) ∷ []) ++ placed (width - (place + 1)) (left / 2) one none ≡ all
placed-push wires width place left one none all more is =
    let e : width - place ≡ suc (width - (place + 1)) = omega arith in
    rw append_assoc (rw e at is)

pub placed-end : (wires : List Wire) (width place left : ℕ) (one none : Wire) (all : List Wire) → width ≤ place → wires ++ placed (width - place) left one none ≡ all → wires ≡ all
placed-end wires width place left one none all le is =
    let e : width - place ≡ 0 = omega arith in
    sym (append-nil wires) ∙ (rw e at is)

pub placed_long : (width n : ℕ) (one none : Wire) → length (placed width n one none) ≡ width
placed_long zero n one none = refl
placed_long (suc width) n one none = rw (placed_long width (n / 2) one none) (omega arith)

-- a number where the wire is true, else 0
pub placed_shows : (nodes : List Node) (one none : Wire) → IsOf one nodes → Means nodes none (λ v. false) → (width n : ℕ) → Shows nodes (placed width n one none) (λ v. low_bits width (if wire_value v one then n else 0))
placed_shows nodes one none h m width n = record { of = of_places width n; value = λ v r. by v (m.value v r) width n }
  where
    of_places : (width n : ℕ) → AreOf (placed width n one none) nodes
    of_places zero n = are_of_none nodes
    of_places (suc width) n = are_of_cons (if n % 2 == 1 then one else none) (placed width (n / 2) one none) nodes (either (n % 2 == 1)) (of_places width (n / 2))
      where
        either : (b : Bool) → IsOf (if b then one else none) nodes
        either true = h
        either false = m.of

    place : (v : ℕ → Bool) → wire_value v none ≡ false → (b : Bool) (n : ℕ) → (n % 2 == 1) ≡ b → wire_value v (if b then one else none) ≡ ((if wire_value v one then n else 0) % 2 == 1)
    place v z true n e = elim (cases_Bool (wire_value v one)) [
      | inl t ↦ rw (t, e) refl
      | inr f ↦ rw f refl
    ]
    place v z false n e = elim (cases_Bool (wire_value v one)) [
      | inl t ↦ rw (z, t, e) refl
      | inr f ↦ rw (z, f) refl
    ]

    half : (b : Bool) (n : ℕ) → (if b then n else 0) / 2 ≡ (if b then n / 2 else 0)
    half true n = refl
    half false n = refl

    by : (v : ℕ → Bool) → wire_value v none ≡ false → (width n : ℕ) → values v (placed width n one none) ≡ low_bits width (if wire_value v one then n else 0)
    by v z zero n = refl
    by v z (suc width) n = rw (place v z (n % 2 == 1) n refl, by v z width (n / 2), half (wire_value v one) n) refl

-- a word with two more places that are false
pub widened_shows : (nodes : List Node) (a : List Wire) (none : Wire) → AreOf a nodes → Means nodes none (λ v. false) → Shows nodes (a ++ (none ∷ (none ∷ []))) (λ v. low_bits (length a + 2) (number_of (values v a)))
widened_shows nodes a none h m = record {
  of = are_of_append a (none ∷ (none ∷ [])) nodes h (are_of_cons none (none ∷ []) nodes m.of (are_of_cons none [] nodes m.of (are_of_none nodes)));
  value = λ v r.
      let z : wire_value v none ≡ false = m.value v r in
      map-append (wire_value v) a (none ∷ (none ∷ [])) ∙ (rw z (wide (values v a) (length a) (length-map a (wire_value v))));
}
  where
    wide : (bits : List Bool) (w : ℕ) → length bits ≡ w → bits ++ (false ∷ (false ∷ [])) ≡ low_bits (w + 2) (number_of bits)
    wide bits w h =
        let same : number_of (bits ++ (false ∷ (false ∷ []))) ≡ number_of bits = number_of-append bits (false ∷ (false ∷ [])) ∙ (omega arith) in
        let long : length (bits ++ (false ∷ (false ∷ []))) ≡ w + 2 = rw (length-append bits (false ∷ (false ∷ [])), h) refl in
        sym (rw (long, same) at (low_bits-number_of (bits ++ (false ∷ (false ∷ [])))))

-- a word, each place true also where the wire is
pub ends_are : (v : ℕ → Bool) (a : List Wire) (w : Wire) → or_of (values v a) (values v (replicate (length a) w)) ≡ map (λ x. x || wire_value v w) (values v a)
ends_are v [] w = refl
ends_are v (x ∷ a) w = ap (λ l. (wire_value v x || wire_value v w) ∷ l) (ends_are v a w)

-- the value of a wire of a word, and of its first places
pub value_at : (v : ℕ → Bool) (a : List Wire) (i : ℕ) → i < length a → wire_value v (get_or a i no_wire) ≡ get_or (values v a) i false
value_at v [] i h = absurd (omega arith)
value_at v (x ∷ a) zero h = refl
value_at v (x ∷ a) (suc i) h = value_at v a i (omega arith)

pub values_take : (v : ℕ → Bool) (a : List Wire) (n : ℕ) → values v (take n a) ≡ take n (values v a)
values_take v a zero = refl
values_take v [] (suc n) = refl
values_take v (x ∷ a) (suc n) = ap (λ l. wire_value v x ∷ l) (values_take v a n)

pub are_of_take : (a : List Wire) (n : ℕ) (nodes : List Node) → AreOf a nodes → AreOf (take n a) nodes
are_of_take a zero nodes h = are_of_none nodes
are_of_take [] (suc n) nodes h = are_of_none nodes
are_of_take (x ∷ a) (suc n) nodes h = are_of_cons x (take n a) nodes (h.each 0 x refl) (are_of_take a n nodes record { each = λ i w at. h.each (suc i) w at })

pub below_length : (v : ℕ → Bool) (a : List Wire) → number_of (values v a) < 2 ^ length a
below_length v a = rw (length-map a (wire_value v)) at (number_of-below (values v a))
