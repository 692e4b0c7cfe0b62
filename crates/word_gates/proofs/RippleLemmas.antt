-- Sums and carries from a place on, and words that are inverted or repeated.
use Rattle.std.proofs.Common.{◌≡◌, ℕ, zero, suc, ◌+◌, ◌-◌, ◌/◌, ◌<◌, ◌≤◌, Bool, false, not, List, [], ◌∷◌, ◌++◌, length, take, drop, replicate, get_or, arith, refl, sym, ◌∙◌}
use Rattle.std.specs.List.{take-map}
use Rattle.std.proofs.lemmas.List.{map-append, length-map, append_assoc, append-nil}
use Rattle.gate_graph.specs.declared.wires.Wire.{Wire}
use Rattle.gate_graph.specs.declared.nodes.Node.{Node}
use Rattle.gate_graph.specs.Gates.{wire_value, IsOf, AreOf, Means}
use Rattle.bit_base.specs.Operators.{differ}
use Rattle.word_gates.specs.Ripple.{carry_of, sum_bits, carry_bits, with_sign_inverted}
use Rattle.word_gates.specs.Words.{values, Shows}
use Rattle.word_gates.proofs.WordLemmas.{no_wire, values_drop, values_end, are_of_cons, are_of_none, are_of_push}

abbrev pub sums_from : (ℕ → Bool) → List Wire → List Wire → ℕ → Bool → List Bool
sums_from v a b i c = sum_bits (values v (drop i a)) (values v (drop i b)) c

pub sums_more : (v : ℕ → Bool) (a b : List Wire) (i : ℕ) (c : Bool) → i < length a → i < length b
    → sums_from v a b i c ≡ differ (differ (wire_value v (get_or a i no_wire)) (wire_value v (get_or b i no_wire))) c
    ∷ sums_from v a b (i + 1) (carry_of (wire_value v (get_or a i no_wire)) (wire_value v (get_or b i no_wire)) c)
sums_more v a b i c p q = rw (values_drop v a i p, values_drop v b i q) refl

pub sums_end : (v : ℕ → Bool) (a b : List Wire) (i : ℕ) (c : Bool) → length a ≤ i → sums_from v a b i c ≡ []
sums_end v a b i c p = rw (values_end v a i p) refl

abbrev pub carries_from : (ℕ → Bool) → List Wire → List Wire → ℕ → Bool → Bool
carries_from v a b i c = carry_bits (values v (drop i a)) (values v (drop i b)) c

pub carries_more : (v : ℕ → Bool) (a b : List Wire) (i : ℕ) (c : Bool) → i < length a → i < length b
    → carries_from v a b i c ≡ carries_from v a b (i + 1) (carry_of (wire_value v (get_or a i no_wire)) (wire_value v (get_or b i no_wire)) c)
carries_more v a b i c p q = rw (values_drop v a i p, values_drop v b i q) refl

pub carries_end : (v : ℕ → Bool) (a b : List Wire) (i : ℕ) (c : Bool) → length a ≤ i → carries_from v a b i c ≡ c
carries_end v a b i c p = rw (values_end v a i p) refl

-- an inverted wire
pub means_inverted : (nodes : List Node) (w u : Wire) → IsOf w nodes → u.0 / 2 ≡ w.0 / 2 → ((v : ℕ → Bool) → wire_value v u ≡ not (wire_value v w)) → Means nodes u (λ v. not (wire_value v w))
means_inverted nodes w u of same value = record { of = omega arith; value = λ v r. value v }

-- so many times the same wire
pub shows_repeated : (nodes : List Node) (w : Wire) (bit : (ℕ → Bool) → Bool) (n : ℕ) → Means nodes w bit → Shows nodes (replicate n w) (λ v. replicate n (bit v))
shows_repeated nodes w bit zero m = record { of = are_of_none nodes; value = λ v r. refl }
shows_repeated nodes w bit (suc n) m =
    let rest : Shows nodes (replicate n w) (λ v. replicate n (bit v)) = shows_repeated nodes w bit n m in
    record {
      of = are_of_cons w (replicate n w) nodes m.of rest.of;
      value = λ v r. rw (m.value v r, rest.value v r) refl;
    }

pub repeated_more : (w : Wire) (done : List Wire) (i n : ℕ) → i < n → done ++ replicate (n - i) w ≡ replicate n w → (done ++ w ∷ []) ++ replicate (n - (i + 1)) w ≡ replicate n w
repeated_more w done i n lt h = let e : n - i ≡ suc (n - (i + 1)) = omega arith in rw append_assoc (rw e at h)

pub repeated_end : (w : Wire) (done : List Wire) (i n : ℕ) → n ≤ i → done ++ replicate (n - i) w ≡ replicate n w → done ≡ replicate n w
repeated_end w done i n le h = let e : n - i ≡ 0 = omega arith in sym (append-nil done) ∙ (rw e at h)

pub values_at : (v : ℕ → Bool) (a : List Wire) (i : ℕ) → i < length a → get_or (values v a) i false ≡ wire_value v (get_or a i no_wire)
values_at v [] i h = absurd (omega arith)
values_at v (w ∷ a) zero h = refl
values_at v (w ∷ a) (suc i) h = values_at v a i (omega arith)

pub are_of_take : (a : List Wire) (n : ℕ) (nodes : List Node) → AreOf a nodes → AreOf (take n a) nodes
are_of_take [] zero nodes h = h
are_of_take [] (suc n) nodes h = h
are_of_take (w ∷ a) zero nodes h = are_of_none nodes
are_of_take (w ∷ a) (suc n) nodes h = are_of_cons w (take n a) nodes (h.each 0 w refl) (are_of_take a n nodes (record { each = λ i u at. h.each (suc i) u at }))

pub shows_sign_inverted : (nodes : List Node) (a : List Wire) (w : Wire) → 0 < length a → AreOf a nodes → Means nodes w (λ v. not (wire_value v (get_or a (length a - 1) no_wire)))
    → Shows nodes (take (length a - 1) a ++ w ∷ []) (λ v. with_sign_inverted (values v a))
shows_sign_inverted nodes a w h of m = record {
  of = are_of_push (take (length a - 1) a) w nodes (are_of_take a (length a - 1) nodes of) m.of;
  value = λ v r.
      let last : length a - 1 < length a = omega arith in
      let grown : values v (take (length a - 1) a ++ w ∷ []) ≡ values v (take (length a - 1) a) ++ wire_value v w ∷ [] = map-append (wire_value v) (take (length a - 1) a) (w ∷ []) in
      rw (grown, m.value v r, length-map a (wire_value v), values_at v a (length a - 1) last, take-map (wire_value v) (length a - 1) a) refl;
}
